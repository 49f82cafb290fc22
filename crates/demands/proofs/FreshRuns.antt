-- Calls from a fresh start, each with the state and the tables as last left, by nothing but what they promise. Assumes nothing.
use Prim.Native.Nat.{ℕ, suc, ◌-◌, ◌<◌}
use mathlib.Core.Path.{◌≡◌, ap, sym, subst, ◌∙◌}
use mathlib.Core.Bool.{Bool, true}
use mathlib.Core.List.{List, [], ◌∷◌, ◌++◌}
use mathlib.Core.Logic.{◌↔◌}
use lib.ListN.{length, get_or}
use Rattle.trees.specs.Bits.{Bits}
use Rattle.trees.specs.Tree.{off, eval}
use Rattle.meaning.specs.declared.Event.{Event}
use Rattle.meaning.specs.declared.Answer.{Answer}
use Rattle.meaning.specs.declared.Answer.TheVariants.{Started, Verdict}
use Rattle.meaning.specs.Qtl.{Assignment, SameFacts, SameEvents, Holds}
use Rattle.meaning.specs.Rows.{rule_of, formula_at}
use Rattle.meaning.specs.Numbering.{shown, Shows}
use Rattle.meaning.specs.Outcome.{facts_of, start_outcome, Machine, machine_of, shows, event_outcome, runs, answers, taken_of, log}
use Rattle.meaning.specs.Verdicts.{Sized, Answered}
use Rattle.meaning.specs.Disguise.{Disguise, Disguised, DisguisedLog, Alike}
use Rattle.meaning.proofs.OrderLaws.{same_length, same_snoc, same_holds}
use Rattle.meaning.proofs.FromStart.{after, facts}
use Rattle.meaning.proofs.Demands
use Rattle.monitor.specs.Runs.{Fresh, Call, Calls, taken_in}
use Rattle.demands.proofs.RunLaws.{fresh_started, fresh_is, call_left, calls_left, taken_are}

module _ (k : ℕ) (rows nodes values : List ℕ) (m₀ : Machine) (fresh : Fresh k rows nodes values m₀) (es : List Event) (xs : List Answer) (m : Machine) (calls : Calls rows m₀ es xs m) where
  started : (start_outcome k rows nodes values).answer ≡ Started
  started = fresh_started k rows nodes values m₀ fresh

  after_is : after k rows nodes values m₀.work started es ≡ m
  after_is = sym ((calls_left rows es xs m₀ m calls).0 ∙ ap (λ (x : Machine). runs rows x es) (fresh_is k rows nodes values m₀ fresh))

  facts_are : facts k rows nodes values m₀.work started es ≡ taken_in es xs
  facts_are =
      ap (λ (x : Machine). taken_of rows x es) (sym (fresh_is k rows nodes values m₀ fresh)) ∙ sym (taken_are rows es m₀) ∙ ap (taken_in es) (sym (calls_left rows es xs m₀ m calls).1)

  pub run_sets : (i : ℕ) → i < length (rule_of rows) → (s : Bits) (a : Assignment) → Shows k (shows rows m).lists s a
      → (eval (get_or (shows rows m).trees i off) s ≡ true) ↔ Holds (log (taken_in es xs)) (formula_at (rule_of rows) i) (length (taken_in es xs)) a
  run_sets = rw (after_is, facts_are) at (Demands.kept_sets k rows nodes values m₀.work started es)

  pub run_numbers : (a : Assignment) → Shows k (shows rows m).lists (shown k (shows rows m).lists a) a
  run_numbers = rw after_is at (Demands.every_assignment k rows nodes values m₀.work started es)

  pub run_sizes : Sized rows m
  run_sizes = rw after_is at (Demands.sizes_kept k rows nodes values m₀.work started es)

  pub run_verdict : (e : Event) (y : Bool) (n r : ℕ) (m' : Machine) → Call rows m e (Verdict y n r) m' → Answered rows m e y n r m' (taken_in es xs)
  run_verdict e y n r m' c =
      subst (λ (x : Machine). Answered rows m e y n r x (taken_in es xs)) (sym (call_left rows m m' e (Verdict y n r) c))
      ((rw (after_is, facts_are) at (Demands.verdicts k rows nodes values m₀.work started es e y n r)) (sym c.answer))

-- two runs of one rule, with any k and any tables, that took the same facts, event by event, in whatever order within each
module _ (k k' : ℕ) (rows nodes values nodes' values' : List ℕ) (m₀ n₀ : Machine) (a : Fresh k rows nodes values m₀) (b : Fresh k' rows nodes' values' n₀)
    (es fs : List Event) (xs ys : List Answer) (m n : Machine) (c : Calls rows m₀ es xs m) (d : Calls rows n₀ fs ys n) (same : SameEvents (taken_in es xs) (taken_in fs ys)) where
  pub same_sets : (i : ℕ) → i < length (rule_of rows) → (x : Assignment) (s s' : Bits) → Shows k (shows rows m).lists s x → Shows k' (shows rows n).lists s' x
      → eval (get_or (shows rows m).trees i off) s ≡ eval (get_or (shows rows n).trees i off) s'
  same_sets i h x s s' w w' =
      same_holds (taken_in es xs) (taken_in fs ys) same (formula_at (rule_of rows) i) (length (taken_in es xs)) x _ _ (run_sets k rows nodes values m₀ a es xs m c i h s x w)
      (rw (same_length (taken_in es xs) (taken_in fs ys) same) (run_sets k' rows nodes' values' n₀ b fs ys n d i h s' x w'))

  pub same_verdict : (e f : Event) → SameFacts (facts_of e) (facts_of f) → (y z : Bool) (i r j s : ℕ) (m' n' : Machine) → Call rows m e (Verdict y i r) m' → Call rows n f (Verdict z j s) n' → y ≡ z
  same_verdict e f t y z i r j s m' n' p q =
      same_holds (taken_in es xs ++ facts_of e ∷ []) (taken_in fs ys ++ facts_of f ∷ []) (same_snoc (taken_in es xs) (taken_in fs ys) (facts_of e) (facts_of f) same t)
      (formula_at (rule_of rows) (length (rule_of rows) - 1)) (suc (length (taken_in es xs))) (λ v. 0) y z
      ((run_verdict k rows nodes values m₀ a es xs m c e y i r m' p).verdict (λ v. 0))
      (rw (same_length (taken_in es xs) (taken_in fs ys) same) ((run_verdict k' rows nodes' values' n₀ b fs ys n d f z j s n' q).verdict (λ v. 0)))

-- a log and its disguise
module _ (k : ℕ) (rows nodes values nodes' values' : List ℕ) (m₀ n₀ : Machine) (plain : Fresh k rows nodes values m₀) (hidden : Fresh k rows nodes' values' n₀)
    (same_nodes : length nodes' ≡ length nodes) (same_values : length values' ≡ length values) (same-work : length n₀.work ≡ length m₀.work)
    (es fs : List Event) (π : ℕ → ℕ) (xs ys : List Answer) (m n : Machine) (plain-calls : Calls rows m₀ es xs m) (hidden-calls : Calls rows n₀ fs ys n) where
  plain_left : m ≡ runs rows (machine_of (start_outcome k rows nodes values) m₀.work) es
  plain_left = (calls_left rows es xs m₀ m plain-calls).0 ∙ ap (λ (x : Machine). runs rows x es) (fresh_is k rows nodes values m₀ plain)

  hidden_left : n ≡ runs rows (machine_of (start_outcome k rows nodes' values') n₀.work) fs
  hidden_left = (calls_left rows fs ys n₀ n hidden-calls).0 ∙ ap (λ (x : Machine). runs rows x fs) (fresh_is k rows nodes' values' n₀ hidden)

  module _ (d : Disguise (rule_of rows) es π) (l : DisguisedLog π es fs) where
    pub both_answer : ys ≡ xs
    both_answer =
        (calls_left rows fs ys n₀ n hidden-calls).1 ∙ ap (λ (x : Machine). answers rows x fs) (fresh_is k rows nodes' values' n₀ hidden)
        ∙ Demands.same_answers k rows nodes values m₀.work nodes' values' n₀.work (fresh_started k rows nodes values m₀ plain) same_nodes same_values same-work es fs π d l
        ∙ ap (λ (x : Machine). answers rows x es) (sym (fresh_is k rows nodes values m₀ plain)) ∙ sym (calls_left rows es xs m₀ m plain-calls).1

    pub both_alike : Alike π rows m n
    both_alike =
        rw (plain_left, hidden_left) (Demands.same_tables k rows nodes values m₀.work nodes' values' n₀.work (fresh_started k rows nodes values m₀ plain) same_nodes same_values same-work es fs π d l)

  pub hidden_verdict : (e f : Event) → Disguise (rule_of rows) (es ++ e ∷ []) π → DisguisedLog π es fs → Disguised π e f → (n' : Machine) (y : Bool) (i r : ℕ) → Call rows n f (Verdict y i r) n'
      → (a : Assignment) → (y ≡ true) ↔ Holds (log (taken_in es xs ++ facts_of e ∷ [])) (formula_at (rule_of rows) (length (rule_of rows) - 1)) (suc (length (taken_in es xs))) a
  hidden_verdict e f d l g n' y i r q a =
      rw (facts_are k rows nodes values m₀ plain es xs m plain-calls) at
      (Demands.hidden_verdicts k rows nodes values m₀.work nodes' values' n₀.work (fresh_started k rows nodes values m₀ plain) same_nodes same_values same-work es fs e f π d l g y i r
      (ap (λ (x : Machine). (event_outcome rows x f).answer) (sym hidden_left) ∙ sym q.answer) a)

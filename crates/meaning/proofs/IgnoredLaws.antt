-- "Values past an event's count are ignored", and facts past it: events that differ only there have one outcome, and so have logs. Assumes nothing.
use Prim.Native.Nat.{ℕ}
use mathlib.Core.Path.{◌≡◌, refl, ap, ap₂, sym, ◌∙◌}
use mathlib.Core.Bool.{Bool, ◌&&◌}
use mathlib.Core.List.{List, [], ◌∷◌, map}
use lib.Dec.{leb}
use Rattle.meaning.specs.declared.Event.{Event}
use Rattle.meaning.specs.declared.Fact.{Fact as Given}
use Rattle.meaning.specs.declared.Answer.{Answer}
use Rattle.meaning.specs.Qtl.{Fact}
use Rattle.meaning.specs.Rows.{Row, truth, atom, both, neg, since, previous, exists, rule_of}
use Rattle.meaning.specs.Outcome.{fact_of, given, facts_of, Each, SameGiven, SameEvent, agrees, all_agree, fact_right, all_right, count_right, Decision, taken, refused, Machine, EventOutcome, decide_event, settle_event, event_outcome, runs, answers}
use Rattle.meaning.specs.Disguise.{disguised_given, disguised, HiddenFact, Disguised, DisguisedLog}
use Rattle.meaning.proofs.DisguiseLaws.{fact_of_law, given_of}

module _ (f g : Given) (same : SameGiven f g) where
  predicate_is : g.predicate ≡ f.predicate
  unfolding fact_of
  predicate_is = ap (λ (x : Fact). x.predicate) same.0

  agree_is : (rs : List Row) → all_agree g rs ≡ all_agree f rs
  unfolding all_agree agrees
  agree_is [] = refl
  agree_is (truth ∷ rs) = agree_is rs
  agree_is (atom p gs ∷ rs) = rw (agree_is rs, predicate_is, same.1)
  agree_is (both l r ∷ rs) = agree_is rs
  agree_is (neg r ∷ rs) = agree_is rs
  agree_is (since l r ∷ rs) = agree_is rs
  agree_is (previous r ∷ rs) = agree_is rs
  agree_is (exists x r ∷ rs) = agree_is rs

  fact_is : (rs : List Row) → fact_right rs g ≡ fact_right rs f
  unfolding fact_right
  fact_is rs = ap₂ (λ (n : ℕ) (b : Bool). leb n 3 && b) same.1 (agree_is rs)

rights_are : (rs : List Row) (fs gs : List Given) → Each SameGiven fs gs → all_right rs gs ≡ all_right rs fs
unfolding all_right
rights_are rs [] [] s = refl
rights_are rs [] (g ∷ gs) s = absurd s
rights_are rs (f ∷ fs) [] s = absurd s
rights_are rs (f ∷ fs) (g ∷ gs) s = ap₂ (λ (x y : Bool). x && y) (fact_is f g s.0 rs) (rights_are rs fs gs s.1)

facts_are : (fs gs : List Given) → Each SameGiven fs gs → map fact_of gs ≡ map fact_of fs
facts_are [] [] s = refl
facts_are [] (g ∷ gs) s = absurd s
facts_are (f ∷ fs) [] s = absurd s
facts_are (f ∷ fs) (g ∷ gs) s = ap₂ (λ (x : Fact) (l : List Fact). x ∷ l) s.0.0 (facts_are fs gs s.1)

module _ (e f : Event) (same : SameEvent e f) where
  same_facts : facts_of f ≡ facts_of e
  unfolding facts_of
  same_facts = facts_are (given e) (given f) same.1

  count_is : (rs : List Row) → count_right rs f ≡ count_right rs e
  unfolding count_right
  count_is rs = ap₂ (λ (n : ℕ) (b : Bool). leb n 8 && b) same.0 (rights_are rs (given e) (given f) same.1)

  decide_is : (rows : List ℕ) (m : Machine) → decide_event rows m f ≡ decide_event rows m e
  unfolding decide_event
  decide_is rows m = rw (count_is (rule_of rows), same_facts)

  settle_is : (d : Decision) (rows : List ℕ) (m : Machine) → settle_event d rows m f ≡ settle_event d rows m e
  unfolding settle_event
  settle_is taken rows m = rw same_facts
  settle_is (refused n p) rows m = refl

  -- one outcome: the answer, the state and every slice
  pub ignored : (rows : List ℕ) (m : Machine) → event_outcome rows m f ≡ event_outcome rows m e
  unfolding event_outcome
  ignored rows m = ap (λ (d : Decision). settle_event d rows m f) (decide_is rows m) ∙ settle_is (decide_event rows m e) rows m

-- facts in disguise are those with all their values disguised, but for what is ignored
hidden_each : (π : ℕ → ℕ) (fs gs : List Given) → Each (HiddenFact π) fs gs → Each SameGiven (map (disguised_given π) fs) gs
hidden_each π [] [] d = tt
hidden_each π [] (g ∷ gs) d = absurd d
hidden_each π (f ∷ fs) [] d = absurd d
hidden_each π (f ∷ fs) (g ∷ gs) d = ((d.0.0 ∙ sym (fact_of_law π f), d.0.1 ∙ (unfold disguised_given in refl)), hidden_each π fs gs d.1)

-- and so is an event
pub disguised_same : (π : ℕ → ℕ) (e f : Event) → Disguised π e f → SameEvent (disguised π e) f
unfolding disguised
disguised_same π e f d = (d.0, rw (given_of π e) (hidden_each π (given e) (given f) d.1))

-- so a log in disguise runs as that one does
pub disguised_runs : (π : ℕ → ℕ) (rows : List ℕ) (es fs : List Event) (m : Machine) → DisguisedLog π es fs
    → (runs rows m fs ≡ runs rows m (map (disguised π) es)) × (answers rows m fs ≡ answers rows m (map (disguised π) es))
unfolding DisguisedLog runs answers
disguised_runs π rows [] [] m d = (refl, refl)
disguised_runs π rows [] (f ∷ fs) m d = absurd d
disguised_runs π rows (e ∷ es) [] m d = absurd d
disguised_runs π rows (e ∷ es) (f ∷ fs) m d =
    let o = ignored (disguised π e) f (disguised_same π e f d.0) rows m in
    let r = disguised_runs π rows es fs (event_outcome rows m f).left d.1 in (
      r.0 ∙ ap (λ (x : EventOutcome). runs rows x.left (map (disguised π) es)) o,
      ap₂ (λ (a : Answer) (l : List Answer). a ∷ l) (ap (λ (x : EventOutcome). x.answer) o) (r.1 ∙ ap (λ (x : EventOutcome). answers rows x.left (map (disguised π) es)) o),
    )

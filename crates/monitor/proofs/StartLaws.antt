-- Laws of a start: what is decided of it, and what the decision leaves. Assumes nothing.
use Prim.Native.Nat.{ℕ, ◌/◌, ◌≤◌}
use mathlib.Core.Path.{◌≡◌, refl, ap, sym, ◌∙◌}
use mathlib.Core.Bool.{Bool, true, false, ◌&&◌}
use mathlib.Core.List.{List}
use Rattle.std.specs.Prelude.{Result, Ok, Err}
use native.Mathlib.Omega.{arith}
use lib.Dec.{ltb, leb}
use lib.ListN.{length, replicate}
use borrow.Author.Tests.{leb-true}
use Rattle.trees.proofs.Tests.{and_true_r}
use Rattle.meaning.specs.declared.Turn.{Turn}
use Rattle.meaning.specs.Rows.{count_of_rows, Found, right, fault, check_rows}
use Rattle.meaning.specs.Outcome
use Rattle.meaning.specs.Outcome.{k_right, nodes_right, values_right, taken, refused, judge_start, StartOutcome, settle_start, decide_start, start_outcome}
use Rattle.meaning.proofs.RowsLaws.{checked}
use Rattle.monitor.specs.declared.refusals.Refusal.{Refusal}
use Rattle.monitor.specs.Decisions.{number_of, place_of, decision_of}
use Rattle.monitor.specs.Calls.{refused_turn, started_turn, Starts}

-- a k that is right is small
pub k_small : (k : ℕ) → k_right k ≡ true → k ≤ 10
unfolding k_right
k_small k a = leb-true k 10 (and_true_r (ltb 0 k) (leb k 10) a)

-- a right rule has few rows
pub few_rows : (rows : List ℕ) → check_rows rows ≡ right → length rows / 9 ≤ 64
unfolding count_of_rows
few_rows rows e = (checked rows e).most

-- a decision to take is made of a right rule
judged : (a : Bool) (f : Found) (b : Bool) → judge_start a f b ≡ taken → f ≡ right
unfolding judge_start
judged false f b e = let z : ◌≡◌ {A = ℕ} 0 1 = cc in absurd (omega arith)
judged true (fault p) b e = let z : ◌≡◌ {A = ℕ} 0 1 = cc in absurd (omega arith)
judged true right b e = refl

module _ (k : ℕ) (rows nodes values : List ℕ) where
  -- the outcome of a decision
  settled : (d : Outcome.Decision) → decide_start k rows nodes values ≡ d → start_outcome k rows nodes values ≡ settle_start d k (count_of_rows rows) nodes values
  unfolding start_outcome
  settled d e = ap (λ (x : Outcome.Decision). settle_start x k (count_of_rows rows) nodes values) e

  module _ {A : Type 0} (r : Result A Refusal) (e : decision_of r ≡ judge_start (k_right k) (check_rows rows) (nodes_right nodes && values_right k values)) where
    -- the decision is that of the definition
    decided : decide_start k rows nodes values ≡ decision_of r
    unfolding decide_start
    decided = sym e

    -- a start that is refused writes nothing
    pub refuses : (q : Refusal) (t : Turn) (ns vs : List ℕ) → r ≡ Err q → t ≡ refused_turn (number_of q) (place_of q) → ns ≡ nodes → vs ≡ values → Starts k rows nodes values t ns vs
    unfolding settle_start refused_turn
    refuses q t ns vs p g a b =
        let o = settled (refused (number_of q) (place_of q)) (decided ∙ ap decision_of p) in
        rw (g, a, b) (record {
          answer = sym (ap (λ (y : StartOutcome). y.answer) o);
          state = sym (ap (λ (y : StartOutcome). y.state) o);
          nodes_are = sym (ap (λ (y : StartOutcome). y.nodes) o);
          values_are = sym (ap (λ (y : StartOutcome). y.values) o);
        })

    -- a start that is taken has a right rule
    pub right_rule : (x : A) → r ≡ Ok x → check_rows rows ≡ right
    right_rule x p = judged (k_right k) (check_rows rows) (nodes_right nodes && values_right k values) (sym e ∙ ap decision_of p)

    -- a start that is taken clears both tables
    pub starts : (x : A) (t : Turn) (ns vs : List ℕ) → r ≡ Ok x → t ≡ started_turn k (length rows / 9) → ns ≡ replicate (length nodes) 0 → vs ≡ replicate (length values) 0
        → Starts k rows nodes values t ns vs
    unfolding settle_start started_turn count_of_rows
    starts x t ns vs p g a b =
        let o = settled taken (decided ∙ ap decision_of p) in
        rw (g, a, b) (record {
          answer = sym (ap (λ (y : StartOutcome). y.answer) o);
          state = sym (ap (λ (y : StartOutcome). y.state) o);
          nodes_are = sym (ap (λ (y : StartOutcome). y.nodes) o);
          values_are = sym (ap (λ (y : StartOutcome). y.values) o);
        })

-- Laws of the sweep of all rows: what it adds, answers and counts. Assumes nothing.
use Prim.Native.Nat.{ℕ, zero, suc, ◌+◌, ◌*◌, ◌≤◌, ◌<◌}
use mathlib.Core.Path.{◌≡◌, refl, ap, ◌∙◌}
use mathlib.Core.Bool.{true}
use mathlib.Core.List.{List, [], ◌∷◌, map}
use native.Mathlib.Omega.{arith}
use lib.Dec.{ltb}
use borrow.Author.Tests.{ltb-true}
use lib.ListN.{length, get_or}
use Rattle.trees.specs.Tree.{Tree, Fine}
use Rattle.trees.specs.Table.{add_trees, at, trees_of, Ref}
use Rattle.trees.proofs.TableLaws.{Closed, closed_nil, closed_add, adds_goes, goes_ref}
use Rattle.trees.proofs.ReadLaws.{Back, One}
use Rattle.visits.specs.Visits.{Went, sweep, Swept, sweeps, Right, Answered, AnsweredAll}
use Rattle.visits.proofs.VisitLaws.{remembered, Held, Tells, walk_tells, remembered_le}
use Rattle.visits.proofs.AnswerLaws.{walk_answers}
use Rattle.visits.proofs.AskedLaws.{sweep_asks}

-- each of some references leads to a diagram over the levels
abbrev pub Leads : List ℕ → ℕ → ℕ → List ℕ → Type 0
Leads ns m hi rs = (i : ℕ) → i < length rs → (get_or rs i 0 < m + 2) × Fine 0 hi (at (trees_of ns m) (get_or rs i 0))

-- the sweep of all rows: it makes a visit for each row and two for each place newly noted, and notes only places of the table
pub record AllSwept (ns : List ℕ) (m : ℕ) (us : List Tree) (notes rs : List ℕ) (w : Swept) : Type 0 where
  pub answered : AnsweredAll ns m us rs w
  pub count : w.visits + 2 * remembered m notes ≡ length rs + 2 * remembered m w.notes
  pub held : Held ns m notes us → Held ns m w.notes w.table

module _ (ns : List ℕ) (m : ℕ) (back : Back ns m) (one : One ns m) where
  pub all_swept : (hi : ℕ) (us : List Tree) (notes rs : List ℕ) → Leads ns m hi rs → Closed us → Right ns m (λ d. d) us notes
      → AllSwept ns m us notes rs (sweeps ns hi us notes rs)
  unfolding sweeps add_trees
  all_swept hi us notes [] b cl r = record {
    answered = record { trees = refl; wide = refl; refs = λ i h. absurd (omega arith) };
    count = omega arith;
    held = λ h. h;
  }
  all_swept hi us notes (p ∷ rs) b cl r =
      let h = b 0 (omega arith) in
      let ax : Answered ns m (λ d. d) us p x = unfold sweep in walk_answers ns m back one (sweep_asks hi) hi us notes p 0 h.0 h.1 (omega arith) cl r in
      let tx : Tells ns m notes p x = unfold sweep in walk_tells ns m back one (λ r. r) hi hi us notes p 0 h.0 h.1 (omega arith) r.long in
      let y = all_swept hi x.table x.notes rs (λ i k. b (suc i) (omega arith)) (rw ax.trees (closed_add us _ cl)) ax.right in
      record {
        answered = record {
          trees = y.answered.trees ∙ ap (λ (ts : List Tree). add_trees ts (map (at (trees_of ns m)) rs)) ax.trees;
          wide = ap suc y.answered.wide;
          refs = refs ax y.answered;
        };
        count = omega (arith, tx.counted.count, y.count);
        held = λ k. y.held (rw ax.trees (tx.held us k));
      }
    where
      x : Went
      x = sweep ns hi us notes p

      refs : Answered ns m (λ d. d) us p x → AnsweredAll ns m x.table rs (sweeps ns hi x.table x.notes rs) → (i : ℕ) → i < suc (length rs)
          → Ref (sweeps ns hi x.table x.notes rs).table (get_or (x.answer ∷ (sweeps ns hi x.table x.notes rs).answers) i 0) (at (trees_of ns m) (get_or (p ∷ rs) i 0))
      refs ax y zero k = goes_ref (rw y.trees (adds_goes (map (at (trees_of ns m)) rs) x.table)) ax.ref
      refs ax y (suc i) k = y.refs i (omega arith)

  -- into an empty table, with nothing noted: two visits for each node of the new table, and one for each row
  pub all_most : (hi : ℕ) (notes : List ℕ) (rs : List ℕ) → Leads ns m hi rs → m ≤ length notes → ((i : ℕ) → i < m → get_or notes i 0 ≡ 0)
      → (sweeps ns hi [] notes rs).visits ≤ 2 * length (add_trees [] (map (at (trees_of ns m)) rs)) + length rs
  all_most hi notes rs b l z =
      let s = all_swept hi [] notes rs b closed_nil (record { long = l; hit = λ j r h e. absurd (clash j h r e) }) in
      let k = remembered_le ns m back one _ _ (s.held (record { each = λ i h e. absurd (none_yet i h e) })) in
      omega (arith, s.count, k, ap length s.answered.trees)
    where
      clash : (j : ℕ) → j < m → (r : ℕ) → get_or notes j 0 ≡ suc r → ⊥
      clash j h r e = let q = z j h in omega arith

      none_yet : (i : ℕ) → i < m → ltb 0 (get_or notes i 0) ≡ true → ⊥
      none_yet i h e = let q = ltb-true 0 (get_or notes i 0) e in let p = z i h in omega arith

-- Nodes that pass the tests one by one are a table of reduced ordered diagrams; well kept nodes pass them all. Assumes nothing.
use Prim.Native.Nat.{ℕ, zero, suc, ◌+◌, ◌*◌, ◌≤◌, ◌<◌}
use mathlib.Core.Path.{◌≡◌, refl, sym, ap, ◌∙◌}
use mathlib.Core.Bool.{true}
use mathlib.Core.List.{List}
use mathlib.Core.Logic.{⊎_elim}
use native.Mathlib.Omega.{arith}
use lib.ListN.{length, get_or}
use borrow.Author.Tests.{ltb-true}
use Rattle.trees.specs.Tree.{node, Fine}
use Rattle.trees.specs.Table.{at, node_at, trees_of}
use Rattle.trees.specs.Kept.{above, node_right}
use Rattle.trees.proofs.Tests.{lt_or_ge, false_true}
use Rattle.trees.proofs.TreeLaws.{fine_off, fine_on, fine_node, fine_lower}
use Rattle.trees.proofs.CanonicalLaws.{RightNode, right_node}
use Rattle.trees.proofs.TableLaws.{at_index}
use Rattle.nodes.specs.Nodes.{Table, Rows}
use Rattle.keeping.specs.Checks.{Inside, Right, Apart}
use Rattle.trees.proofs.ReadLaws.{Back, at_node}
use Rattle.keeping.proofs.CheckLaws.{equal_true}

-- the references of right nodes go back
pub right_back : (ns : List ℕ) (n : ℕ) → ((j : ℕ) → j < n → node_right ns j ≡ true) → Back ns n
right_back ns n r j h = let w = right_node ns j (r j h) in (w.low, w.high)

module _ (ns : List ℕ) (n levels : ℕ) (right : Right ns n levels) (apart : Apart ns n) where
  one_right : (j : ℕ) → j < n → RightNode ns j
  one_right j h = right_node ns j (right.node j h)

  back : Back ns n
  back = right_back ns n right.node

  -- a reference past the leaves, as the node that it shows
  shown : (j : ℕ) → j < n → at (trees_of ns n) (suc (suc j)) ≡ node (get_or ns (3 * j) 0) (at (trees_of ns n) (get_or ns (3 * j + 1) 0)) (at (trees_of ns n) (get_or ns (3 * j + 2) 0))
  unfolding node_at at
  shown j h = sym (at_index (trees_of ns n) j) ∙ at_node ns n j back h

  clash_0 : (j : ℕ) → j < n → at (trees_of ns n) 0 ≡ at (trees_of ns n) (suc (suc j)) → ⊥
  unfolding at
  clash_0 j h e = let q = shown j h in let z : ◌≡◌ {A = ℕ} 0 1 = cc in omega arith

  clash_1 : (j : ℕ) → j < n → at (trees_of ns n) 1 ≡ at (trees_of ns n) (suc (suc j)) → ⊥
  unfolding at
  clash_1 j h e = let q = shown j h in let z : ◌≡◌ {A = ℕ} 0 1 = cc in omega arith

  clash_01 : at (trees_of ns n) 0 ≡ at (trees_of ns n) 1 → ⊥
  unfolding at
  clash_01 e = let z : ◌≡◌ {A = ℕ} 0 1 = cc in omega arith

  -- no two places have the same numbers
  places : (i j : ℕ) → i < n → j < n
      → get_or ns (3 * i) 0 ≡ get_or ns (3 * j) 0 → get_or ns (3 * i + 1) 0 ≡ get_or ns (3 * j + 1) 0 → get_or ns (3 * i + 2) 0 ≡ get_or ns (3 * j + 2) 0 → i ≡ j
  places i j hi hj e f g = ⊎_elim
      (λ h. absurd (false_true (apart j i hj h) (equal_true ns j i (sym e) (sym f) (sym g))))
      (λ h. ⊎_elim (λ k. absurd (false_true (apart i j hi k) (equal_true ns i j e f g))) (λ k. omega arith) (lt_or_ge j i))
      (lt_or_ge i j)

  -- two nodes whose sides' references are known to lead to different trees
  pair : (i j : ℕ) → i < n → j < n → ((r s : ℕ) → r < i + 2 → s < j + 2 → at (trees_of ns n) r ≡ at (trees_of ns n) s → r ≡ s)
      → at (trees_of ns n) (suc (suc i)) ≡ at (trees_of ns n) (suc (suc j)) → i ≡ j
  pair i j hi hj ih e =
      let a = shown i hi in
      let b = shown j hj in
      let el : get_or ns (3 * i) 0 ≡ get_or ns (3 * j) 0 = cc in
      let e0 : at (trees_of ns n) (get_or ns (3 * i + 1) 0) ≡ at (trees_of ns n) (get_or ns (3 * j + 1) 0) = cc in
      let e1 : at (trees_of ns n) (get_or ns (3 * i + 2) 0) ≡ at (trees_of ns n) (get_or ns (3 * j + 2) 0) = cc in
      places i j hi hj el (ih _ _ (back i hi).0 (back j hj).0 e0) (ih _ _ (back i hi).1 (back j hj).1 e1)

  -- below k, references lead to different trees
  one_below : (k r s : ℕ) → r < k → s < k → k ≤ n + 2 → at (trees_of ns n) r ≡ at (trees_of ns n) s → r ≡ s
  one_below zero r s a b h e = absurd (omega arith)
  one_below (suc k) zero zero a b h e = refl
  one_below (suc k) zero (suc zero) a b h e = absurd (clash_01 e)
  one_below (suc k) zero (suc (suc j)) a b h e = absurd (clash_0 j (omega arith) e)
  one_below (suc k) (suc zero) zero a b h e = absurd (clash_01 (sym e))
  one_below (suc k) (suc zero) (suc zero) a b h e = refl
  one_below (suc k) (suc zero) (suc (suc j)) a b h e = absurd (clash_1 j (omega arith) e)
  one_below (suc k) (suc (suc i)) zero a b h e = absurd (clash_0 i (omega arith) (sym e))
  one_below (suc k) (suc (suc i)) (suc zero) a b h e = absurd (clash_1 i (omega arith) (sym e))
  one_below (suc k) (suc (suc i)) (suc (suc j)) a b h e =
      ap (λ (x : ℕ). suc (suc x)) (pair i j (omega arith) (omega arith) (λ r s p q f. one_below k r s (omega arith) (omega arith) (omega arith) f) e)

  -- nodes that pass the tests are a table
  pub sound_table : length ns ≤ 12288 → 3 * n ≤ length ns → Table ns n
  sound_table small fits = record { small = small; fits = fits; back = back; one = λ r s a b e. one_below (n + 2) r s a b (omega arith) e }

  -- a side whose reference leads above a level is reduced and ordered above it
  side_fine : (l r : ℕ) → above ns l r ≡ true
      → ((j : ℕ) → suc (suc j) ≡ r → Fine (get_or ns (3 * j) 0) levels (at (trees_of ns n) (suc (suc j)))) → Fine (suc l) levels (at (trees_of ns n) r)
  unfolding above at
  side_fine l zero e f = fine_off (suc l) levels
  side_fine l (suc zero) e f = fine_on (suc l) levels
  side_fine l (suc (suc j)) e f = fine_lower (get_or ns (3 * j) 0) levels (suc l) _ (ltb-true l (get_or ns (3 * j) 0) e) (f j refl)

  -- below k, nodes show reduced ordered trees
  fine_place : (k j : ℕ) → j < k → k ≤ n → Fine (get_or ns (3 * j) 0) levels (at (trees_of ns n) (suc (suc j)))
  fine_place zero j a h = absurd (omega arith)
  fine_place (suc k) j a h =
      let w = one_right j (omega arith) in
      let ih : (i : ℕ) → i < j → Fine (get_or ns (3 * i) 0) levels (at (trees_of ns n) (suc (suc i))) = λ i q. fine_place k i (omega arith) (omega arith) in
      let lb = w.low in
      let hb = w.high in
      rw (shown j (omega arith)) (
      fine_node (get_or ns (3 * j) 0) levels (get_or ns (3 * j) 0) _ _ (omega arith) (right.level j (omega arith))
      (side_fine (get_or ns (3 * j) 0) (get_or ns (3 * j + 1) 0) w.low_above (λ i e. ih i (omega arith)))
      (side_fine (get_or ns (3 * j) 0) (get_or ns (3 * j + 2) 0) w.high_above (λ i e. ih i (omega arith)))
      (λ e. w.differ (one_below (n + 2) _ _ (omega arith) (omega arith) (omega arith) e))
      )

  fine_at : (r : ℕ) → r < n + 2 → Fine 0 levels (at (trees_of ns n) r)
  unfolding at
  fine_at zero h = fine_off 0 levels
  fine_at (suc zero) h = fine_on 0 levels
  fine_at (suc (suc j)) h = fine_lower (get_or ns (3 * j) 0) levels 0 _ (omega arith) (fine_place n j (omega arith) (omega arith))

  -- so the rows' references lead to reduced ordered diagrams
  pub sound_rows : (refs : List ℕ) (count : ℕ) → count ≤ 64 → Inside refs count n → Rows ns n levels refs count
  sound_rows refs count few h = record { few = few; inside = h; fine = λ i k. fine_at (get_or refs i 0) (h i k) }

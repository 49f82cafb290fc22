-- Refusal 4 in the terms of the layers below: the diagrams by each row's mask, and the lists. Assumes nothing.
use Prim.Native.Nat.{ℕ, zero, suc, ◌/◌, ◌%◌, ◌^◌, ◌<◌}
use mathlib.Core.Path.{◌≡◌, refl, ap₂, sym}
use mathlib.Core.Bool.{Bool, true, false, ◌&&◌}
use mathlib.Core.List.{List}
use native.Mathlib.Omega.{arith}
use lib.Dec.{eqb, ltb}
use lib.ListN.{length, get_or}
use Rattle.trees.specs.Tree.{Tree, off, on, node}
use Rattle.trees.specs.Table.{at, trees_of}
use Rattle.trees.specs.Kept.{all_below, levels, well_kept}
use Rattle.trees.proofs.Tests.{LtCase, below, above, lt_case}
use Rattle.meaning.specs.Qtl.{free}
use Rattle.meaning.specs.Rows.{count_of_rows, rule_of, formula_at, right, check_rows}
use Rattle.meaning.specs.Tables.{free_level}
use Rattle.meaning.proofs.RowsLaws.{checked, rows_length, free_beyond}
use Rattle.rule.specs.Masks.{has_bit}
use Rattle.rule.specs.Checking.{Free}
use Rattle.keeping.specs.Checks.{free_by}

-- tests that agree below n
all_same : (n : ℕ) (f g : ℕ → Bool) → ((i : ℕ) → i < n → f i ≡ g i) → all_below n f ≡ all_below n g
unfolding all_below
all_same zero f g h = refl
all_same (suc n) f g h = ap₂ ◌&&◌ (all_same n f g (λ i l. h i (omega arith))) (h n (omega arith))

levels_same : (p q : ℕ → Bool) → ((l : ℕ) → p l ≡ q l) → (d : Tree) → levels p d ≡ levels q d
unfolding levels
levels_same p q h off = refl
levels_same p q h on = refl
levels_same p q h (node l a b) = ap₂ ◌&&◌ (h l) (ap₂ ◌&&◌ (levels_same p q h a) (levels_same p q h b))

-- diagrams are well kept by any test that says the same of each row's levels
kept_same : (p q : ℕ → ℕ → Bool) (C n : ℕ) (refs : List ℕ) (kept : ℕ) (ns : List ℕ) → ((i : ℕ) → i < n → (l : ℕ) → p i l ≡ q i l) → well_kept p C n refs kept ns ≡ well_kept q C n refs kept ns
unfolding well_kept
kept_same p q C n refs kept ns h =
    rw (all_same n (λ i. levels (p i) (at (trees_of ns kept) (get_or refs i 0))) (λ i. levels (q i) (at (trees_of ns kept) (get_or refs i 0)))
    (λ i l. levels_same (p i) (q i) (h i l) (at (trees_of ns kept) (get_or refs i 0))))

-- the masks of a checked rule say which levels are the row's
module _ (rows : List ℕ) (cr : check_rows rows ≡ right) (masks : List ℕ) (m : Free rows masks) (k : ℕ) where
  count : length (rule_of rows) ≡ count_of_rows rows
  unfolding rule_of
  count = rows_length rows (count_of_rows rows)

  mask_level : (i : ℕ) → i < length (rule_of rows) → (l : ℕ) → free_by k masks i l ≡ free_level k (rule_of rows) i l
  unfolding free_by free_level has_bit
  mask_level i h l = go (ltb (l / k) 4) (lt_case (l / k) 4)
    where
      go : (t : Bool) → LtCase (l / k) 4 t → (t && eqb (get_or masks i 0 / 2 ^ (l / k) % 2) 1) ≡ free (formula_at (rule_of rows) i) (l / k)
      go true (below q) = m.bits i (l / k) (rw count at h) q
      go false (above q) = sym (free_beyond (rule_of rows) (checked rows cr).rows i (l / k) h q)

  pub kept_by_masks : (C : ℕ) (refs : List ℕ) (kept : ℕ) (ns : List ℕ)
      → well_kept (free_by k masks) C (length (rule_of rows)) refs kept ns ≡ well_kept (free_level k (rule_of rows)) C (length (rule_of rows)) refs kept ns
  kept_by_masks C refs kept ns = kept_same (free_by k masks) (free_level k (rule_of rows)) C (length (rule_of rows)) refs kept ns mask_level

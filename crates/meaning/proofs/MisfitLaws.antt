-- Sizes that don't fit the diagrams: there are not 64, or one of them is another number. Assumes nothing.
use Prim.Native.Nat.{ℕ, suc, ◌≤◌, ◌<◌}
use mathlib.Core.Path.{◌≡◌, refl, ap, sym, ◌∙◌}
use mathlib.Core.Bool.{false}
use mathlib.Core.List.{List, [], ◌∷◌}
use mathlib.Core.Logic.{◌≢◌, ◌⊎◌, inl, inr, ⊎_elim}
use native.Mathlib.Decide.{ℕ_discrete}
use native.Mathlib.Omega.{arith}
use lib.Dec.{eqb}
use lib.ListN.{length, get_or, take, length-map, length-take, get_or-map, get_or-eq_default}
use lib.Seq.{get_or-take}
use borrow.Author.Tests.{eqb-false}
use Rattle.trees.specs.Tree.{Tree, off}
use Rattle.trees.specs.Table.{add_tree, at, trees_of}
use Rattle.trees.specs.Kept.{diagrams}
use Rattle.trees.specs.Sizes.{node_count, sizes_of, same_numbers, sizes_right}
use Rattle.trees.proofs.Tests.{false_true, lt_or_ge}
use Rattle.trees.proofs.SizesLaws.{sizes_length, sizes_at, sizes_past}
use Rattle.meaning.proofs.ExactLaws.{and_false}

-- two lists of one length that are not the same differ at a place
differ : (xs ys : List ℕ) → length xs ≡ length ys → same_numbers xs ys ≡ false → (i : ℕ) × (get_or xs i 0 ≢ get_or ys i 0)
unfolding same_numbers
differ [] [] e f = absurd (false_true f refl)
differ [] (y ∷ ys) e f = absurd (omega arith)
differ (x ∷ xs) [] e f = absurd (omega arith)
differ (x ∷ xs) (y ∷ ys) e f = ⊎_elim
    (λ p. (0, eqb-false x y p))
    (λ p. let r = differ xs ys (omega arith) p in (suc r.0, r.1))
    (and_false (eqb x y) (same_numbers xs ys) f)

-- each of the sizes of some diagrams: past them it is a leaf's
size_each : (ds : List Tree) (i : ℕ) → get_or (sizes_of ds) i 0 ≡ node_count (get_or ds i off)
unfolding add_tree
size_each ds i = ⊎_elim
    (λ h. sizes_at ds i h)
    (λ h. sizes_past ds i h ∙ ap node_count (sym (get_or-eq_default ds off {n = i} h)))
    (lt_or_ge i (length ds))

-- the sizes of n rows' diagrams
module _ (nodes : List ℕ) (kept : ℕ) (refs : List ℕ) (n : ℕ) where
  abbrev ds : List Tree
  ds = diagrams nodes kept refs n

  many : length (diagrams nodes kept refs n) ≤ n
  unfolding diagrams
  many = rw (length-map, length-take) (omega arith)

  tree : (i : ℕ) → i < n → get_or (diagrams nodes kept refs n) i off ≡ at (trees_of nodes kept) (get_or refs i 0)
  unfolding diagrams at
  tree i h = get_or-map (at (trees_of nodes kept)) (take n refs) i 0 ∙ ap (at (trees_of nodes kept)) (get_or-take n refs i 0 h)

  -- of a row
  pub size_of_row : (i : ℕ) → i < n → get_or (sizes_of (diagrams nodes kept refs n)) i 0 ≡ node_count (at (trees_of nodes kept) (get_or refs i 0))
  size_of_row i h = size_each ds i ∙ ap node_count (tree i h)

  -- past the rows
  pub size_past : (i : ℕ) → n ≤ i → get_or (sizes_of (diagrams nodes kept refs n)) i 0 ≡ 0
  size_past i h = sizes_past ds i (omega (arith, many))

  -- of at most 64 rows there are 64
  module _ (few : n ≤ 64) where
    pub sizes_many : length (sizes_of (diagrams nodes kept refs n)) ≡ 64
    sizes_many = sizes_length ds (omega (arith, many))

    -- sizes that don't fit
    pub misfit : (told : List ℕ) → sizes_right told (diagrams nodes kept refs n) ≡ false
        → (length told ≢ 64) ⊎ ((i : ℕ) × (get_or told i 0 ≢ get_or (sizes_of (diagrams nodes kept refs n)) i 0))
    unfolding sizes_right
    misfit told e = go (ℕ_discrete (length told) 64)
      where
        go : Dec (length told ≡ 64) → (length told ≢ 64) ⊎ ((i : ℕ) × (get_or told i 0 ≢ get_or (sizes_of ds) i 0))
        go (yes q) = inr (differ told (sizes_of ds) (q ∙ sym sizes_many) e)
        go (no q) = inl q

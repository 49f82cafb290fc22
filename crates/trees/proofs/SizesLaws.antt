-- Laws of sizes: what each of the 64 is, and that the test of refusal 4 is equality. Assumes nothing.
use Prim.Native.Nat.{ℕ, ◌-◌, ◌≤◌, ◌<◌}
use mathlib.Core.Path.{◌≡◌, refl, sym, ◌∙◌}
use mathlib.Core.Bool.{true, true≢false}
use mathlib.Core.List.{List, [], ◌∷◌, map}
use native.Mathlib.Omega.{arith}
use borrow.Author.Tests.{eqb-true, eq-eqb}
use lib.Dec.{eqb}
use lib.ListN.{length, get_or, replicate, length-append, length-map, length-replicate, get_or-append, get_or-map}
use Rattle.trees.specs.Tree.{Tree, off}
use Rattle.trees.specs.Table.{add_tree}
use Rattle.trees.specs.Sizes.{node_count, sizes_of, same_numbers, sizes_right}
use Rattle.trees.proofs.Tests.{and_true_l, and_true_r}
use Rattle.trees.proofs.CanonicalLaws.{zeros_past}

-- there are 64 sizes
pub sizes_length : (ds : List Tree) → length ds ≤ 64 → length (sizes_of ds) ≡ 64
unfolding sizes_of
sizes_length ds h = rw (length-append, length-map, length-replicate) (omega arith)

-- of each row, the count of its diagram's nodes
pub sizes_at : (ds : List Tree) (i : ℕ) → i < length ds → get_or (sizes_of ds) i 0 ≡ node_count (get_or ds i off)
unfolding sizes_of add_tree
sizes_at ds i h =
    let e = length-map ds node_count in
    get_or-append (map node_count ds) (replicate (64 - length ds) 0) 0 i (omega arith) ∙ get_or-map node_count ds i off

-- past the rows, 0
pub sizes_past : (ds : List Tree) (i : ℕ) → length ds ≤ i → get_or (sizes_of ds) i 0 ≡ 0
unfolding sizes_of
sizes_past ds i h = let e = length-map ds node_count in zeros_past (map node_count ds) (64 - length ds) i (omega arith)

-- the test of two lists is their equality
pub same_numbers_law : (xs : List ℕ) → same_numbers xs xs ≡ true
unfolding same_numbers
same_numbers_law [] = refl
same_numbers_law (x ∷ xs) = rw (eq-eqb x x refl) (same_numbers_law xs)

pub numbers_same : (xs ys : List ℕ) → same_numbers xs ys ≡ true → xs ≡ ys
unfolding same_numbers
numbers_same [] [] e = refl
numbers_same [] (y ∷ ys) e = absurd (true≢false (sym e))
numbers_same (x ∷ xs) [] e = absurd (true≢false (sym e))
numbers_same (x ∷ xs) (y ∷ ys) e =
    let one : x ≡ y = eqb-true x y (and_true_l (eqb x y) (same_numbers xs ys) e) in
    let more : xs ≡ ys = numbers_same xs ys (and_true_r (eqb x y) (same_numbers xs ys) e) in
    cc

-- the sizes told are right exactly if they are the diagrams' sizes
pub sizes_right_law : (told : List ℕ) (ds : List Tree) → told ≡ sizes_of ds → sizes_right told ds ≡ true
unfolding sizes_right
sizes_right_law told ds e = rw e (same_numbers_law (sizes_of ds))

pub right_sizes : (told : List ℕ) (ds : List Tree) → sizes_right told ds ≡ true → told ≡ sizes_of ds
unfolding sizes_right
right_sizes told ds = numbers_same told (sizes_of ds)

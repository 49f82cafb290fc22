-- Small cases of the definitions, computed. Assumes nothing.
use Prim.Native.Nat.{ℕ}
use mathlib.Core.Path.{◌≡◌, refl}
use mathlib.Core.List.{List, [], ◌∷◌}
use lib.ListN.{take}
use Rattle.trees.specs.Tree.{same}
use Rattle.trees.specs.Table.{mem, push, add_tree, at, node_at, trees_of}
use Rattle.trees.specs.Kept.{diagrams}
use Rattle.trees.specs.Sizes.{sizes_of}

-- three nodes: the last leads to both others, and the second to the first
abbrev shared : List ℕ
shared = 2 ∷ 0 ∷ 1 ∷ 1 ∷ 0 ∷ 2 ∷ 0 ∷ 3 ∷ 2 ∷ []

-- "Shared nodes count in each": rows of all three, of the first two, of a leaf, of the first
sizes_of_four : take 5 (sizes_of (diagrams shared 3 (4 ∷ 3 ∷ 1 ∷ 2 ∷ []) 4)) ≡ 3 ∷ 2 ∷ 0 ∷ 1 ∷ 0 ∷ []
unfolding sizes_of diagrams trees_of node_at at add_tree push mem same
sizes_of_four = refl

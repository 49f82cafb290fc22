-- Small cases of the definitions, computed: each makes exactly as many visits as the ceiling allows. Assumes nothing.
use Prim.Native.Nat.{ℕ}
use mathlib.Core.Path.{◌≡◌, refl}
use mathlib.Core.List.{List, [], ◌∷◌}
use Rattle.trees.specs.Tree.{same, mk}
use Rattle.trees.specs.Table.{mem, push, add_tree, at, find, ref_of, node_at, trees_of}
use Rattle.visits.specs.Visits.{stop, recall, visit, keep, walk, complement, sweep, sweeps}

-- exactly one of two bits, in three nodes: bit 1, not bit 1, and over both bit 0
abbrev one_of_two : List ℕ
one_of_two = 1 ∷ 0 ∷ 1 ∷ 1 ∷ 1 ∷ 0 ∷ 0 ∷ 2 ∷ 3 ∷ []

-- three nodes of which the first is shared
abbrev shared : List ℕ
shared = 2 ∷ 0 ∷ 1 ∷ 1 ∷ 0 ∷ 2 ∷ 0 ∷ 3 ∷ 2 ∷ []

abbrev zeros : List ℕ
zeros = 0 ∷ 0 ∷ 0 ∷ []

-- 2 × 3 + 1 visits; each of the two inner nodes is the other's complement
complement_of_one : (complement one_of_two 2 (trees_of one_of_two 3) zeros 4).visits ≡ 7
unfolding complement walk visit recall stop keep trees_of node_at at add_tree push mem same mk find ref_of
complement_of_one = refl

-- a shared node is taken apart once: 2 × 3 + 1 visits
complement_of_shared : (complement shared 3 (trees_of shared 3) zeros 4).visits ≡ 7
unfolding complement walk visit recall stop keep trees_of node_at at add_tree push mem same mk find ref_of
complement_of_shared = refl

-- two rows over three nodes: 2 × 3 + 2 visits
sweep_of_two : (sweeps shared 3 [] zeros (4 ∷ 3 ∷ [])).visits ≡ 8
unfolding sweeps sweep walk visit recall stop keep trees_of node_at at add_tree push mem same mk find ref_of
sweep_of_two = refl

-- Sizes, as document 02 words them (A7): the count of nodes that a row's reference leads to, 0 for a leaf and past the rows. "Shared
-- nodes count in each." Assumes nothing: these are definitions.
use Rattle.std.specs.Prelude.{ℕ, ◌-◌, Bool, true, false, ◌&&◌, List, [], ◌∷◌, ◌++◌, map, eqb, length, replicate}
use Rattle.trees.specs.Tree.{Tree}
use Rattle.trees.specs.Table.{add_tree}

-- how many nodes a diagram has, each counted once
abbrev pub node_count : Tree → ℕ
node_count d = length (add_tree [] d)

-- the 64 sizes of some rows' diagrams: of each the count of its different nodes, and 0 past the rows
unfoldable pub sizes_of : List Tree → List ℕ
sizes_of ds = map node_count ds ++ replicate (64 - length ds) 0

-- two lists of numbers are the same
unfoldable pub same_numbers : List ℕ → List ℕ → Bool
same_numbers [] [] = true
same_numbers [] (y ∷ ys) = false
same_numbers (x ∷ xs) [] = false
same_numbers (x ∷ xs) (y ∷ ys) = eqb x y && same_numbers xs ys

-- "sizes that don't fit the diagrams give 4": the numbers told are the sizes of the diagrams
unfoldable pub sizes_right : List ℕ → List Tree → Bool
sizes_right told ds = same_numbers told (sizes_of ds)

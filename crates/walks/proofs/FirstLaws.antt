-- The level that a diagram asks first. Assumes nothing.
use Prim.Native.Nat.{ℕ, ◌-◌, ◌≤◌, ◌<◌}
use mathlib.Core.List.{List}
use Rattle.trees.specs.Tree.{Tree, off, on, node, Fine}
use Rattle.trees.specs.Table.{at, trees_of}
use Rattle.trees.proofs.TreeLaws.{node_fine}
use Rattle.nodes.specs.Nodes.{Table, first_level}
use Rattle.nodes.proofs.ReadLaws.{splits}
use Rattle.walks.specs.Walks.{Within}

-- a tree's first level is one of its own, or past all
pub first_lo : (lo hi : ℕ) (d : Tree) → lo ≤ 4294967295 → Fine lo hi d → lo ≤ first_level d
unfolding Fine first_level
first_lo lo hi off h f = h
first_lo lo hi on h f = h
first_lo lo hi (node l a b) h f = f.0

-- a tree asks no level before its first
pub fine_first : (lo hi : ℕ) (d : Tree) (l : ℕ) → l ≤ first_level d → Fine lo hi d → Fine l hi d
unfolding Fine first_level
fine_first lo hi off l h f = f
fine_first lo hi on l h f = f
fine_first lo hi (node m a b) l h f = (h, f.1, f.2, f.3, f.4)

-- a node's first level is one of the levels
pub first_hi : {ns : List ℕ} {n levels left p : ℕ} → Table ns n → 2 ≤ p → Within ns n levels left p → first_level (at (trees_of ns n) p) < levels
unfolding first_level
first_hi {ns} {n} {levels} {left} {p} t h w =
    let s = splits ns n p t.back h w.below in
    let f = node_fine (levels - left) levels _ _ _ (rw s.is at w.fine) in
    rw s.is f.1

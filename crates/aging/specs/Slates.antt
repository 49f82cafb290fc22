-- A table that grows beside a memory of results of one operation: the memory of the walks, cleared, stands for this operation alone while
-- it lasts. With c nodes in the node slice, it stands in the work slice from 5 * c on, and the chains of the nodes from 13 * c on
-- and before 15 * c. Assumes nothing: these are definitions.
use Rattle.std.specs.Prelude.{ℕ, ◌+◌, ◌*◌, ◌≤◌, ◌<◌, List}
use Rattle.trees.specs.Tree.{Tree}
use Rattle.trees.specs.Table.{at, trees_of, Ref}
use Rattle.nodes.specs.Nodes.{Front}
use Rattle.making.specs.Tables.{Shelf, Spot, SlotIs}

-- three references among the first n nodes
pub record Trio (n a b d : ℕ) : Type 0 where
  pub first : a < n + 2
  pub second : b < n + 2
  pub third : d < n + 2

-- the operation on the diagrams of three references
abbrev pub applied : (Tree → Tree → Tree → Tree) → List Tree → ℕ → ℕ → ℕ → Tree
applied op ts a b d = op (at ts a) (at ts b) (at ts d)

-- the memory is right: a slot has 0 for its result, or one more than the reference of the operation's result
pub record Results (op : Tree → Tree → Tree → Tree) (ns : List ℕ) (n : ℕ) (w : List ℕ) (c slots : ℕ) : Type 0 where
  pub hit : (i a b d r : ℕ) → Spot c slots i → SlotIs w i a b d (r + 1) → Trio n a b d × Ref (trees_of ns n) r (applied op (trees_of ns n) a b d)

-- the first n of c nodes are a table, and the work slice holds its chains, and the operation's results
pub record Slate (op : Tree → Tree → Tree → Tree) (ns : List ℕ) (n : ℕ) (w : List ℕ) (c slots : ℕ) : Type 0 where
  pub shelf : Shelf ns n w c
  pub some : 1 ≤ slots
  pub fits : slots ≤ 2 * c
  pub results : Results op ns n w c slots

-- the same, and before the memory the work slice is as w₀ was
pub record Slated (w₀ : List ℕ) (op : Tree → Tree → Tree → Tree) (ns : List ℕ) (n : ℕ) (w : List ℕ) (c slots : ℕ) : Type 0 where
  pub slate : Slate op ns n w c slots
  pub same : Front (5 * c) w₀ w

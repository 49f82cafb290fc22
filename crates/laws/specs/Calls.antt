-- Calls of the walks that had room enough, one after the other on one table: what the contracts of since_walk, not_walk and
-- drop_walk (crates/walks) ask and promise, in their words. Assumes nothing: these are definitions.
use Rattle.std.specs.Prelude.{ℕ, zero, suc, ◌+◌, ◌*◌, ◌≤◌, Some, List}
use Rattle.trees.specs.Tree.{Tree, not_t, since_t, drop_t}
use Rattle.trees.specs.Table.{at, trees_of}
use Rattle.nodes.specs.Nodes.{Table}
use Rattle.making.specs.Tables.{Added}
use Rattle.walks.specs.Walks.{Within}
use Rattle.walks.specs.Desks.{Desk}

-- a table at one moment: the node slice, and how many of its nodes are the table
pub record Held : Type 0 where
  pub nodes : List ℕ
  pub count : ℕ

-- the diagram that a reference leads to
abbrev pub tree : Held → ℕ → Tree
tree x p = at (trees_of x.nodes x.count) p

-- well-formed input: p is a reference of the table, and its diagram asks only the last `left` of the levels
pub record Input (levels : ℕ) (x : Held) (p : ℕ) : Type 0 where
  pub left : ℕ
  pub most : left ≤ levels
  pub table : Table x.nodes x.count
  pub within : Within x.nodes x.count levels left p

-- a call that was to add the diagram d to the table x had room enough: it left the table y, and gave the reference r
pub record Call (levels : ℕ) (x : Held) (d : Tree) (y : Held) (r : ℕ) : Type 0 where
  pub work : List ℕ
  pub c : ℕ
  pub slots : ℕ
  pub added : Added (λ ns j. Desk ns j levels work c slots) x.nodes y.nodes x.count d (Some (record { count = y.count; reference = r }))

-- and of p and q: since_walk with no on the right
abbrev pub AndCall : ℕ → Held → ℕ → ℕ → Held → ℕ → Type 0
AndCall levels x p q y r = Input levels x p × Input levels x q × Call levels x (since_t levels (tree x p) (tree x 0) (tree x q)) y r

-- or of p and q: since_walk with yes on the left
abbrev pub OrCall : ℕ → Held → ℕ → ℕ → Held → ℕ → Type 0
OrCall levels x p q y r = Input levels x p × Input levels x q × Call levels x (since_t levels (tree x 1) (tree x p) (tree x q)) y r

-- not of p: not_walk, whose promise says of the visits besides
abbrev pub NotCall : ℕ → Held → ℕ → Held → ℕ → Type 0
NotCall levels x p y r = Input levels x p × Call levels x (not_t levels (tree x p)) y r

-- p without its bit at the level v: drop_walk
abbrev pub DropCall : ℕ → ℕ → Held → ℕ → Held → ℕ → Type 0
DropCall levels v x p y r = Input levels x p × Call levels x (drop_t levels v (tree x p)) y r

-- p without the `bits` bits from the level base on: calls of drop_walk one after the other, from the highest bit down
pub data DropCalls (levels base : ℕ) : ℕ → Held → ℕ → Held → ℕ → Type 0 where
  none : {x : Held} {p : ℕ} → Input levels x p → DropCalls levels base zero x p x p
  more : {bits : ℕ} {x y z : Held} {p q r : ℕ} → DropCall levels (base + bits) x p y q → DropCalls levels base bits y q z r
      → DropCalls levels base (suc bits) x p z r

-- p without the variable v, whose k bits stand from the level v * k on
abbrev pub RemoveCall : ℕ → ℕ → ℕ → Held → ℕ → Held → ℕ → Type 0
RemoveCall levels k v x p y r = DropCalls levels (v * k) k x p y r

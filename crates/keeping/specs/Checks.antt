-- What the check of a state's diagrams asks, pass by pass. Assumes nothing: these are definitions.
use Rattle.std.specs.Prelude.{ℕ, ◌+◌, ◌*◌, ◌/◌, ◌%◌, ◌^◌, ◌≤◌, ◌<◌, ◌≡◌, Bool, true, false, ◌&&◌, ◌||◌, List, ◌++◌, Option, Some, None, eqb, ltb, length, get_or}
use Rattle.std.specs.Int.Bits.{bit_or}
use Rattle.trees.specs.Tree.{Tree, off, on, node}
use Rattle.trees.specs.Table.{add_tree, at, trees_of}
use Rattle.trees.specs.Kept.{node_right, equal_nodes, levels}
use Rattle.nodes.specs.Nodes.{canonical, Rest}
use Rattle.nodes.specs.Chains.{Chained}

-- the level l is one of the row i's: its variable l / k is one of four, and allowed to the row
unfoldable pub free_by : ℕ → List ℕ → ℕ → ℕ → Bool
free_by k allowed i l = ltb (l / k) 4 && eqb (get_or allowed i 0 / 2 ^ (l / k) % 2) 1

-- the references of the first count rows lead to kept nodes or leaves
abbrev pub Inside : List ℕ → ℕ → ℕ → Type 0
Inside refs count kept = (i : ℕ) → i < count → get_or refs i 0 < kept + 2

-- the numbers from place i on are 0
abbrev pub ZeroFrom : ℕ → List ℕ → Type 0
ZeroFrom i xs = (j : ℕ) → i ≤ j → get_or xs j 0 ≡ 0

-- each of the first n nodes is right by itself, and its level is below the count of levels
pub record Right (ns : List ℕ) (n levels : ℕ) : Type 0 where
  pub node : (j : ℕ) → j < n → node_right ns j ≡ true
  pub level : (j : ℕ) → j < n → get_or ns (3 * j) 0 < levels

-- no two of the first n nodes are equal
abbrev pub Apart : List ℕ → ℕ → Type 0
Apart ns n = (i j : ℕ) → i < n → j < i → equal_nodes ns i j ≡ false

-- the diagram of r, added to the first n nodes, leads to the first n' of them
pub record InOrder (ns : List ℕ) (kept n r n' : ℕ) : Type 0 where
  pub more : n ≤ n'
  pub fits : n' ≤ kept
  pub trees : add_tree (trees_of ns n) (at (trees_of ns kept) r) ≡ trees_of ns n'

-- it leads to a table that the kept nodes don't go on from
pub record OutOfOrder (ns : List ℕ) (kept n r : ℕ) : Type 0 where
  pub never : (more : List Tree) → trees_of ns kept ≡ add_tree (trees_of ns n) (at (trees_of ns kept) r) ++ more → ⊥

-- what the walk over a diagram answers: the count of nodes it leads to, or that it is out of order
abbrev pub Follows : List ℕ → ℕ → ℕ → ℕ → Option ℕ → Type 0
Follows ns kept n r (Some n') = InOrder ns kept n r n'
Follows ns kept n r None = OutOfOrder ns kept n r

-- the kept nodes are the rows' diagrams, in canonical order
abbrev pub InRowOrder : List ℕ → ℕ → List ℕ → ℕ → Type 0
InRowOrder ns kept refs count = canonical ns kept refs count ≡ trees_of ns kept

-- whether a tree asks a level of the variable v
unfoldable pub asked : ℕ → ℕ → Tree → Bool
asked k v off = false
asked k v on = false
asked k v (node l a b) = eqb (l / k) v || (asked k v a || asked k v b)

-- bit v of the number n is set
unfoldable pub has_bit : ℕ → ℕ → Bool
has_bit n v = eqb (n / 2 ^ v % 2) 1

-- at each reference to a leaf or one of the first n nodes stands the set of variables that its diagram asks, a bit a variable
pub record Marks (ns : List ℕ) (kept k : ℕ) (w : List ℕ) (n : ℕ) : Type 0 where
  pub is : (r : ℕ) → r < n + 2 → (v : ℕ) → has_bit (get_or w r 0) v ≡ asked k v (at (trees_of ns kept) r)

-- the levels of each row's diagram are the row's
abbrev pub FreeOnly : List ℕ → ℕ → ℕ → List ℕ → List ℕ → ℕ → Type 0
FreeOnly ns kept k allowed refs count = (i : ℕ) → i < count → levels (free_by k allowed i) (at (trees_of ns kept) (get_or refs i 0)) ≡ true

-- the marks of every row are among those that it is allowed
abbrev pub RowsAllowed : List ℕ → List ℕ → List ℕ → ℕ → Type 0
RowsAllowed w allowed refs count = (i : ℕ) → i < count → bit_or (get_or w (get_or refs i 0) 0) (get_or allowed i 0) ≡ get_or allowed i 0

-- the lengths of the node slice, of whole nodes and no more than 4,096, and of the work slice
pub record Sized (ns w : List ℕ) : Type 0 where
  pub nodes : length ns ≡ 3 * (length ns / 3)
  pub few : length ns ≤ 12288
  pub room : 16 * (length ns / 3) + 1024 ≤ length w

-- what the check leaves in the work slice: all as it was past the first 15 * c numbers, with c nodes in ns, and where it
-- answers yes the chains of the kept nodes
pub record CheckLeaves (ns : List ℕ) (kept : ℕ) (w w' : List ℕ) (b : Bool) : Type 0 where
  pub rest : Rest (15 * (length ns / 3)) w w'
  pub chained : b ≡ true → Chained ns kept w'

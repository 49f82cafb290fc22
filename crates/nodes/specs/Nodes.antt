-- How a node slice holds a table of trees while it grows. Assumes nothing: these are definitions.
use Rattle.std.specs.Prelude.{ℕ, ◌+◌, ◌*◌, ◌/◌, ◌≤◌, ◌<◌, ◌≡◌, Bool, true, false, List, [], length, get_or, take}
use Rattle.trees.specs.Tree.{Tree, off, on, node, Fine}
use Rattle.trees.specs.Table.{add_tree, add_trees, at, trees_of, Ref, NodeIs}
use Rattle.trees.specs.Kept.{diagrams}
use Rattle.trees.proofs.TreeLaws.{side}

-- the first k numbers are the same
pub record Front (k : ℕ) (xs ys : List ℕ) : Type 0 where
  pub eq : (i : ℕ) → i < k → get_or ys i 0 ≡ get_or xs i 0

-- the numbers from place k on are the same
pub record Rest (k : ℕ) (xs ys : List ℕ) : Type 0 where
  pub eq : (i : ℕ) → k ≤ i → get_or ys i 0 ≡ get_or xs i 0

-- what a test of a claim answers
abbrev pub Decides : Type 0 → Bool → Type 0
Decides P true = P
Decides P false = P → ⊥

-- the numbers before place j and those from place k on are the same
pub record Between (j k : ℕ) (xs ys : List ℕ) : Type 0 where
  pub same : Front j xs ys
  pub rest : Rest k xs ys

-- the numbers from one place on and before another are 0, and the others as they were
pub record Zeroed (from to : ℕ) (xs ys : List ℕ) : Type 0 where
  pub size : length ys ≡ length xs
  pub zero : (i : ℕ) → from ≤ i → i < to → get_or ys i 0 ≡ 0
  pub same : Front from xs ys
  pub rest : Rest to xs ys

-- the first n nodes are a table: their references go back, and no two references lead to the same tree
pub record Table (ns : List ℕ) (n : ℕ) : Type 0 where
  pub small : length ns ≤ 12288
  pub fits : 3 * n ≤ length ns
  pub back : (j : ℕ) → j < n → (get_or ns (3 * j + 1) 0 < j + 2) × (get_or ns (3 * j + 2) 0 < j + 2)
  pub one : (r s : ℕ) → r < n + 2 → s < n + 2 → at (trees_of ns n) r ≡ at (trees_of ns n) s → r ≡ s

-- r is a reference among the first n nodes, and leads to d
pub record To (ns : List ℕ) (n r : ℕ) (d : Tree) : Type 0 where
  pub below : r < n + 2
  pub is : at (trees_of ns n) r ≡ d

-- r leads to a node of this level and these sides
pub record Splits (ns : List ℕ) (n r l a b : ℕ) : Type 0 where
  pub low : a < n + 2
  pub high : b < n + 2
  pub is : at (trees_of ns n) r ≡ node l (at (trees_of ns n) a) (at (trees_of ns n) b)

-- a and b lead to the sides of r at the level v, for bit 0 and for bit 1
pub record Sides (ns : List ℕ) (n r v a b : ℕ) : Type 0 where
  pub low : To ns n a (side v false (at (trees_of ns n) r))
  pub high : To ns n b (side v true (at (trees_of ns n) r))

-- the level that a tree asks first; past all levels for a leaf
unfoldable pub first_level : Tree → ℕ
first_level off = 4294967295
first_level on = 4294967295
first_level (node l a b) = l

-- what a test says of the three numbers at place j
abbrev pub Holds : List ℕ → ℕ → ℕ → ℕ → ℕ → Bool → Type 0
Holds ns j l a b true = NodeIs ns j l a b
Holds ns j l a b false = NodeIs ns j l a b → ⊥

-- the diagram d was added, and r is its reference: the table goes on from the one before, and nothing else has changed
pub record Grown (ns ns' : List ℕ) (n n' r : ℕ) (d : Tree) : Type 0 where
  pub table : Table ns' n'
  pub size : length ns' ≡ length ns
  pub trees : trees_of ns' n' ≡ add_tree (trees_of ns n) d
  pub ref : Ref (trees_of ns' n') r d
  pub same : Front (3 * n) ns ns'
  pub rest : Rest (3 * n') ns ns'

-- there is no room for all of d: the table has grown by as much of it as there is room for
pub record Stuck (ns ns' : List ℕ) (n : ℕ) (d : Tree) : Type 0 where
  pub over : length ns < 3 * length (add_tree (trees_of ns n) d)
  pub table : Table ns' (length ns / 3)
  pub size : length ns' ≡ length ns
  pub trees : trees_of ns' (length ns / 3) ≡ take (length ns / 3) (add_tree (trees_of ns n) d)
  pub same : Front (3 * n) ns ns'
  pub rest : Rest (3 * (length ns / 3)) ns ns'

-- the first count references lead to diagrams of the first m nodes, over so many levels
pub record Rows (ns : List ℕ) (m levels : ℕ) (refs : List ℕ) (count : ℕ) : Type 0 where
  pub few : count ≤ 64
  pub inside : (i : ℕ) → i < count → get_or refs i 0 < m + 2
  pub fine : (i : ℕ) → i < count → Fine 0 levels (at (trees_of ns m) (get_or refs i 0))

-- the canonical table of the diagrams of the first count references
unfoldable pub canonical : List ℕ → ℕ → List ℕ → ℕ → List Tree
canonical ns m refs count = add_trees [] (diagrams ns m refs count)

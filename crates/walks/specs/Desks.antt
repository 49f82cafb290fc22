-- What stands beside a table in the work slice while it grows. With c nodes in the node slice, the map of complements stands
-- from 4 * c on, the memory of results from 5 * c on, and the chains of the nodes from 13 * c on and before 15 * c.
-- Assumes nothing: these are definitions.
use Rattle.std.specs.Prelude.{ℕ, zero, suc, ◌+◌, ◌*◌, ◌≤◌, ◌<◌, ◌≡◌, List, get_or}
use Rattle.trees.specs.Tree.{Tree, not_t, since_t, drop_t}
use Rattle.trees.specs.Table.{at, trees_of, Ref}
use Rattle.nodes.specs.Nodes.{Front}
use Rattle.making.specs.Tables.{Shelf, Spot, SlotIs}

-- what a key of the memory stands for: 0, a level and a diagram for the diagram without its bit there; else the since of three diagrams
unfoldable pub recalled : ℕ → List Tree → ℕ → ℕ → ℕ → Tree
recalled levels ts zero b d = drop_t levels b (at ts d)
recalled levels ts (suc a) b d = since_t levels (at ts (suc a)) (at ts b) (at ts d)

-- the references of a key are among the first n nodes
pub record Key (n a b d : ℕ) : Type 0 where
  pub first : a < n + 2
  pub second : 0 < a → b < n + 2
  pub third : d < n + 2

-- the memory is right: a slot has 0 for its result, or one more than the reference of what its key stands for
pub record Memory (ns : List ℕ) (n levels : ℕ) (w : List ℕ) (c slots : ℕ) : Type 0 where
  pub hit : (i a b d r : ℕ) → Spot c slots i → SlotIs w i a b d (r + 1) → Key n a b d × Ref (trees_of ns n) r (recalled levels (trees_of ns n) a b d)

-- the map of complements is right: the number for place j is 0, or one more than the reference of the complement of the node there
pub record Complements (ns : List ℕ) (n levels : ℕ) (w : List ℕ) (c : ℕ) : Type 0 where
  pub hit : (j r : ℕ) → j < c → get_or w (4 * c + j) 0 ≡ r + 1 → (j < n) × Ref (trees_of ns n) r (not_t levels (at (trees_of ns n) (j + 2)))

-- the first n of c nodes are a table, and the work slice holds its chains, its map of complements and its memory
pub record Desk (ns : List ℕ) (n levels : ℕ) (w : List ℕ) (c slots : ℕ) : Type 0 where
  pub shelf : Shelf ns n w c
  pub some : 1 ≤ slots
  pub fits : slots ≤ 2 * c
  pub complements : Complements ns n levels w c
  pub memory : Memory ns n levels w c slots

-- the same, and before the memory the work slice is as w₀ was
pub record Remembered (w₀ : List ℕ) (ns : List ℕ) (n levels : ℕ) (w : List ℕ) (c slots : ℕ) : Type 0 where
  pub desk : Desk ns n levels w c slots
  pub same : Front (5 * c) w₀ w

-- What the walk for a complement promises, with its visits. Assumes nothing: these are definitions.
use Rattle.std.specs.Prelude.{ℕ, ◌+◌, ◌*◌, ◌-◌, ◌≡◌, Option, Some, None, List, set, take, drop}
use Rattle.trees.specs.Tree.{Tree, not_t}
use Rattle.trees.specs.Table.{at, trees_of}
use Rattle.nodes.specs.Nodes.{Grown, Stuck}
use Rattle.visits.specs.Visits.{complement, Refines}
use Rattle.walks.specs.declared.Seen.{Seen}
use Rattle.walks.specs.Desks.{Desk}

-- what a walk or a row that counts visits leaves: the count of nodes, the reference of the result, and how many visits it made
pub record Counted : Type 0 where
  pub count : ℕ
  pub reference : ℕ
  pub visits : ℕ

-- the map of complements as a list: a number for each of the c places
abbrev pub map_of : ℕ → List ℕ → List ℕ
map_of c w = take c (drop (4 * c) w)

-- d is made, and noted as the complement of p, after v visits
abbrev pub KeptNot : List ℕ → List ℕ → ℕ → ℕ → Tree → ℕ → ℕ → List ℕ → List ℕ → ℕ → ℕ → Option Counted → Type 0
KeptNot ns ns' n levels d p v w w' c slots None = Stuck ns ns' n d
KeptNot ns ns' n levels d p v w w' c slots (Some m) =
    Grown ns ns' n m.count m.reference d × Desk ns' m.count levels w' c slots × (map_of c w' ≡ set (map_of c w) (p - 2) (m.reference + 1)) × (m.visits ≡ v)

-- The complement of p's diagram was added, where there is room. Table, map, answer and visits are those of the definition.
abbrev pub Complemented : List ℕ → List ℕ → ℕ → ℕ → ℕ → ℕ → List ℕ → List ℕ → ℕ → ℕ → Option Counted → Type 0
Complemented ns ns' n levels left p w w' c slots None = Stuck ns ns' n (not_t levels (at (trees_of ns n) p))
Complemented ns ns' n levels left p w w' c slots (Some m) =
    Grown ns ns' n m.count m.reference (not_t levels (at (trees_of ns n) p))
    × Desk ns' m.count levels w' c slots
    × Refines (complement ns left (trees_of ns n) (map_of c w) p) (trees_of ns' m.count) (map_of c w') m.reference m.visits

-- what a walk that counts answers, with the count of nodes that was left
abbrev pub counted : ℕ → Option Seen → Option Counted
counted n None = None
counted n (Some m) = Some (record { count = n; reference = m.reference; visits = m.visits })

-- How a table of nodes grows while its chains stand in the work slice. With c nodes in the node slice, the memory of results
-- stands in the work slice from 5 * c on, and the chains of the nodes from 13 * c on and before 15 * c.
-- Assumes nothing: these are definitions.
use Rattle.std.specs.Prelude.{ℕ, ◌+◌, ◌*◌, ◌≤◌, ◌<◌, ◌≡◌, Option, Some, None, List, length, get_or, set}
use Rattle.trees.specs.Tree.{Tree}
use Rattle.nodes.specs.Nodes.{Front, Table, Grown, Stuck}
use Rattle.nodes.specs.Chains.{Chained}
use Rattle.making.specs.declared.Made.{Made}

-- a walk that is to add the diagram d to the first n nodes of ns, and keeps I true of the table, left ns' and said m
abbrev pub Added : (List ℕ → ℕ → Type 0) → List ℕ → List ℕ → ℕ → Tree → Option Made → Type 0
Added I ns ns' n d None = Stuck ns ns' n d
Added I ns ns' n d (Some m) = Grown ns ns' n m.count m.reference d × I ns' m.count

-- the first n of c nodes are a table, and the work slice holds the chains of these nodes
pub record Shelf (ns : List ℕ) (n : ℕ) (w : List ℕ) (c : ℕ) : Type 0 where
  pub table : Table ns n
  pub size : length ns ≡ 3 * c
  pub some : 1 ≤ c
  pub long : 15 * c ≤ length w
  pub chains : Chained ns n w

-- the same, and before the chains the work slice is as w₀ was
pub record Shelved (w₀ : List ℕ) (ns : List ℕ) (n : ℕ) (w : List ℕ) (c : ℕ) : Type 0 where
  pub shelf : Shelf ns n w c
  pub same : Front (13 * c) w₀ w

-- place i is where one of the memory's slots begins
pub record Spot (c slots i : ℕ) : Type 0 where
  pub slot : ℕ
  pub inside : slot < slots
  pub is : i ≡ 5 * c + 4 * slot

-- the four numbers of a slot: a key, and 0 or one more than the reference of what it stands for
pub record SlotIs (w : List ℕ) (i a b d r : ℕ) : Type 0 where
  pub first : get_or w i 0 ≡ a
  pub second : get_or w (i + 1) 0 ≡ b
  pub third : get_or w (i + 2) 0 ≡ d
  pub result : get_or w (i + 3) 0 ≡ r

-- the slot at place i, written
abbrev pub noted : List ℕ → ℕ → ℕ → ℕ → ℕ → ℕ → List ℕ
noted w i a b d r = set (set (set (set w i a) (i + 1) b) (i + 2) d) (i + 3) (r + 1)

-- a look at the slot at place i for a key gives nothing, or the reference of the result where it has just this key
abbrev pub Looked : List ℕ → ℕ → ℕ → ℕ → ℕ → Option ℕ → Type 0
Looked w i a b d None = Unit {0}
Looked w i a b d (Some r) = SlotIs w i a b d (r + 1)

-- nodes were made over w₀, and then r was noted for a key in the slot at place i
pub record Noted (w₀ : List ℕ) (ns : List ℕ) (n : ℕ) (w : List ℕ) (c i a b d r : ℕ) : Type 0 where
  pub before : List ℕ
  pub shelved : Shelved w₀ ns n before c
  pub is : w ≡ noted before i a b d r

-- the diagram t was made, and its reference noted for a key in the slot at place i, or there is no room for it
abbrev pub Kept : List ℕ → List ℕ → ℕ → Tree → List ℕ → List ℕ → ℕ → ℕ → ℕ → ℕ → ℕ → Option Made → Type 0
Kept ns ns' n t w w' c i a b d None = Stuck ns ns' n t
Kept ns ns' n t w w' c i a b d (Some m) = Grown ns ns' n m.count m.reference t × Noted w ns' m.count w' c i a b d m.reference

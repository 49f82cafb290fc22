-- The check of the value lists, and the table in which it looks for a value that stands twice. Assumes nothing: these are definitions.
use Rattle.std.specs.Prelude.{ℕ, zero, suc, ◌+◌, ◌*◌, ◌/◌, ◌%◌, ◌≤◌, ◌<◌, ◌≡◌, Bool, cond, ◌&&◌, ◌||◌, List, eqb, ltb, leb, length, get_or, take, drop}
use Rattle.std.specs.Int.Bits.{bit_xor}
use Rattle.trees.specs.Kept.{all_below}
use Rattle.meaning.specs.Tables.{distinct}

-- one list, in a part of m numbers
unfoldable pub part_right : ℕ → ℕ → List ℕ → Bool
part_right m count part = leb count m && (distinct (take count part) && all_below m (λ j. ltb j count || eqb (get_or part j 0) 0))

-- the first `room` numbers of the work slice are there, more than a list has values
pub record Roomy (room : ℕ) (work : List ℕ) : Type 0 where
  pub some : 1024 ≤ room
  pub inside : room ≤ length work

-- a check gives its answer, and leaves the work slice past the room as it was
pub record Checked (room : ℕ) (entry exit : List ℕ) (expected r : Bool) : Type 0 where
  pub answer : r ≡ expected
  pub beyond : drop room exit ≡ drop room entry

-- a table of `size` slots has room, and more slots than values
pub record Slots (count room size : ℕ) : Type 0 where
  pub inside : size ≤ room
  pub more : count < size
  pub few : size ≤ 4096

-- the mixed bits of a value, and the slot at which the search for it begins
unfoldable pub mixed : ℕ → ℕ
mixed low = bit_xor low (low / 32768) * 3266489909 % 4294967296

unfoldable pub slot_of : ℕ → ℕ → ℕ
slot_of size y = mixed (y * 2654435769 % 4294967296) * size / 4294967296

-- the slot behind p: behind the last comes the first
unfoldable pub next_of : ℕ → ℕ → ℕ
next_of size p = cond (eqb (p + 1) size) 0 (p + 1)

-- from the slot p on, over taken slots alone, a search comes to the slot t
pub data Leads (work : List ℕ) (size t : ℕ) : ℕ → Type 0 where
  here : (p : ℕ) → p ≡ t → Leads work size t p
  later : (p : ℕ) → (get_or work p 0 ≡ 0 → ⊥) → Leads work size t (next_of size p) → Leads work size t p

-- the slot t has the place i, and the search for the place's value comes to it
pub record Stands (list work : List ℕ) (size i t : ℕ) : Type 0 where
  pub inside : t < size
  pub place : get_or work t 0 ≡ suc i
  pub reached : Leads work size t (slot_of size (get_or list i 0))

-- how many of the first n numbers are 0
unfoldable pub zeros : List ℕ → ℕ → ℕ
zeros xs zero = 0
zeros xs (suc n) = zeros xs n + cond (eqb (get_or xs n 0) 0) 1 0

-- the first n places of the list, and no others, stand in the table
pub record Table (list work : List ℕ) (size n : ℕ) : Type 0 where
  pub places : (t : ℕ) → t < size → get_or work t 0 ≤ n
  pub stands : (i : ℕ) → i < n → (t : ℕ) × Stands list work size i t
  pub free : zeros work size + n ≡ size

-- what a search for the value at place n may assume: the earlier places stand in the table, and a slot is free
pub record Searchable (list work : List ℕ) (size n : ℕ) : Type 0 where
  pub table : Table list work size n
  pub place : n < length list
  pub more : n < size
  pub few : size ≤ 4096
  pub inside : size ≤ length work

-- the slot at which the search for the value at place n ends
pub record Sought (list work : List ℕ) (size n r : ℕ) : Type 0 where
  pub inside : r < size
  pub reached : Leads work size r (slot_of size (get_or list n 0))
  pub met : (get_or work r 0 ≡ 0 → ⊥) → (i : ℕ) × (i < n) × (get_or list i 0 ≡ get_or list n 0)
  pub new : get_or work r 0 ≡ 0 → (i : ℕ) → i < n → get_or list i 0 ≡ get_or list n 0 → ⊥

-- the first n values differ
abbrev pub Apart : List ℕ → ℕ → Type 0
Apart list n = (i j : ℕ) → i < n → j < i → get_or list i 0 ≡ get_or list j 0 → ⊥

-- Reading a card: what stands before a piece, whether it stays, the first bad block, the stretches and the moments. Assumes nothing.
use Rattle.std.specs.Prelude.{ℕ, suc, Bool, true, false, not, ◌&&◌, List, [], ◌∷◌, ◌++◌, map, eqb, ltb}
use Rattle.cards.specs.Moments.{Record, Moment, open_of, ended, unbroken, moment_of}
use Rattle.cards.specs.Blocks.{Block, Reason, shape, number, Piece, good, faulty, pieces}

-- what stands before a piece: the number next to the last kept one (0 before all), and the records of the open moment
pub record Before : Type 0 where
  pub next : ℕ
  pub opened : List Record

unfoldable pub start : Before
start = record { next = 0; opened = [] }

-- the block has the next number, so a moment may run on into it; a number above it makes a gap
unfoldable pub runs_on : ℕ → Block → Bool
runs_on next b = eqb b.number next

-- the records that a block's shape is judged by: with the open moment's where it runs on
unfoldable pub line : Before → Block → List Record
line f b = elim (runs_on f.next b) [ true ↦ f.opened ++ b.records | false ↦ b.records ]

-- what stands before the piece after a kept block
unfoldable pub after : Before → Block → Before
after f b = record { next = suc b.number; opened = open_of (line f b) }

-- a piece stays, or goes for a reason
pub data Fate : Type 0 where
  stays : Block → Fate
  goes : Reason → Fate

-- shape is judged before number: "a number that isn't above the last kept one"
unfoldable pub fate_by : Bool → Bool → Block → Fate
fate_by false below b = goes shape
fate_by true true b = goes number
fate_by true false b = stays b

unfoldable pub fate : Before → Piece → Fate
fate f (faulty why) = goes why
fate f (good b) = fate_by (unbroken (line f b)) (ltb b.number f.next) b

-- the fate of each piece: what goes leaves no trace
unfoldable pub fates : Before → List Piece → List Fate
fates f [] = []
fates f (p ∷ ps) = elim (fate f p) [ stays b ↦ stays b ∷ fates (after f b) ps | goes why ↦ goes why ∷ fates f ps ]

-- the reader's finding: none, or the first bad block and the reason
pub data Fault : Type 0 where
  fine : Fault
  bad : ℕ → Reason → Fault

-- the place of the last block with a record
unfoldable pub last_place : ℕ → ℕ → List Record → ℕ
last_place held place [] = held
last_place held place (r ∷ rs) = place

-- some record stands there
unfoldable pub some : List Record → Bool
some [] = false
some (r ∷ rs) = true

-- a moment is open at the gap before the block
unfoldable pub open_at_gap : Before → Block → Bool
open_at_gap f b = some f.opened && not (runs_on f.next b)

-- the first bad block from `place` on; the last record before stands in block `held`.
-- "a moment open at a gap or the end, in its last block" is shape
unfoldable pub fault_from : ℕ → ℕ → Before → List Piece → Fault
fault_from place held f [] = elim (some f.opened) [ true ↦ bad held shape | false ↦ fine ]
fault_from place held f (p ∷ ps) = elim (fate f p) [
  | stays b ↦ elim (open_at_gap f b) [ true ↦ bad held shape | false ↦ fault_from (suc place) (last_place held place b.records) (after f b) ps ]
  | goes why ↦ bad place why
]

-- the blocks among the pieces
unfoldable pub blocks : List Piece → List Block
blocks [] = []
blocks (good b ∷ ps) = b ∷ blocks ps
blocks (faulty why ∷ ps) = blocks ps

-- records more at the beginning of the first stretch
unfoldable pub ahead : List Record → List (List Record) → List (List Record)
ahead rs [] = rs ∷ []
ahead rs (l ∷ ls) = (rs ++ l) ∷ ls

-- the records of each stretch: blocks that run on, from the next number; a gap ends a stretch, and begins one
unfoldable pub stretches : ℕ → List Block → List (List Record)
stretches next [] = [] ∷ []
stretches next (b ∷ bs) = elim (runs_on next b) [
  | true ↦ ahead b.records (stretches (suc b.number) bs)
  | false ↦ [] ∷ ahead b.records (stretches (suc b.number) bs)
]

-- the moments of a stretch
unfoldable pub moments_of : List Record → List Moment
moments_of rs = map moment_of (ended rs)

-- what the reader gives: the moments of each stretch, the monitor being started anew before each stretch after the first; or the first bad block
pub data Outcome : Type 0 where
  taken : List (List Moment) → Outcome
  refused : ℕ → Reason → Outcome

unfoldable pub read_by : Fault → List (List Moment) → Outcome
read_by fine ms = taken ms
read_by (bad place why) ms = refused place why

unfoldable pub read_pieces : List Piece → Outcome
read_pieces ps = read_by (fault_from 0 0 start ps) (map moments_of (stretches 0 (blocks ps)))

unfoldable pub read : List ℕ → Outcome
read bytes = read_pieces (pieces bytes)

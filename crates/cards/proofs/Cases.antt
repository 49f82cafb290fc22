-- Worked cases of cards, each computed from bytes. A record is shown by its stamp, with `ends` where it is flagged. Assumes nothing.
use Prim.Native.Nat.{ℕ, zero, suc}
use mathlib.Core.Path.{◌≡◌, refl}
use mathlib.Core.Bool.{true, false}
use mathlib.Core.List.{List, [], ◌∷◌, ◌++◌}
use lib.ListN.{set, length}
use Rattle.cards.specs.Bytes.{bytes_of, number_of, filled, parts, joined, same, sums}
use Rattle.cards.specs.Bytes
use Rattle.cards.specs.Moments.{Record, Moment, Fact, flagged, whole, open_of, past_first, longer, ended, stamped, together, all_together, unbroken, fact_of, moment_of}
use Rattle.cards.specs.Blocks.{flag_byte, record_bytes, record_of, Block, body, block_bytes, block_of, shape, number, piece_by, piece_of, cut, pieces}
use Rattle.cards.specs.Blocks
use Rattle.cards.specs.Reading.{start, runs_on, line, after, fate_by, fate, fates, last_place, some, open_at_gap, fault_from, blocks, ahead, stretches, moments_of, Outcome, taken, refused, read_by, read_pieces, read}
use Rattle.cards.specs.Mending.{kept, going, from_first, to_last, mend_from, mended_blocks, Listed, kept_less, gone, card_bytes, mended, listing, listed, list}
use Rattle.cards.specs.Writing.{record_for, records_for, records_of, fill, written, write}

-- what the cases compute with: the bytes of blocks, what is read from bytes, and what mending makes of them
unfoldable pub card : List Block → List ℕ
unfolding card_bytes joined block_bytes body Bytes.check sums filled bytes_of record_bytes flag_byte
card bs = card_bytes bs

unfoldable pub reading : List ℕ → Outcome
unfolding card read read_pieces pieces cut piece_of piece_by same block_of record_of parts number_of blocks fault_from fate fate_by line runs_on after start some open_at_gap last_place unbroken all_together together stamped ended longer open_of flagged stretches ahead moments_of moment_of fact_of read_by
reading bytes = read bytes

unfoldable mending : List ℕ → List ℕ
unfolding reading mended mended_blocks mend_from kept fates going to_last from_first whole past_first
mending bytes = mended bytes

unfoldable lines_of : List ℕ → List Listed
unfolding mending list listed listing
lines_of bytes = list bytes

unfoldable writing : List Moment → List ℕ
unfolding card write written fill records_of records_for record_for
writing ms = write ms

-- records of predicate 1 with one value
unfoldable pub runs : ℕ → Record
runs s = record { stamp = s; predicate = 1; values = 258 ∷ []; last = false }

unfoldable pub ends : ℕ → Record
ends s = record { stamp = s; predicate = 1; values = 258 ∷ []; last = true }

unfoldable pub block : ℕ → List Record → Block
block n rs = record { number = n; records = rs }

-- a moment of count facts
unfoldable copies : ℕ → List Fact
copies zero = []
copies (suc n) = record { predicate = 1; values = 258 ∷ [] } ∷ copies n

unfoldable moment : ℕ → ℕ → Moment
moment s n = record { stamp = s; facts = copies n }

-- a moment over two blocks
two_blocks : reading (card (block 0 (runs 5 ∷ []) ∷ block 1 (ends 5 ∷ []) ∷ [])) ≡ taken ((moment 5 2 ∷ []) ∷ [])
unfolding reading card block runs ends moment copies
two_blocks = refl

-- after a gap the monitor starts anew
anew : reading (card (block 0 (ends 5 ∷ []) ∷ block 2 (ends 6 ∷ []) ∷ [])) ≡ taken ((moment 5 1 ∷ []) ∷ (moment 6 1 ∷ []) ∷ [])
unfolding reading card block runs ends moment copies
anew = refl

-- a first block above 0
above : reading (card (block 7 (ends 5 ∷ []) ∷ [])) ≡ taken ([] ∷ (moment 5 1 ∷ []) ∷ [])
unfolding reading card block runs ends moment copies
above = refl

above_mended : mending (card (block 7 (ends 5 ∷ ends 6 ∷ []) ∷ [])) ≡ card (block 7 (ends 6 ∷ []) ∷ [])
unfolding mending card block runs ends
above_mended = refl

-- a moment open at a gap, and at the end, is bad in the block with its last record
open_at_gap_law : reading (card (block 0 (ends 5 ∷ runs 6 ∷ []) ∷ block 1 [] ∷ block 3 [] ∷ [])) ≡ refused 0 shape
unfolding reading card block runs ends
open_at_gap_law = refl

open_at_end : reading (card (block 0 (ends 5 ∷ []) ∷ block 1 (runs 6 ∷ []) ∷ block 2 [] ∷ [])) ≡ refused 1 shape
unfolding reading card block runs ends
open_at_end = refl

open_mended : mending (card (block 0 (ends 5 ∷ runs 6 ∷ []) ∷ block 3 (runs 7 ∷ ends 7 ∷ ends 8 ∷ []) ∷ block 4 (runs 9 ∷ []) ∷ []))
    ≡ card (block 0 (ends 5 ∷ []) ∷ block 3 (ends 8 ∷ []) ∷ block 4 [] ∷ [])
unfolding mending card block runs ends
open_mended = refl

open_listed : lines_of (card (block 0 (ends 5 ∷ runs 6 ∷ []) ∷ block 3 (runs 7 ∷ ends 7 ∷ ends 8 ∷ []) ∷ block 4 (runs 9 ∷ []) ∷ []))
    ≡ kept_less 1 ∷ kept_less 2 ∷ kept_less 1 ∷ []
unfolding lines_of card block runs ends
open_listed = refl

-- a breach is named where it shows: another stamp, or a ninth record; a number that isn't above; a short last piece
other_stamp : reading (card (block 0 (runs 5 ∷ []) ∷ block 1 (ends 6 ∷ []) ∷ [])) ≡ refused 1 shape
unfolding reading card block runs ends
other_stamp = refl

not_above : reading (card (block 0 (ends 5 ∷ []) ∷ block 0 (ends 6 ∷ []) ∷ [])) ≡ refused 1 number
unfolding reading card block runs ends
not_above = refl

short_piece : lines_of (card (block 0 (ends 5 ∷ []) ∷ []) ++ (75 ∷ [])) ≡ kept_less 0 ∷ gone shape ∷ []
unfolding lines_of card block runs ends
short_piece = refl

-- a changed byte is a bad check
changed : reading (set (card (block 0 (ends 5 ∷ []) ∷ [])) 300 1) ≡ refused 0 Blocks.check
unfolding reading card block runs ends
changed = refl

-- but 0 and 255 are one modulo 255: block number 0 made 255 passes the check, and makes a gap
unseen : reading (set (card (block 0 (ends 5 ∷ []) ∷ [])) 2 255) ≡ taken ([] ∷ (moment 5 1 ∷ []) ∷ [])
unfolding reading card block runs ends moment copies
unseen = refl

-- mending twice is not mending once
mended_once : mending (card (block 2 (ends 5 ∷ ends 6 ∷ []) ∷ [])) ≡ card (block 2 (ends 6 ∷ []) ∷ [])
unfolding mending card block runs ends
mended_once = refl

mended_twice : mending (mending (card (block 2 (ends 5 ∷ ends 6 ∷ []) ∷ []))) ≡ card (block 2 [] ∷ [])
unfolding mending card block runs ends
mended_twice = refl

-- 22 records take two blocks, and a moment runs on from one into the other
unfoldable many : List Moment
many = moment 1 7 ∷ moment 1 7 ∷ moment 3 8 ∷ []

many_read : reading (writing many) ≡ taken (many ∷ [])
unfolding reading writing many moment copies
many_read = refl

many_bytes : length (writing many) ≡ 1024
unfolding writing many moment copies
many_bytes = refl

-- no moment, no block
nothing_written : writing [] ≡ []
unfolding writing
nothing_written = refl

nothing_read : reading [] ≡ taken ([] ∷ [])
unfolding reading
nothing_read = refl

-- "1 to 8 records": eight are a moment, and a ninth is a breach in the block where it stands
eight : reading (card (block 0 (runs 5 ∷ runs 5 ∷ runs 5 ∷ runs 5 ∷ []) ∷ block 1 (runs 5 ∷ runs 5 ∷ runs 5 ∷ ends 5 ∷ []) ∷ [])) ≡ taken ((moment 5 8 ∷ []) ∷ [])
unfolding reading card block runs ends moment copies
eight = refl

ninth : reading (card (block 0 (runs 5 ∷ runs 5 ∷ runs 5 ∷ runs 5 ∷ []) ∷ block 1 (runs 5 ∷ runs 5 ∷ runs 5 ∷ runs 5 ∷ []) ∷ block 2 (ends 5 ∷ []) ∷ []))
    ≡ refused 2 shape
unfolding reading card block runs ends
ninth = refl

-- a moment runs on through a block of 0 records; stamps may go back; two moments may have one stamp
through_empty : reading (card (block 0 (runs 5 ∷ []) ∷ block 1 [] ∷ block 2 (ends 5 ∷ ends 3 ∷ ends 3 ∷ []) ∷ []))
    ≡ taken ((moment 5 2 ∷ moment 3 1 ∷ moment 3 1 ∷ []) ∷ [])
unfolding reading card block runs ends moment copies
through_empty = refl

-- a damaged block between makes no gap: the moment runs on around it
around : mending (card (block 0 (runs 5 ∷ []) ∷ []) ++ (set (card (block 1 (ends 5 ∷ []) ∷ [])) 300 1 ++ card (block 1 (ends 5 ∷ []) ∷ [])))
    ≡ card (block 0 (runs 5 ∷ []) ∷ block 1 (ends 5 ∷ []) ∷ [])
unfolding mending card block runs ends
around = refl

around_listed : lines_of (card (block 0 (runs 5 ∷ []) ∷ []) ++ (set (card (block 1 (ends 5 ∷ []) ∷ [])) 300 1 ++ card (block 1 (ends 5 ∷ []) ∷ [])))
    ≡ kept_less 0 ∷ gone Blocks.check ∷ kept_less 0 ∷ []
unfolding lines_of card block runs ends
around_listed = refl

-- the bad block is named, not the moment open before it: a gap is made by a good block
bad_named : reading (card (block 0 (runs 5 ∷ []) ∷ []) ++ set (card (block 4 (ends 5 ∷ []) ∷ [])) 300 1) ≡ refused 1 Blocks.check
unfolding reading card block runs ends
bad_named = refl

-- a block whose number isn't above is judged from an empty start, so here for its number
judged_alone : reading (card (block 3 (runs 5 ∷ []) ∷ block 3 (ends 6 ∷ []) ∷ [])) ≡ refused 1 number
unfolding reading card block runs ends
judged_alone = refl

-- records that go after a gap still count for a breach in the next block
counted : lines_of (card (block 2 (runs 6 ∷ []) ∷ block 3 (ends 7 ∷ ends 8 ∷ []) ∷ [])) ≡ kept_less 1 ∷ gone shape ∷ []
unfolding lines_of card block runs ends
counted = refl

-- the last number is good, and nothing comes above it
last_number : lines_of (card (block 4294967295 (ends 5 ∷ []) ∷ block 0 (ends 6 ∷ []) ∷ [])) ≡ kept_less 1 ∷ gone number ∷ []
unfolding lines_of card block runs ends
last_number = refl

-- 512 zero bytes have a right check, and a bad shape
zeros : reading (filled 512 []) ≡ refused 0 shape
unfolding reading
zeros = refl

-- a readable card with a gap is left alone too where nothing stands after the gap
nothing_after : mending (card (block 0 (ends 5 ∷ []) ∷ block 2 [] ∷ [])) ≡ card (block 0 (ends 5 ∷ []) ∷ block 2 [] ∷ [])
unfolding mending card block runs ends
nothing_after = refl

-- the reader can't tell a moment's end after a gap from a moment: only mending lets it go
tail_taken : reading (card (block 0 (ends 5 ∷ []) ∷ block 2 (ends 6 ∷ []) ∷ [])) ≡ taken ((moment 5 1 ∷ []) ∷ (moment 6 1 ∷ []) ∷ [])
unfolding reading card block runs ends moment copies
tail_taken = refl

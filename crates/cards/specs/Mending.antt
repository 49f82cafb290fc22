-- Mending: which blocks stay, which of their records, the mended card and the list. Assumes nothing.
use Rattle.std.specs.Prelude.{ℕ, suc, ◌-◌, Bool, true, false, ◌&&◌, ◌||◌, List, [], ◌∷◌, ◌++◌, map, length}
use Rattle.cards.specs.Bytes.{joined}
use Rattle.cards.specs.Moments.{Record, flagged, whole, past_first}
use Rattle.cards.specs.Blocks.{Block, Reason, Piece, pieces, block_bytes}
use Rattle.cards.specs.Reading.{runs_on, Fate, stays, goes, fates, start}

-- the blocks that stay
unfoldable pub kept : List Fate → List Block
kept [] = []
kept (stays b ∷ fs) = b ∷ kept fs
kept (goes why ∷ fs) = kept fs

-- the records of the blocks that run on from the next number, without a gap
unfoldable pub going : ℕ → List Block → List Record
going next [] = []
going next (b ∷ bs) = elim (runs_on next b) [ true ↦ b.records ++ going (suc b.number) bs | false ↦ [] ]

-- "after a gap, records up to and including the first flagged one go": unless they went already, or there was no gap
unfoldable pub from_first : Bool → List Record → List Record
from_first true rs = rs
from_first false rs = past_first rs

-- "before a gap, and at the end, records after the last flagged one go": unless a flagged one comes later in the stretch
unfoldable pub to_last : Bool → List Record → List Record
to_last true rs = rs
to_last false rs = whole rs

-- kept blocks with the records that stay in them; `begun` says that the stretch so far came after no gap, or had a flagged record
unfoldable pub mend_from : Bool → ℕ → List Block → List Block
mend_from begun next [] = []
mend_from begun next (b ∷ bs) =
    record {
      number = b.number;
      records = to_last (flagged (going (suc b.number) bs)) (from_first (begun && runs_on next b) b.records);
    }
    ∷ mend_from ((begun && runs_on next b) || flagged b.records) (suc b.number) bs

-- the blocks of the mended card
unfoldable pub mended_blocks : List Piece → List Block
mended_blocks ps = mend_from true 0 (kept (fates start ps))

-- the bytes of blocks, "the check is made new"
unfoldable pub card_bytes : List Block → List ℕ
card_bytes bs = joined (map block_bytes bs)

unfoldable pub mended : List ℕ → List ℕ
mended bytes = card_bytes (mended_blocks (pieces bytes))

-- a line of the list: "kept, check, shape or number, with the count of records dropped from it (0 if the block went)"
pub data Listed : Type 0 where
  kept_less : ℕ → Listed
  gone : Reason → Listed

unfoldable pub listing : List Fate → List Block → List Listed
listing [] bs = []
listing (goes why ∷ fs) bs = gone why ∷ listing fs bs
listing (stays b ∷ fs) [] = []
listing (stays b ∷ fs) (m ∷ ms) = kept_less (length b.records - length m.records) ∷ listing fs ms

unfoldable pub listed : List Piece → List Listed
listed ps = listing (fates start ps) (mended_blocks ps)

unfoldable pub list : List ℕ → List Listed
list bytes = listed (pieces bytes)

-- Mending piece by piece, with a look ahead: what a program does that goes over a card in order. proofs/Ahead.antt shows that it is mending.
-- Assumes nothing.
use Rattle.std.specs.Prelude.{Bool, true, false, ◌&&◌, ◌||◌, List, [], ◌∷◌}
use Rattle.cards.specs.Moments.{flagged}
use Rattle.cards.specs.Blocks.{Block, Piece}
use Rattle.cards.specs.Reading.{Before, runs_on, after, stays, goes, fate}
use Rattle.cards.specs.Mending.{from_first, to_last}

-- some piece to come has a flagged record, in a block that stays and runs on without a gap
unfoldable pub flagged_ahead : Before → List Piece → Bool
flagged_ahead f [] = false
flagged_ahead f (p ∷ ps) = elim (fate f p) [
  | stays b ↦ elim (runs_on f.next b) [ true ↦ flagged b.records || flagged_ahead (after f b) ps | false ↦ false ]
  | goes why ↦ flagged_ahead f ps
]

-- the mended blocks, piece by piece: only the pieces to come are looked at, and only for that
unfoldable pub mend_pieces : Bool → Before → List Piece → List Block
mend_pieces begun f [] = []
mend_pieces begun f (p ∷ ps) = elim (fate f p) [
  | stays b ↦
      record { number = b.number; records = to_last (flagged_ahead (after f b) ps) (from_first (begun && runs_on f.next b) b.records) }
      ∷ mend_pieces ((begun && runs_on f.next b) || flagged b.records) (after f b) ps
  | goes why ↦ mend_pieces begun f ps
]

-- What `judge` answers, for any piece and anything carried; proofs/Judgements.antt shows that it is the piece's fate. Assumes nothing.
use Rattle.std.specs.Prelude.{ℕ, zero, suc, ◌≡◌, Bool, true, false, ◌&&◌, ◌||◌, List, eqb, ltb, Option, Some, None, Result, Ok, Err}
use Rattle.cards.specs.Moments.{Record, flagged, together}
use Rattle.cards.specs.Blocks.{Block, check, shape, number, Piece, good, faulty, piece_of, block_of}
use Rattle.cards.specs.Blocks
use Rattle.cards.specs.Reading.{Before, after, goes, fate}
use Rattle.cards.specs.Reading
use Rattle.cards.specs.Counting.{Open, opening_of, closed, more, into, open_after, all_belong}
use Rattle.card_block.specs.declared.Reason.{Reason}
use Rattle.card_block.specs.declared.Reason.TheVariants.{Check, Shape, Number}
use Rattle.card_block.specs.declared.Carried.{Carried}
use Rattle.card_block.specs.declared.moments.Moment.{Moment}

-- an open moment as the definitions count it
unfoldable pub open_at : Option Moment → Open
open_at None = closed
open_at (Some m) = record { count = suc m.more; stamp = m.stamp }

-- and as the code holds it
unfoldable pub held_by : ℕ → ℕ → Option Moment
held_by zero stamp = None
held_by (suc more) stamp = Some (record { stamp = stamp; more = more })

unfoldable pub held : Open → Option Moment
held o = held_by o.count o.stamp

-- what a record of this stamp leaves open, which has so many before it in its moment
abbrev pub left_by : Bool → ℕ → ℕ → Option Moment
left_by true more stamp = None
left_by false more stamp = Some (record { stamp = stamp; more = more })

-- a record of this stamp can belong to the open moment, or begin one
unfoldable pub may_belong : ℕ → ℕ → ℕ → Bool
may_belong count stamp new = eqb count 0 || (ltb count 8 && eqb new stamp)

-- what is open after a record of this stamp and flag
unfoldable pub onward : Bool → ℕ → ℕ → ℕ → Open
onward true count stamp new = closed
onward false count stamp new = more count stamp new

-- what a record of this stamp and flag makes of the open moment: what is open then, or a breach
unfoldable pub went_by : Bool → Open → Result (Option Moment) Reason
went_by true o = Ok (held o)
went_by false o = Err Shape

unfoldable pub went_on : Open → ℕ → Bool → Result (Option Moment) Reason
went_on o new last = went_by (may_belong o.count o.stamp new) (onward last o.count o.stamp new)

-- what records make of the open moment: what is open then, or a breach
unfoldable pub walked_by : Open → List Record → Result (Option Moment) Reason
walked_by o rs = went_by (all_belong o rs) (open_after o rs)

-- number comes after shape
unfoldable pub settled_by : Bool → ℕ → Option Moment → Result Carried Reason
settled_by true n moment = Err Number
settled_by false n moment = Ok (record { next = suc n; moment = moment })

unfoldable pub settled : ℕ → ℕ → Result (Option Moment) Reason → Result Carried Reason
settled n next (Ok moment) = settled_by (ltb n next) n moment
settled n next (Err why) = Err why

-- what a good block is after what is carried: a moment runs on into it where it has the next number
unfoldable pub judged_block : Block → Carried → Result Carried Reason
judged_block b c = settled b.number c.next (walked_by (into (eqb b.number c.next) (open_at c.moment)) b.records)

-- a reason as the code names it
unfoldable pub told : Blocks.Reason → Reason
told check = Check
told shape = Shape
told number = Number

-- what a piece is after what is carried
unfoldable pub judged_piece : Piece → Carried → Result Carried Reason
judged_piece (good b) c = judged_block b c
judged_piece (faulty why) c = Err (told why)

unfoldable pub judgement : List ℕ → Carried → Result Carried Reason
judgement bytes c = judged_piece (piece_of bytes) c

-- what is carried at the beginning of a card
abbrev pub nothing : Carried
nothing = record { next = 0; moment = None }

-- what is carried is what stands before a piece: the next number, and the open moment
pub record Carries (f : Before) (c : Carried) : Type 0 where
  pub next : c.next ≡ f.next
  pub held : open_at c.moment ≡ opening_of f.opened
  pub plain : flagged f.opened ≡ false
  pub one : together f.opened ≡ true

-- a reason as the definitions name it
unfoldable pub meant : Reason → Blocks.Reason
meant Check = check
meant Shape = shape
meant Number = number

-- the piece stays, and g carries what stands before the next one
pub record Kept (f : Before) (bytes : List ℕ) (g : Carried) : Type 0 where
  pub stays : fate f (piece_of bytes) ≡ Reading.stays (block_of bytes)
  pub carries : Carries (after f (block_of bytes)) g

-- a judgement is right: it is the piece's fate
abbrev pub Judges : Before → List ℕ → Result Carried Reason → Type 0
Judges f bytes (Ok g) = Kept f bytes g
Judges f bytes (Err why) = fate f (piece_of bytes) ≡ goes (meant why)

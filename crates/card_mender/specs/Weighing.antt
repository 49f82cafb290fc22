-- What one piece comes to in mending, and what a look ahead at it says, for any piece and anything carried. Assumes nothing.
use Rattle.std.specs.Prelude.{ℕ, suc, ◌+◌, Bool, true, false, ◌&&◌, List, [], ◌∷◌, eqb, drop, get_or, Result, Ok, Err}
use Rattle.cards.specs.Moments.{Record, flagged}
use Rattle.card_block.specs.declared.Carried.{Carried}
use Rattle.std.specs.declared.ops.ControlFlow.{ControlFlow}
use Rattle.std.specs.declared.ops.ControlFlow.TheVariants.{Break, Continue}
use Rattle.card_block.specs.declared.Reason.{Reason}
use Rattle.card_block.specs.Shapes.{records_from}
use Rattle.card_block.specs.Judging.{judgement}
use Rattle.card_mender.specs.declared.Held.{Held}

-- the count of records up to and including the first flagged one, or of all where none is flagged
unfoldable pub first_count : List Record → ℕ
first_count [] = 0
first_count (r ∷ rs) = elim r.last [ true ↦ 1 | false ↦ suc (first_count rs) ]

-- the count of records up to and including the last flagged one, or 0
unfoldable pub whole_count : List Record → ℕ
whole_count [] = 0
whole_count (r ∷ rs) = elim (flagged (r ∷ rs)) [ true ↦ suc (whole_count rs) | false ↦ 0 ]

-- the records of a block
unfoldable pub records_in : List ℕ → List Record
records_in bytes = records_from (get_or bytes 1 0) (drop 6 bytes)

-- a block that stays: after no gap, or after a flagged record of its stretch, all its records may; else those past the first flagged one
unfoldable pub held_by : Bool → List Record → Carried → ℕ → Held
held_by true rs after records = record { carried = after; begun = true; «from» = 0; last = whole_count rs; records = records }
held_by false rs after records = record {
  carried = after;
  begun = flagged rs;
  «from» = first_count rs;
  last = first_count rs + whole_count (drop (first_count rs) rs);
  records = records;
}

unfoldable pub kept_by : List ℕ → Carried → Bool → Held
kept_by bytes after on = held_by on (records_in bytes) after (get_or bytes 1 0)

unfoldable pub weighed_by : List ℕ → Carried → Bool → Result Carried Reason → Result Held Reason
weighed_by bytes carried begun (Ok after) = Ok (kept_by bytes after (begun && eqb after.next (suc carried.next)))
weighed_by bytes carried begun (Err why) = Err why

unfoldable pub weighed : List ℕ → Carried → Bool → Result Held Reason
weighed bytes carried begun = weighed_by bytes carried begun (judgement bytes carried)

-- a look at a block that runs on
unfoldable pub looked_to : Bool → Carried → ControlFlow Bool Carried
looked_to true after = Break true
looked_to false after = Continue after

unfoldable pub looked_on : List ℕ → Carried → ControlFlow Bool Carried
looked_on bytes after = looked_to (flagged (records_in bytes)) after

unfoldable pub looked_gap : Bool → List ℕ → Carried → ControlFlow Bool Carried
looked_gap true bytes after = looked_on bytes after
looked_gap false bytes after = Break false

unfoldable pub looked_by : List ℕ → Carried → Result Carried Reason → ControlFlow Bool Carried
looked_by bytes carried (Ok after) = looked_gap (eqb after.next (suc carried.next)) bytes after
looked_by bytes carried (Err why) = Continue carried

unfoldable pub looked : List ℕ → Carried → ControlFlow Bool Carried
looked bytes carried = looked_by bytes carried (judgement bytes carried)

-- how far the records of a block stay
unfoldable pub stay_to : Bool → Held → ℕ
stay_to true h = h.records
stay_to false h = h.last

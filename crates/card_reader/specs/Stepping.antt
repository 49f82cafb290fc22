-- What one step of the reader answers, for any piece and anything carried. Assumes nothing.
use Rattle.std.specs.Prelude.{ℕ, suc, Bool, true, false, List, eqb, get_or, is_none, Result, Ok, Err}
use Rattle.card_block.specs.declared.Carried.{Carried}
use Rattle.card_block.specs.declared.Reason.{Reason}
use Rattle.card_block.specs.Judging.{judgement}
use Rattle.card_reader.specs.declared.Onward.{Onward}
use Rattle.card_reader.specs.declared.Stop.{Stop}
use Rattle.card_reader.specs.declared.Stop.TheVariants.{Goes, Open}

-- a block that stays: it runs on, or begins anew after a gap, or a moment is open there
unfoldable pub onward_by : Bool → Bool → Carried → ℕ → Result Onward Stop
onward_by true closed after records = Ok (record { carried = after; anew = false; records = records })
onward_by false true after records = Ok (record { carried = after; anew = true; records = records })
onward_by false false after records = Err Open

unfoldable pub stepped_by : Carried → Carried → ℕ → Result Onward Stop
stepped_by carried after records = onward_by (eqb after.next (suc carried.next)) (is_none carried.moment) after records

unfoldable pub stepped_to : List ℕ → Carried → Result Carried Reason → Result Onward Stop
stepped_to bytes carried (Ok after) = stepped_by carried after (get_or bytes 1 0)
stepped_to bytes carried (Err why) = Err (Goes why)

unfoldable pub stepped : List ℕ → Carried → Result Onward Stop
stepped bytes carried = stepped_to bytes carried (judgement bytes carried)

-- `operands::slot_after` meets its contract. Assumes nothing.
use Rattle.drive.proofs.KnownLaws.{slot_none, slot_some}
use Rattle.drive.proofs.operands.slot_after.Goals as goal

pub returns-in-None : goal.returns-in-None
returns-in-None c = slot_none _ _ _ c.in-None.ensures

pub returns-in-Some : goal.returns-in-Some
returns-in-Some c = slot_some _ _ _ _ _ c.in-Some.ensures c.slot.ensures.slot c.slot.ensures.small

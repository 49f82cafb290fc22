-- The session is sound before the first line, and every table is 0. Assumes nothing.
use Rattle.kiosk.proofs.ServeLaws.{opened_sound}
use Rattle.kiosk.proofs.ReachLaws.{opened_shown}
use Rattle.kiosk.proofs.blocks.Desk.new.Goals as goal

pub invariant_of-result : goal.invariant_of-result
invariant_of-result c = record { sound = (opened_sound c.opened.ensures).0 }

pub returns : goal.returns
returns c = opened_shown c.opened.ensures c.new.ensures

-- What is read is counted off what may still come, and with it the events; the desk is one that is reached. The measure is how many bytes may
-- still come.
use Rattle.std.proofs.Common.{◌+◌, ◌≤◌}
use Rattle.kiosk.specs.Desks.{shown}
use Rattle.kiosk.specs.Runs.{Reached}
use Rattle.kiosk.proofs.main.Given as goal

abbrev pub invariant-loop-left : goal.invariant-loop-left
invariant-loop-left l = record { counted : l.desk.session.ordinal + l.left ≤ 18446744073709551614; reached : Reached (shown l.desk) }

abbrev pub decreases-loop-left : goal.decreases-loop-left
decreases-loop-left l = l.left

-- `pass::rows_of` meets its contract. Assumes nothing.
use Prim.Native.Nat.{◌-◌}
use lib.ListN.{length}
use Rattle.spelling.specs.Modes.{mode_code}
use Rattle.census.specs.Tables.{names_at}
use Rattle.drive.proofs.PassSteps.{Driving}
use Rattle.drive.proofs.pass.rows_of.Given as goal

abbrev pub invariant-loop-t : goal.invariant-loop-t
invariant-loop-t l =
    Driving (names_at l.known.text.now l.known.predicates.now) (names_at l.known.text.now l.known.variables.now) l.known.text.now l.table l.row l.stack (mode_code l.mode) l.at

abbrev pub decreases-loop-t : goal.decreases-loop-t
decreases-loop-t l =
    length l.known.text.now - l.at

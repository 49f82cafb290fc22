-- `lines::numbers_from` meets its contract. The loop's invariant: the bytes passed are the numbers read, and any run of numbers begins with those;
-- the measure is what is left of the line. Assumes nothing.
use Prim.Native.Nat.{◌-◌}
use lib.ListN.{length}
use Rattle.lines.proofs.Running.{Running}
use Rattle.lines.proofs.numbers_from.Given as goal

abbrev pub invariant-loop-i : goal.invariant-loop-i
invariant-loop-i l = Running l.line l.at l.count l.all l.i

abbrev pub decreases-loop-i : goal.decreases-loop-i
decreases-loop-i l = length l.line - l.i

-- `calls::too_many` meets its contract. The loop's invariant: the words left tell it. Assumes nothing.
use Prim.Native.Nat.{◌-◌}
use lib.ListN.{length}
use Rattle.spelling.specs.Modes.{mode_code}
use Rattle.census.proofs.ManyLaws.{Scanning}
use Rattle.census.proofs.calls.too_many.Given as goal

abbrev pub invariant-loop-w : goal.invariant-loop-w
invariant-loop-w l = Scanning l.text l.at (mode_code l.mode)

abbrev pub decreases-loop-w : goal.decreases-loop-w
decreases-loop-w l = length l.text - l.at

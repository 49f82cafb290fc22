-- `constants::too_large` meets its contract. The loop's invariant: the words left tell it. Assumes nothing.
use Prim.Native.Nat.{◌-◌}
use lib.ListN.{length}
use Rattle.census.proofs.LargeLaws.{Seeking}
use Rattle.census.proofs.constants.too_large.Given as goal

abbrev pub invariant-loop-w : goal.invariant-loop-w
invariant-loop-w l = Seeking l.text l.at

abbrev pub decreases-loop-w : goal.decreases-loop-w
decreases-loop-w l = length l.text - l.at

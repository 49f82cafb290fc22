-- `calls::commas` meets its contract. The loop's invariant: the commas so far and those of the words left are all. Assumes nothing.
use Prim.Native.Nat.{◌-◌}
use lib.ListN.{length}
use Rattle.census.proofs.CommaLaws.{Counting}
use Rattle.census.proofs.calls.commas.Given as goal

abbrev pub invariant-loop-w : goal.invariant-loop-w
invariant-loop-w l = Counting l.text l.from l.n l.at

abbrev pub decreases-loop-w : goal.decreases-loop-w
decreases-loop-w l = length l.text - l.at

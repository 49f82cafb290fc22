-- `sweep_all` meets its contract. The loop's invariant: the first i references are swept. Assumes nothing.
use Prim.Native.Nat.{◌/◌}
use lib.ListN.{length}
use Rattle.sweeping.proofs.RowsLaws.{Going}
use Rattle.sweeping.proofs.sweep_all.Given as goal

abbrev pub invariant-loop-i : goal.invariant-loop-i
invariant-loop-i l = Going l.nodes l.m l.levels l.refs l.count l.fn.work l.work (length l.nodes / 3) l.kept l.i l.out l.visits

-- `count_rows` meets its contract. The loop's invariant: the rows of w are still to be counted. The measure is w.
-- Assumes nothing.
use Prim.Native.Nat.{◌<◌}
use Rattle.sizes.proofs.CountingLaws.{Left}
use Rattle.sizes.proofs.count_rows.Given as goal

abbrev pub invariant-loop-w : goal.invariant-loop-w
invariant-loop-w l = (l.w < 4294967296) × Left l.base l.word l.w l.initial.sizes l.sizes

abbrev pub decreases-loop-w : goal.decreases-loop-w
decreases-loop-w l = l.w

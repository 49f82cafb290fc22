-- `apart` and `sweep` meet their contracts: the laws of NoteLaws and SweepLaws. The levels left fall: a node's sides are below its level.
-- Assumes nothing.
use Prim.Native.Nat.{◌+◌, ◌*◌}
use Rattle.sweeping.proofs.+sweep.Given as goal

abbrev pub decreases-apart : goal.decreases-apart
decreases-apart l = 2 * l.left

abbrev pub decreases-sweep : goal.decreases-sweep
decreases-sweep l = 2 * l.left + 1

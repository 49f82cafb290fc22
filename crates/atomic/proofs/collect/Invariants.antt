-- `collect` meets its contract. The loop's invariant: the arguments so far and those of the words left are all. Assumes nothing.
use Prim.Native.Nat.{◌-◌}
use lib.ListN.{length}
use Rattle.census.specs.Tables.{names_at}
use Rattle.atomic.proofs.CollectLaws.{Collecting}
use Rattle.atomic.proofs.collect.Given as goal

abbrev pub invariant-loop-w : goal.invariant-loop-w
invariant-loop-w l = Collecting (names_at l.names.text.now l.names.spans.now) l.names.text.now l.initial.nine l.from l.nine l.at

abbrev pub decreases-loop-w : goal.decreases-loop-w
decreases-loop-w l = length l.names.text.now - l.at

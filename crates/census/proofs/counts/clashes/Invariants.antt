-- `counts::clashes` meets its contract. The loop's invariant: no two counts of the names so far differ. Assumes nothing.
use Prim.Native.Nat.{◌-◌}
use lib.ListN.{length}
use Rattle.spelling.specs.Modes.{mode_code}
use Rattle.census.proofs.ClashPass.{Clashing}
use Rattle.census.proofs.counts.clashes.Given as goal

abbrev pub invariant-loop-w : goal.invariant-loop-w
invariant-loop-w l = Clashing l.names.text.now l.names.spans.now l.counts (mode_code l.mode) l.at

abbrev pub decreases-loop-w : goal.decreases-loop-w
decreases-loop-w l = length l.names.text.now - l.at

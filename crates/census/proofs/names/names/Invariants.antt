-- `names::names` meets its contract. The loop's invariant: the table has the names so far. Assumes nothing.
use Prim.Native.Nat.{◌-◌}
use lib.ListN.{length}
use Rattle.spelling.specs.Modes.{mode_code}
use Rattle.census.specs.Noting.{predicates}
use Rattle.census.proofs.NamesPass.{Naming}
use Rattle.census.proofs.names.names.Given as goal

abbrev pub invariant-loop-w : goal.invariant-loop-w
invariant-loop-w l = Naming (predicates l.wanted) l.text l.spans l.n (mode_code l.mode) l.at

abbrev pub decreases-loop-w : goal.decreases-loop-w
decreases-loop-w l = length l.text - l.at

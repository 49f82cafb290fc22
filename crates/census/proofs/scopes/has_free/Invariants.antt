-- `scopes::has_free` meets its contract. The loop's invariant: the depths show which names are bound. Assumes nothing.
use Prim.Native.Nat.{◌-◌}
use lib.ListN.{length}
use Rattle.spelling.specs.Modes.{mode_code}
use Rattle.census.proofs.FreePass.{Scoping}
use Rattle.census.proofs.scopes.has_free.Given as goal

abbrev pub invariant-loop-w : goal.invariant-loop-w
invariant-loop-w l = Scoping l.names.text.now l.names.spans.now l.since l.depth (mode_code l.mode) l.at

abbrev pub decreases-loop-w : goal.decreases-loop-w
decreases-loop-w l = length l.names.text.now - l.at

-- `stack::fill` meets its contract. The loop's invariant: what is left to fill is as at the start. Assumes nothing.
use Prim.Native.Nat.{◌≤◌}
use mathlib.Core.Path.{◌≡◌}
use lib.ListN.{length}
use Rattle.rowing.specs.Stacking.{fill_rows}
use Rattle.rowing.proofs.stack.fill.Given as goal

abbrev pub invariant-loop-frame : goal.invariant-loop-frame
invariant-loop-frame g l = record {
  same : fill_rows l.limit (record { rows = l.initial.table; row = l.initial.last }) l.initial.stack ≡ fill_rows l.limit (record { rows = l.table; row = l.last }) l.stack;
  fewer : length l.stack ≤ length l.initial.stack;
}

abbrev pub decreases-loop-frame : goal.decreases-loop-frame
decreases-loop-frame g l = length l.stack

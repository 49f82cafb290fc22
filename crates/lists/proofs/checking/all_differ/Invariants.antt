-- `all_differ` meets its contract. The loop's invariant: the first j places stand in the table, and their values differ. Assumes nothing.
use mathlib.Core.Path.{◌≡◌}
use lib.ListN.{length, drop}
use Rattle.lists.specs.Slots.{Table, Apart}
use Rattle.lists.proofs.checking.all_differ.Given as goal

abbrev pub invariant-loop-j : goal.invariant-loop-j
invariant-loop-j l = (length l.work ≡ length l.fn.work) × (drop l.room l.work ≡ drop l.room l.fn.work) × Table l.list l.work l.size l.j × Apart l.list l.j

-- `write_list` meets its contract. The loop's invariant: the first j fresh values are written. Assumes nothing.
use mathlib.Core.Path.{◌≡◌}
use lib.ListN.{length}
use Rattle.lists.specs.Writing.{written}
use Rattle.numbers.specs.Asking.{bare}
use Rattle.lists.proofs.writing.write_list.Given as goal

abbrev pub invariant-loop-j : goal.invariant-loop-j
invariant-loop-j l = (length l.values ≡ length l.initial.values) × (l.values ≡ written l.m l.b (bare l.fresh) l.v l.j l.initial.values)

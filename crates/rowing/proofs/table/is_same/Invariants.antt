-- `table::is_same` meets its contract. The loop's invariant: the rows are the same exactly if what is left of them is. Assumes nothing.
use mathlib.Core.Path.{◌≡◌}
use lib.ListN.{drop}
use Rattle.std.specs.Prelude.{nat_eq}
use Rattle.std.specs.Cmp.Lexicographic.{pointwise}
use Rattle.rowing.proofs.table.is_same.Given as goal

abbrev pub invariant-loop-i : goal.invariant-loop-i
invariant-loop-i l = pointwise nat_eq l.row l.nine ≡ pointwise nat_eq (drop l.i l.row) (drop l.i l.nine)

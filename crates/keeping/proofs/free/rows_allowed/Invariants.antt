-- `free::rows_allowed` meets its contract. The loop's invariant: the first i rows are allowed. Assumes nothing.
use Rattle.keeping.specs.Checks.{RowsAllowed}
use Rattle.keeping.proofs.free.rows_allowed.Given as goal

abbrev pub invariant-loop-i : goal.invariant-loop-i
invariant-loop-i l = RowsAllowed l.work l.allowed l.rows l.i

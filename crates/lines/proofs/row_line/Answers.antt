-- `lines::row_line` meets its contract, by the laws of a line that begins with `r`. Assumes nothing.
use native.Mathlib.Omega.{arith}
use Rattle.lines.proofs.Row.{row_no_run, row_count, row_written}
use Rattle.lines.proofs.row_line.Goals as goal

pub returns-in_err-rest : goal.returns-in_err-rest
returns-in_err-rest c = rw c.from_residual.ensures (row_no_run c.requires c.in_err-rest.ensures)

pub returns-then-rest-ne9 : goal.returns-then-rest-ne9
returns-then-rest-ne9 c = row_count c.requires c.in_ok-rest.ensures (omega arith)

pub returns : goal.returns
returns c = row_written c.requires c.in_ok-rest.ensures (omega arith)

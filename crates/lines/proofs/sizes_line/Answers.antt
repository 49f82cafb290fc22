-- `lines::sizes_line` meets its contract, by the laws of a line that begins with a number. Assumes nothing.
use native.Mathlib.Omega.{arith}
use Rattle.lines.proofs.Sizes.{sizes_no_number, sizes_no_run, sizes_count, sizes_large, sizes_written}
use Rattle.lines.proofs.sizes_line.Goals as goal

pub returns-in_err-first : goal.returns-in_err-first
returns-in_err-first c = rw c.from_residual.ensures (sizes_no_number c.requires c.in_err-first.ensures)

pub numbers_from-requires : goal.numbers_from-requires
numbers_from-requires c = c.in_ok-first.ensures.inside

pub returns-in_err-rest : goal.returns-in_err-rest
returns-in_err-rest c = rw c.from_residual-in_err-rest.ensures (sizes_no_run c.requires c.in_ok-first.ensures c.in_err-rest.ensures)

pub returns-then-rest-ne1 : goal.returns-then-rest-ne1
returns-then-rest-ne1 c = sizes_count c.requires c.in_ok-first.ensures c.in_ok-rest.ensures (omega arith)

pub returns-then-c-gt512 : goal.returns-then-c-gt512
returns-then-c-gt512 c = sizes_large c.requires c.in_ok-first.ensures c.in_ok-rest.ensures (omega arith) (omega arith)

pub returns : goal.returns
returns c = sizes_written c.in_ok-first.ensures c.in_ok-rest.ensures (omega arith) (omega arith)

-- `lines::event_line` meets its contract, by the laws of a line that begins with `e`. Assumes nothing.
use native.Mathlib.Omega.{arith}
use Rattle.lines.proofs.Event.{event_no_run, event_no_predicate, event_too_many, event_written}
use Rattle.lines.proofs.event_line.Goals as goal

pub returns-in_err-rest : goal.returns-in_err-rest
returns-in_err-rest c = rw c.from_residual.ensures (event_no_run c.requires c.in_err-rest.ensures)

pub returns-then-count-eq0 : goal.returns-then-count-eq0
returns-then-count-eq0 c = event_no_predicate c.requires c.in_ok-rest.ensures (omega arith)

pub returns-then-count-gt5 : goal.returns-then-count-gt5
returns-then-count-gt5 c = event_too_many c.requires c.in_ok-rest.ensures (omega arith)

pub returns : goal.returns
returns c = event_written _ c.requires c.in_ok-rest.ensures (omega arith) (omega arith)

-- `lines::read_line` meets its contract: no line is empty, and the first byte says which part reads the line. Assumes nothing.
use native.Mathlib.Omega.{arith}
use Rattle.lines.proofs.Text.{empty_none}
use Rattle.lines.proofs.read_line.Goals as goal

pub returns-in_err-first : goal.returns-in_err-first
returns-in_err-first c = rw c.from_residual.ensures (empty_none (omega (arith, c.in_err-first.ensures.item.3)))

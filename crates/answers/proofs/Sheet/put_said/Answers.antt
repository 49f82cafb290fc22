-- `answers::Sheet::put_said` meets its contract, by what is said. Assumes nothing.
use native.Mathlib.Omega.{arith}
use Rattle.answers.specs.Answers.{said_line, no_start}
use Rattle.answers.proofs.SheetLaws.{puts_none}
use Rattle.answers.proofs.Sheet.put_said.Goals as goal

pub returns-in_default-clause-puts : goal.returns-in_default-clause-puts
unfolding said_line
returns-in_default-clause-puts c = rw c.in_default.is (puts_none (omega (arith, c.requires)))

pub returns-in-Bad-clause-puts : goal.returns-in-Bad-clause-puts
unfolding said_line
returns-in-Bad-clause-puts c = rw (c.in-Some.is, c.in-Bad.is) c.put.ensures.puts

pub returns-in-NoStart-clause-puts : goal.returns-in-NoStart-clause-puts
unfolding said_line no_start
returns-in-NoStart-clause-puts c = rw (c.in-Some.is, c.in-NoStart.is) c.put_line.ensures.puts

pub returns-in-Event-clause-puts : goal.returns-in-Event-clause-puts
unfolding said_line
returns-in-Event-clause-puts c = rw (c.in-Some.is, c.in-Event.is) c.put_answer.ensures.puts

-- `answers::Sheet::put_verdict` meets its contract, by the verdict. Assumes nothing.
use Rattle.answers.proofs.Sheet.put_verdict.Goals as goal

pub returns-then-yes-clause-puts : goal.returns-then-yes-clause-puts
returns-then-yes-clause-puts c = rw c.if-yes.true c.put_line.ensures.puts

pub returns-clause-puts : goal.returns-clause-puts
returns-clause-puts c = rw c.if-yes.false c.put_line-2.ensures.puts

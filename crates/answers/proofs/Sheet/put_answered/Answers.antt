-- `answers::Sheet::put_answered` meets its contract, by the kind of the answer. Assumes nothing.
use Rattle.answers.specs.Answers.{answered}
use Rattle.answers.proofs.Sheet.put_answered.Goals as goal

pub returns-in-Verdict-clause-puts : goal.returns-in-Verdict-clause-puts
unfolding answered
returns-in-Verdict-clause-puts c = rw c.in-Verdict.is c.put_verdict.ensures.puts

pub returns-in-Refused-clause-puts : goal.returns-in-Refused-clause-puts
unfolding answered
returns-in-Refused-clause-puts c = rw c.in-Refused.is c.put_line.ensures.puts

pub returns-in-Started-clause-puts : goal.returns-in-Started-clause-puts
unfolding answered
returns-in-Started-clause-puts c = rw c.in-Started.is c.put.ensures.puts

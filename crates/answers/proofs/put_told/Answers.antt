-- `answers::put_told` meets its contract: the header, where there is one, and then what is said, where anything is. Assumes nothing.
use Rattle.std.proofs.Common.{rules}
use Rattle.answers.specs.Answers.{told_lines}
use Rattle.answers.proofs.SheetLaws.{puts_both, puts_out}
use Rattle.answers.proofs.put_told.Goals as goal

pub returns-clause-put : goal.returns-clause-put
unfolding told_lines
returns-clause-put c = puts_out (puts_both c.put_header.ensures.puts c.put_said.ensures.puts) (search rules)

-- `answers::Sheet::put_line` meets its contract: four texts, one behind another. Assumes nothing.
use Rattle.answers.proofs.PutLaws.{word_line_law}
use Rattle.answers.proofs.SheetLaws.{puts_both, puts_same}
use Rattle.answers.proofs.Sheet.put_line.Goals as goal

pub returns-clause-puts : goal.returns-clause-puts
returns-clause-puts c =
    puts_same (word_line_law _ _ _)
    (puts_both c.put.ensures.puts (puts_both c.put_spaced.ensures.puts (puts_both c.put_spaced-2.ensures.puts c.put-2.ensures.puts)))

-- `answers::Sheet::put_answer` meets its contract: the ordinal, and then the answer. Assumes nothing.
use native.Mathlib.Omega.{arith}
use Rattle.answers.specs.Answers.{answer_line}
use Rattle.answers.proofs.SheetLaws.{puts_both}
use Rattle.answers.proofs.NumberLaws.{wide_few}
use Rattle.answers.proofs.Sheet.put_answer.Goals as goal

pub put_number-requires : goal.put_number-requires
put_number-requires c = omega (arith, c.requires, wide_few c.args.ordinal c.ranges.ordinal.fits)

pub put_answered-requires : goal.put_answered-requires
put_answered-requires c =
    let digits = c.put_number.ensures.puts in
    omega (arith, c.requires, digits.put.past, digits.long, wide_few c.args.ordinal c.ranges.ordinal.fits)

pub returns-clause-puts : goal.returns-clause-puts
unfolding answer_line
returns-clause-puts c = puts_both c.put_number.ensures.puts c.put_answered.ensures.puts

pub returns-clause-upper_bound : goal.returns-clause-upper_bound
returns-clause-upper_bound c =
    omega (arith, c.put_number.ensures.puts.put.past, c.put_answered.ensures.upper_bound, wide_few c.args.ordinal c.ranges.ordinal.fits)

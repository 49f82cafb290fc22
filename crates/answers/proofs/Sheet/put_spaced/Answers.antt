-- `answers::Sheet::put_spaced` meets its contract: a space, and then the digits. Assumes nothing.
use native.Mathlib.Omega.{arith}
use Rattle.answers.proofs.SheetLaws.{puts_both}
use Rattle.lines.proofs.Long.{numeral_short}
use Rattle.answers.proofs.Sheet.put_spaced.Goals as goal

pub put_number-requires : goal.put_number-requires
put_number-requires c =
    let space = c.put.ensures.puts in
    rw c.from.ensures (omega (arith, c.requires, space.put.past, space.long, numeral_short c.args.n c.ranges.n.fits))

pub returns-clause-puts : goal.returns-clause-puts
returns-clause-puts c = puts_both c.put.ensures.puts (rw c.from.ensures at c.put_number.ensures.puts)

pub returns-clause-upper_bound : goal.returns-clause-upper_bound
returns-clause-upper_bound c =
    let digits = rw c.from.ensures at c.put_number.ensures.puts in
    omega (arith, c.put.ensures.puts.put.past, digits.put.past, numeral_short c.args.n c.ranges.n.fits)

use native.Mathlib.Omega.{arith}
use mathlib.Core.Path.{sym, ap}
use lib.ListN.{length, length-append}
use Rattle.lines.proofs.Numeral.{numeral_small}
use Rattle.answers.proofs.PutLaws.{numeral_last}
use Rattle.answers.proofs.SheetLaws.{puts_both, puts_same}
use Rattle.answers.proofs.Sheet.+put_number.Goals as goal

pub put-requires : goal.put-requires
put-requires t c = omega (arith, c.requires, ap length (numeral_small c.args.n c.if-n-lt10.true))

pub returns-then-n-lt10-clause-puts : goal.returns-then-n-lt10-clause-puts
returns-then-n-lt10-clause-puts t c = puts_same (sym (numeral_small c.args.n c.if-n-lt10.true)) c.put.ensures.puts

pub put_number-requires : goal.put_number-requires
put_number-requires t c =
    let tenth = numeral_last c.args.n c.if-n-lt10.false in
    (omega (arith, c.decreases, c.if-n-lt10.false), omega (arith, c.requires, simp length-append at (ap length tenth)))

pub put-requires-2 : goal.put-requires-2
put-requires-2 t c =
    let tenth = numeral_last c.args.n c.if-n-lt10.false in
    let front = c.put_number.ensures.puts in
    omega (arith, c.requires, simp length-append at (ap length tenth), front.put.past, front.long)

pub returns-clause-puts : goal.returns-clause-puts
returns-clause-puts t c = puts_same (sym (numeral_last c.args.n c.if-n-lt10.false)) (puts_both c.put_number.ensures.puts c.put-2.ensures.puts)

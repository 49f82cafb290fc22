use native.Mathlib.Omega.{arith}
use mathlib.Core.Path.{sym}
use Rattle.age_check.proofs.MarkLaws.{rows_more, row_fails}
use Rattle.age_check.proofs.rows_right.Goals as goal

pub returns-in_default : goal.returns-in_default
returns-in_default c =
    let k = c.loop-i-test.true in
    let top = (c.requires.by_index.0 c.loop-i.i k).1 in
    row_fails k top (sym c.in_default.ensures) (omega arith)

pub returns-then-tops-i : goal.returns-then-tops-i
returns-then-tops-i c =
    let k = c.loop-i-test.true in
    row_fails k (c.requires.by_index.0 c.loop-i.i k).1 (sym c.in-Some.ensures.0) c.if-tops-i.true

pub loop-i-preserved : goal.loop-i-preserved
loop-i-preserved c = rows_more c.loop-i.invariant (c.requires.by_index.0 c.loop-i.i c.loop-i-test.true).1 (sym c.in-Some.ensures.0) c.if-tops-i.false

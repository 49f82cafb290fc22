use native.Mathlib.Omega.{arith}
use Rattle.rowing.proofs.TableLaws.{alike_more, alike_other, alike_all}
use Rattle.rowing.proofs.table.is_same.Goals as goal

pub returns-then-row-i : goal.returns-then-row-i
returns-then-row-i c = alike_other c.args.row.now c.args.nine.now c.loop-i.i c.loop-i.invariant (omega arith) (omega arith) c.if-row-i.true

pub loop-i-preserved : goal.loop-i-preserved
loop-i-preserved c = alike_more c.args.row.now c.args.nine.now c.loop-i.i c.loop-i.invariant (omega arith) (omega arith) c.if-row-i.false

pub returns : goal.returns
returns c = alike_all c.args.row.now c.args.nine.now c.loop-i.i c.loop-i.invariant (omega arith) (omega arith)

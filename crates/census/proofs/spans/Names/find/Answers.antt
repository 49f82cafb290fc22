use Rattle.census.proofs.TableLaws.{find_begins, find_here, find_more, find_none}
use Rattle.census.proofs.spans.Names.find.Goals as goal

pub loop-i-init : goal.loop-i-init
loop-i-init c = find_begins _ _ _

pub returns-then-eq : goal.returns-then-eq
returns-then-eq c = find_here _ _ _ _ c.loop-i.invariant c.loop-i-test.true _ _ c.from-start.ensures c.from.ensures _ c.eq.ensures c.if-eq.true

pub loop-i-preserved : goal.loop-i-preserved
loop-i-preserved c = find_more _ _ _ _ c.loop-i.invariant c.loop-i-test.true _ _ c.from-start.ensures c.from.ensures _ c.eq.ensures c.if-eq.false

pub returns : goal.returns
returns c = find_none _ _ _ _ c.loop-i.invariant c.loop-i-test.false c.loop-i.auto.i-end

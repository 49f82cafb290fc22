use Rattle.lists.proofs.SlotsLaws.{begin, go_on, closer, sought_none}
use Rattle.lists.proofs.checking.seek.Goals as goal

pub loop-p-init : goal.loop-p-init
loop-p-init c = let e = c.slot-p.ensures in begin _ _ _ _ c.requires _ e.0 e.1

pub loop-p-smaller : goal.loop-p-smaller
loop-p-smaller c = closer _ _ _ _ c.requires _ _ c.loop-p.invariant _ c.next-p.ensures.0 c.loop-p-test.true

pub loop-p-preserved : goal.loop-p-preserved
loop-p-preserved c = let e = c.next-p.ensures in go_on _ _ _ _ c.requires _ _ c.loop-p.invariant _ e.0 e.1 c.loop-p-test.true c.if-list-work.true

pub returns-after-loop-p : goal.returns-after-loop-p
returns-after-loop-p c = sought_none _ _ _ _ c.requires _ _ c.loop-p.invariant c.loop-p-test.false

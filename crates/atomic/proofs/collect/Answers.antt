use Rattle.spelling.specs.declared.kinds.Kind.TheVariants.{Close}
use Rattle.spelling.proofs.Each.{kind_met, kind_missed}
use Rattle.atomic.proofs.CollectLaws.{collect_ends, collect_shut, collect_more}
use Rattle.atomic.proofs.collect.Goals as goal

pub returns-then-eq : goal.returns-then-eq
returns-then-eq c = collect_shut _ _ _ _ _ _ c.loop-w.invariant _ c.in-Some.ensures (kind_met c.in-Some.w.word Close _ c.eq.ensures c.if-eq.true)

pub loop-w-preserved : goal.loop-w-preserved
loop-w-preserved c = collect_more _ _ _ _ _ _ c.loop-w.invariant _ c.in-Some.ensures (kind_missed c.in-Some.w.word Close _ c.eq.ensures c.if-eq.false) _ c.add.ensures

pub returns : goal.returns
returns c = collect_ends _ _ _ _ _ _ c.loop-w.invariant c.in_default.ensures

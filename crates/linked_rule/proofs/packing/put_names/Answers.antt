use Rattle.linked_rule.proofs.RulingLaws.{put_more, put_all, places_written}
use native.Mathlib.Omega.{arith}
use Rattle.linked_rule.proofs.packing.put_names.Goals as goal

pub loop-i-preserved : goal.loop-i-preserved
loop-i-preserved c = put_more _ _ (λ s. s.start) _ _ _ _ c.loop-i.invariant c.from.ensures c.loop-i-test.true (omega (arith, c.requires))

pub loop-j-preserved : goal.loop-j-preserved
loop-j-preserved c = put_more _ _ (λ s. s.length) _ _ _ _ c.loop-j.invariant c.from-in-loop-j.ensures c.loop-j-test.true (omega (arith, c.requires, c.loop-i.auto.to))

pub returns : goal.returns
returns c = places_written _ _ _ _ _ (omega (arith, c.requires)) (put_all _ _ (λ s. s.start) _ _ _ c.loop-i.invariant c.loop-i-test.false c.loop-i.auto.i-end) (put_all _ _ (λ s. s.length) _ _ _ c.loop-j.invariant c.loop-j-test.false c.loop-j.auto.j-end)

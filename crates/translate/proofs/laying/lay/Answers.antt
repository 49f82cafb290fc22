use native.Mathlib.Omega.{arith}
use mathlib.Core.Path.{refl}
use lib.ListN.{length}
use Rattle.translate.proofs.LayingLaws.{lay_more, lay_ends}
use Rattle.translate.proofs.laying.lay.Goals as goal

pub loop-i-preserved : goal.loop-i-preserved
loop-i-preserved g c = lay_more _ _ _ _ _ _ refl c.requires c.loop-i.invariant (omega (arith, c.loop-i-test.true, c.loop-i.auto.to)) _ c.value_at.ensures

pub returns : goal.returns
returns g c = lay_ends _ (length c.args.to.now) _ _ _ c.loop-i.i refl c.requires c.loop-i.invariant (omega (arith, c.loop-i-test.false, c.loop-i.auto.i-end))

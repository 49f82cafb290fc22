use native.Mathlib.Omega.{arith}
use Rattle.sizes.proofs.PassLaws.{given_none, given_more, shifted}
use Rattle.sizes.proofs.mark_roots.Goals as goal

pub loop-t-init : goal.loop-t-init
loop-t-init c = given_none _ _ _

pub loop-t-preserved : goal.loop-t-preserved
loop-t-preserved c =
    given_more c.args.base c.loop-t.t _ c.args.refs.now c.args.words.now c.loop-t.words c.join.new.words (shifted c.loop-t.t (omega (arith, c.requires.base_bound.1, c.loop-t-test.true))) c.loop-t.invariant (c.join.ensures c.args.base)

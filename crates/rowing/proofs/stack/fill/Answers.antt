use native.Mathlib.Omega.{arith}
use mathlib.Core.Path.{ap}
use lib.ListN.{length}
use Rattle.rowing.proofs.StackLaws.{fill_over, fill_more, fill_ends}
use Rattle.rowing.proofs.stack.fill.Goals as goal

pub returns-in_err-last-clause-fills : goal.returns-in_err-last-clause-fills
returns-in_err-last-clause-fills g c = rw c.from_residual.ensures (fill_over _ _ _ _ c.loop-frame.invariant.same _ _ c.in-Some.ensures.0 c.in-Some.ensures.1 c.in_err-last.ensures)

pub loop-frame-preserved : goal.loop-frame-preserved
loop-frame-preserved g c = record {
  same = fill_more _ _ _ _ c.loop-frame.invariant.same _ _ c.in-Some.ensures.0 c.in-Some.ensures.1 _ c.in_ok-last.ensures;
  fewer = omega (arith, ap length c.in-Some.ensures.0, c.loop-frame.invariant.fewer);
}

pub returns-clause-fills : goal.returns-clause-fills
returns-clause-fills g c = fill_ends _ _ _ _ _ c.loop-frame.invariant.same c.in_default.ensures.0 c.in_default.ensures.1

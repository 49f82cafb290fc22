use native.Mathlib.Omega.{arith}
use Rattle.card_mender.proofs.FlagLaws.{firsts_start, firsts_found, firsts_more, firsts_none}
use Rattle.card_mender.proofs.flags.past_first.Goals as goal

pub loop-i-init : goal.loop-i-init
loop-i-init c = firsts_start _ _

pub returns-then-piece-i-eq1 : goal.returns-then-piece-i-eq1
returns-then-piece-i-eq1 c = firsts_found c.loop-i.invariant (omega arith) c.if-piece-i-eq1.true

pub loop-i-preserved : goal.loop-i-preserved
loop-i-preserved c = firsts_more c.loop-i.invariant (omega arith) c.if-piece-i-eq1.false

pub returns : goal.returns
returns c = omega (arith, c.loop-i.invariant.within, firsts_none c.loop-i.invariant (omega arith))

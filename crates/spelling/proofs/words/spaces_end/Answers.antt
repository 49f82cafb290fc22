use native.Mathlib.Omega.{arith}
use Rattle.spelling.proofs.FirstLaws.{skip_none, skip_more, skip_stops, skip_ends}
use Rattle.spelling.proofs.words.spaces_end.Goals as goal

pub loop-i-init : goal.loop-i-init
loop-i-init c = skip_none _ _ c.requires

pub returns-then-text-i-ne32 : goal.returns-then-text-i-ne32
returns-then-text-i-ne32 c = skip_stops _ _ _ c.loop-i.invariant c.if-text-i-ne32.true

pub loop-i-preserved : goal.loop-i-preserved
loop-i-preserved c = skip_more _ _ _ c.loop-i.invariant (omega arith) c.if-text-i-ne32.false

pub returns : goal.returns
returns c = skip_ends _ _ _ c.loop-i.invariant (omega arith)

use native.Mathlib.Omega.{arith}
use Rattle.lines.proofs.Running.{running_start, running_more, running_gap, running_tenth, running_none, running_whole}
use Rattle.lines.proofs.numbers_from.Goals as goal

pub loop-i-init : goal.loop-i-init
loop-i-init c = running_start _ _ c.requires

pub returns-then-line-i-ne32 : goal.returns-then-line-i-ne32
returns-then-line-i-ne32 c = running_gap c.loop-i.invariant (omega arith) (omega arith)

pub returns-then-count-eq9 : goal.returns-then-count-eq9
returns-then-count-eq9 c = running_tenth c.loop-i.invariant (omega arith) (omega arith)

pub returns-in_err-token : goal.returns-in_err-token
returns-in_err-token c = rw c.from_residual.ensures (running_none c.loop-i.invariant (omega arith) c.in_err-token.ensures)

pub loop-i-smaller : goal.loop-i-smaller
loop-i-smaller c =
    let took = c.in_ok-token.ensures in
    omega (arith, took.past, took.inside)

pub loop-i-preserved : goal.loop-i-preserved
loop-i-preserved c = running_more c.loop-i.invariant (omega arith) (omega arith) (omega arith) c.in_ok-token.ensures

pub returns : goal.returns
returns c = running_whole c.loop-i.invariant (omega arith)

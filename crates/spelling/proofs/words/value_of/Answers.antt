use native.Mathlib.Omega.{arith}
use Rattle.spelling.proofs.RunLaws.{read_more, read_over, read_all}
use Rattle.spelling.proofs.words.value_of.Goals as goal

pub returns-in_err-checked_mul : goal.returns-in_err-checked_mul
returns-in_err-checked_mul c = rw c.from_residual.ensures (read_over _ _ _ c.loop-b.invariant c.loop-b-test.true (omega (arith, c.in_err-checked_mul.ensures)))

pub returns-in_err-value : goal.returns-in_err-value
returns-in_err-value c =
    rw c.from_residual-in_err-value.ensures
    (read_over _ _ _ c.loop-b.invariant c.loop-b-test.true (omega (arith, c.in_ok-checked_mul.ensures, c.digit.ensures, c.in_err-value.ensures)))

pub loop-b-preserved : goal.loop-b-preserved
loop-b-preserved c = read_more _ _ _ c.loop-b.invariant c.loop-b-test.true _ (omega (arith, c.in_ok-checked_mul.ensures, c.digit.ensures, c.in_ok-value.ensures)) (omega (arith, c.in_ok-value.ensures))

pub returns : goal.returns
returns c = (read_all _ _ _ c.loop-b.invariant c.loop-b-test.false c.loop-b.auto.b-index-end, c.loop-b.invariant.small)

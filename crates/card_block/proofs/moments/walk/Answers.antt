use native.Mathlib.Omega.{arith}
use Rattle.std.proofs.lemmas.Result.{err_from_is_err_and}
use Rattle.card_block.proofs.WalkLaws.{walking_start, walking_broken, walking_on, walking_end}
use Rattle.card_block.proofs.moments.walk.Goals as goal

pub loop-i-init : goal.loop-i-init
loop-i-init c = walking_start _ _ _

pub returns-in_err-held : goal.returns-in_err-held
returns-in_err-held c =
    let p = err_from_is_err_and c.from_residual.result c.from_residual.ensures.1 in
    rw (p.1, p.2) (walking_broken c.loop-i.invariant _ _ (omega arith) c.number_at.ensures (c.in_err-held.ensures))

pub loop-i-preserved : goal.loop-i-preserved
loop-i-preserved c = walking_on c.loop-i.invariant _ _ (omega arith) c.number_at.ensures (c.in_ok-held.ensures)

pub returns : goal.returns
returns c = walking_end c.loop-i.invariant (omega arith)

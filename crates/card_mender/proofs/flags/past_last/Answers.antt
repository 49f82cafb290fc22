use native.Mathlib.Omega.{arith}
use Rattle.card_mender.proofs.FlagLaws.{lasts_start, lasts_flag, lasts_plain, lasts_end}
use Rattle.card_mender.proofs.flags.past_last.Goals as goal
use Rattle.card_mender.proofs.flags.past_last.Goals.{then-piece-i-eq1, else-piece-i-eq1}

pub loop-i-init : goal.loop-i-init
loop-i-init c = lasts_start _ _ _ c.requires.0

pub loop-i-preserved : goal.loop-i-preserved
loop-i-preserved c =
    elim c.if-piece-i-eq1.branch [
      | then-piece-i-eq1 w ↦ rw w.last-is (lasts_flag c.loop-i.invariant (omega arith) w.if-piece-i-eq1.true)
      | else-piece-i-eq1 w ↦ rw w.last-is (lasts_plain c.loop-i.invariant (omega arith) w.if-piece-i-eq1.false)
    ]

pub returns : goal.returns
returns c = lasts_end c.loop-i.invariant (omega arith)

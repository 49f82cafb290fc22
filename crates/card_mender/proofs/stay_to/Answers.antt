-- `stay_to` meets its contract. Assumes nothing.
use mathlib.Core.Path.{sym, ◌∙◌}
use Rattle.card_mender.proofs.LookLaws.{stays_all, stays_yes, stays_no}
use Rattle.card_mender.proofs.stay_to.Goals as goal
use Rattle.card_mender.proofs.stay_to.Goals.{then-held-via-then-held, then-held-via-else-held+then-flagged_ahead}

pub returns-then-held : goal.returns-then-held
returns-then-held c = λ f k.
    elim c.then-held.branch [
      | then-held-via-then-held w ↦ stays_all _ _ w.if-held.true
      | then-held-via-else-held+then-flagged_ahead w ↦ stays_yes _ _ (sym (w.flagged_ahead.ensures f k) ∙ w.if-flagged_ahead.true)
    ]

pub returns : goal.returns
returns c = λ f k. stays_no _ _ (sym (c.flagged_ahead.ensures f k) ∙ c.if-flagged_ahead.false)

-- `go_on` meets its contract. Assumes nothing.
use mathlib.Core.Path.{sym, ◌∙◌}
use Rattle.std.proofs.Common.{inl, inr}
use Rattle.card_reader.proofs.StepLaws.{gap_open, goes_on}
use Rattle.card_reader.proofs.go_on.Goals as goal
use Rattle.card_reader.proofs.go_on.Goals.{else-anew-via-then-anew+else-is_some, else-anew-via-else-anew}

pub returns-then-is_some : goal.returns-then-is_some
returns-then-is_some c = gap_open _ _ _ c.requires c.if-anew.true (sym c.is_some.ensures ∙ c.if-is_some.true)

pub returns : goal.returns
returns c =
    goes_on _ _ _ c.requires
    (elim c.else-anew.branch [
      | else-anew-via-then-anew+else-is_some w ↦ inl (sym w.is_some.ensures ∙ w.if-is_some.false)
      | else-anew-via-else-anew w ↦ inr w.if-anew.false
    ])

-- `went_on` meets its contract. Assumes nothing.
use mathlib.Core.Path.{sym, ◌∙◌}
use Rattle.card_block.proofs.WalkLaws.{few, went_wrong, went_right}
use Rattle.card_block.proofs.moments.went_on.Goals as goal

pub returns-then-not-may_belong : goal.returns-then-not-may_belong
returns-then-not-may_belong c = went_wrong _ _ _ (sym c.may_belong.ensures ∙ c.if-not-may_belong.true)

pub go_on-requires : goal.go_on-requires
go_on-requires c = few _ _ (sym c.may_belong.ensures ∙ c.if-not-may_belong.false)

pub returns : goal.returns
returns c = went_right _ _ _ _ (sym c.may_belong.ensures ∙ c.if-not-may_belong.false) c.go_on.ensures

-- `moheguzari_rule` meets its contract. Assumes nothing.
use Rattle.linked_rule.proofs.SmallLaws.{told_small}
use Rattle.linked_rule.proofs.moheguzari_rule.Goals as goal

pub put-requires-clause-small : goal.put-requires-clause-small
put-requires-clause-small c = told_small _ _ _ _ c.translate.ensures

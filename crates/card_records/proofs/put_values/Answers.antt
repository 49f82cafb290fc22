-- `put_values` meets its contract. Assumes nothing.
use Rattle.card_records.proofs.FactLaws.{values_put}
use Rattle.card_records.proofs.put_values.Goals as goal

pub returns : goal.returns
returns c = values_put _ _ _ _ _ c.args.f _ _ _ c.value_of.ensures c.value_of-2.ensures c.value_of-3.ensures c.put_number.ensures c.put_number-2.ensures c.put_number-3.ensures

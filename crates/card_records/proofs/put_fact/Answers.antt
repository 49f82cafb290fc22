-- `put_fact` meets its contract. Assumes nothing.
use Rattle.card_records.proofs.FactLaws.{fact_put}
use Rattle.card_records.proofs.put_fact.Goals as goal

pub returns : goal.returns
returns c = fact_put _ _ _ _ _ _ c.args.f c.put_number.ensures c.put_number-2.ensures c.put_marks.ensures c.put_values.ensures

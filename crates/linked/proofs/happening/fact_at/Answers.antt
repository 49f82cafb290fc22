-- `happening::fact_at` meets its contract. Assumes nothing.
use Rattle.linked.proofs.HappeningLaws.{fact_read}
use Rattle.linked.proofs.happening.fact_at.Goals as goal

pub returns : goal.returns
returns c =
    fact_read _ _ _ _ _ _ _ c.number_at-4.ensures c.number_at-5.ensures c.number_at.ensures c.number_at-2.ensures c.number_at-3.ensures

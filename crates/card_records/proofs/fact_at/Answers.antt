-- `fact_at` meets its contract. Assumes nothing.
use mathlib.Core.Path.{refl}
use Rattle.card_records.proofs.FactLaws.{fact_says}
use Rattle.card_records.proofs.fact_at.Goals as goal

pub returns : goal.returns
returns c = fact_says c.args.piece.now _ _ _ _ _ _ _ _ c.number_at.ensures c.number_at-2.ensures c.from.ensures refl c.number_at-3.ensures c.number_at-4.ensures c.number_at-5.ensures

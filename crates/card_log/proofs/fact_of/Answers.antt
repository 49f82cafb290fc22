-- `fact_of` meets its contract. Assumes nothing.
use mathlib.Core.Path.{refl}
use Rattle.card_records.specs.Facts.{record_from}
use Rattle.card_log.specs.Rows.{row_record}
use Rattle.card_log.proofs.fact_of.Goals as goal

pub returns-clause-result_value : goal.returns-clause-result_value
unfolding record_from row_record
returns-clause-result_value c = refl

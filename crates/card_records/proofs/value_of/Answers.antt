-- `value_of` meets its contract. Assumes nothing.
use Rattle.card_records.proofs.FactLaws.{used_in, used_out}
use Rattle.card_records.proofs.value_of.Goals as goal

pub returns-then-i-count : goal.returns-then-i-count
returns-then-i-count c = used_in _ _ _ c.if-i-count.true

pub returns-else-i-count : goal.returns-else-i-count
returns-else-i-count c = used_out _ _ _ c.if-i-count.false

-- `begin` meets its contract. Assumes nothing.
use Rattle.card_writer.proofs.SheetLaws.{holding_none}
use Rattle.card_writer.proofs.Sheet.begin.Goals as goal

pub returns-clause-held : goal.returns-clause-held
returns-clause-held c = holding_none _ _ c.put_number.ensures

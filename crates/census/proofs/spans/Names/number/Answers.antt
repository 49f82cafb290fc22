-- `Names::number` meets its contract. Assumes nothing.
use Rattle.census.proofs.TableLaws.{find_slot}
use Rattle.census.proofs.spans.Names.number.Goals as goal

pub returns-clause-number : goal.returns-clause-number
returns-clause-number c = (find_slot _ _ _ _ _ c.find.ensures c.unwrap_or.ensures).0

pub returns-clause-few : goal.returns-clause-few
returns-clause-few c = (find_slot _ _ _ _ _ c.find.ensures c.unwrap_or.ensures).1

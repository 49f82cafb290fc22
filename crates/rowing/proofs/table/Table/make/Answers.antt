-- `Table::make` meets its contract. Assumes nothing.
use Rattle.rowing.proofs.TableLaws.{row_found, row_made, row_over}
use Rattle.rowing.proofs.table.Table.make.Goals as goal

pub returns-in-Some : goal.returns-in-Some
returns-in-Some c = rw (← c.self.view_is) (row_found _ _ _ c.in-Some.ensures)

pub returns-then-made-eq64 : goal.returns-then-made-eq64
returns-then-made-eq64 c = rw (← c.self.view_is) (row_over _ _ _ c.self.told c.in_default.ensures c.if-made-eq64.true)

pub returns : goal.returns
returns c = rw (← c.self.view_is) (row_made _ _ _ c.self.told c.in_default.ensures c.self.invariant c.if-made-eq64.false)

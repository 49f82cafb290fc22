-- `settle` meets its contract. Assumes nothing.
use Rattle.walks.proofs.SettleLaws.{in_order}
use Rattle.walks.proofs.settle.Goals as goal

pub returns : goal.returns
returns c = in_order _ _ _ (rw (c.min.ensures, c.max.ensures) at c.settle_ordered.ensures)

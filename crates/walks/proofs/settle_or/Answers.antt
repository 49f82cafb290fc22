-- `settle_or` meets its contract. Assumes nothing.
use Rattle.walks.proofs.SettleLaws.{or_no, or_yes, or_swapped, or_stays}
use Rattle.walks.proofs.settle_or.Goals as goal

pub returns-then-r-eq0 : goal.returns-then-r-eq0
returns-then-r-eq0 c = or_no _ _ c.if-r-eq0.true

pub returns-then-o-eq1 : goal.returns-then-o-eq1
returns-then-o-eq1 c = or_yes _ _ c.if-o-eq1.true

pub returns-then-o-r : goal.returns-then-o-r
returns-then-o-r c = or_swapped _ _ c.requires c.if-o-r.true

pub returns : goal.returns
returns c = or_stays _ _ c.requires c.if-o-eq1.false

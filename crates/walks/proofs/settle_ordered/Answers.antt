-- `settle_ordered` meets its contract. Assumes nothing.
use Rattle.walks.proofs.SettleLaws.{right_yes, left_no, right_left, right_old, left_old, left_yes, left_node}
use Rattle.walks.proofs.settle_ordered.Goals as goal
use Rattle.walks.proofs.settle_ordered.Goals.{then-x-eq1-via-then-x-eq1, then-x-eq1-via-else-x-eq1+then-x-eq0, then-x-eq1-via-else-x-eq1+else-x-eq0+then-x, then-x-eq1-via-else-x-eq1+else-x-eq0+else-x+then-x-2}
use Rattle.walks.proofs.settle_ordered.Goals.{then-x-3-via-then-x-3, then-x-3-via-else-x-3+then-x-eq1-2}

pub returns-then-x-eq1 : goal.returns-then-x-eq1
returns-then-x-eq1 c = elim c.then-x-eq1.branch [
  | then-x-eq1-via-then-x-eq1 w ↦ right_yes _ _ _ w.if-x-eq1.true
  | then-x-eq1-via-else-x-eq1+then-x-eq0 w ↦ left_no _ _ _ w.if-x-eq0.true
  | then-x-eq1-via-else-x-eq1+else-x-eq0+then-x w ↦ right_left _ _ _ w.if-x.true
  | then-x-eq1-via-else-x-eq1+else-x-eq0+else-x+then-x-2 w ↦ right_old _ _ _ w.if-x-2.true
]

pub returns-then-x-3 : goal.returns-then-x-3
returns-then-x-3 c = elim c.then-x-3.branch [
  | then-x-3-via-then-x-3 w ↦ left_old _ _ _ w.if-x-3.true c.settle_or.ensures
  | then-x-3-via-else-x-3+then-x-eq1-2 w ↦ left_yes _ _ _ w.if-x-eq1-2.true c.settle_or.ensures
]

pub returns : goal.returns
returns c = left_node _ _ _ c.if-x-eq0.false c.if-x-eq1-2.false

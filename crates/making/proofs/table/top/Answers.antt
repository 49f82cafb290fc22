-- `top` meets its contract. Assumes nothing.
use Rattle.making.proofs.SideLaws.{top_leaf, top_node}
use Rattle.making.proofs.table.top.Goals as goal

pub returns-then-r-lt2 : goal.returns-then-r-lt2
returns-then-r-lt2 c = top_leaf _ _ _ c.if-r-lt2.true

pub returns : goal.returns
returns c = top_node c.read-x.ensures

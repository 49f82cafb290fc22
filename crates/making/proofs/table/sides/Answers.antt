-- `sides` meets its contract. Assumes nothing.
use Rattle.making.proofs.SideLaws.{sides_leaf, sides_later, sides_own}
use Rattle.making.proofs.table.sides.Goals as goal

pub returns-then-r-lt2 : goal.returns-then-r-lt2
returns-then-r-lt2 c = sides_leaf _ _ _ _ c.if-r-lt2.true

pub returns-then-x-level : goal.returns-then-x-level
returns-then-x-level c = sides_later c.read-x.ensures _ c.if-x-level.true c.requires.r_bound

pub returns : goal.returns
returns c = sides_own c.read-x.ensures _ c.if-x-level.false

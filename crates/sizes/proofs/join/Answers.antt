-- `join` meets its contract. Assumes nothing.
use mathlib.Core.Path.{sym}
use Rattle.sizes.proofs.WordLaws.{give_leaf, give_at}
use Rattle.sizes.proofs.join.Goals as goal

pub returns-then-r-ge2 : goal.returns-then-r-ge2
returns-then-r-ge2 c = λ base. give_at base c.args.words.now c.args.r c.args.w c.if-r-ge2.true

pub returns-else-r-ge2 : goal.returns-else-r-ge2
returns-else-r-ge2 c = λ base. sym (give_leaf _ _ _ c.if-r-ge2.false)

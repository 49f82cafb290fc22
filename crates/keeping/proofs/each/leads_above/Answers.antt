-- `each::leads_above` meets its contract. Assumes nothing.
use mathlib.Core.Path.{sym}
use Rattle.keeping.proofs.CheckLaws.{above_leaf, above_node}
use Rattle.keeping.proofs.each.leads_above.Goals as goal

pub returns-then-r-lt2 : goal.returns-then-r-lt2
returns-then-r-lt2 c = sym (above_leaf _ _ _ c.if-r-lt2.true)

pub returns : goal.returns
returns c = sym (above_node _ _ _ c.if-r-lt2.false)

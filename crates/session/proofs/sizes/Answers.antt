-- `session::sizes` meets its contract, by the part. Assumes nothing.
use mathlib.Core.Path.{◌∙◌}
use Rattle.session.proofs.PartLaws.{but_first, sizes_first, sizes_other}
use Rattle.session.proofs.sizes.Goals as goal

pub returns-in-First : goal.returns-in-First
returns-in-First c = c.quiet.ensures ∙ sizes_first _ _ _ _ c.in-First.is

pub returns-in_default : goal.returns-in_default
returns-in_default c = c.bad.ensures ∙ sizes_other _ _ _ _ (but_first _ c.in_default.not-First)

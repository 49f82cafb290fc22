-- `session::bad` meets its contract, by the part. Assumes nothing.
use mathlib.Core.Path.{◌∙◌}
use Rattle.session.proofs.PartLaws.{but_over, bad_over, bad_other}
use Rattle.session.proofs.bad.Goals as goal

pub returns-in-Over : goal.returns-in-Over
returns-in-Over c = c.quiet.ensures ∙ bad_over _ _ c.in-Over.is

pub returns-in_default : goal.returns-in_default
returns-in_default c = bad_other _ c.args.s (but_over _ c.in_default.not-Over)

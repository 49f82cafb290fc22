-- `is_ripe` meets its contract. Assumes nothing.
use mathlib.Core.Path.{◌∙◌}
use native.Mathlib.Omega.{arith}
use Rattle.aging.proofs.EndLaws.{ripe_within, ripe_longer, short_longer}
use Rattle.aging.proofs.age.is_ripe.Goals as goal

pub overflow_add-d : goal.overflow_add-d
overflow_add-d c = omega (arith, short_longer _ (rw c.in-Longer.is at c.requires))

pub returns-in-Within : goal.returns-in-Within
returns-in-Within c = rw c.in-Within.is (c.is_some.ensures ∙ ripe_within _ _)

pub returns-in-Longer : goal.returns-in-Longer
returns-in-Longer c = rw c.in-Longer.is (c.eq.ensures ∙ ripe_longer _ _)

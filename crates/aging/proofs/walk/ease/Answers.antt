-- `ease` meets its contract. Assumes nothing.
use mathlib.Core.Path.{ap, ◌∙◌}
use Rattle.aging.specs.declared.Bound.{Bound}
use Rattle.aging.specs.declared.Task.TheVariants.{Ages}
use Rattle.aging.specs.Tasks.{as_is, no_left, right_now}
use Rattle.aging.proofs.walk.ease.Goals as goal

pub returns-in-Ages : goal.returns-in-Ages
returns-in-Ages c = no_left _ _ c.in-Ages.is c.if-x-eq0.true

pub returns-in-Ages-Within-default : goal.returns-in-Ages-Within-default
returns-in-Ages-Within-default c = let w = c.in-Ages-Within-default in right_now _ _ (w.is ∙ ap (λ (b : Bound). Ages b w.field-1) (rw w.is at w.field-0-is)) c.if-x-eq1.true

pub returns-in_default : goal.returns-in_default
returns-in_default c = as_is

pub returns-in_default-2 : goal.returns-in_default-2
returns-in_default-2 c = as_is

pub returns-in_default-3 : goal.returns-in_default-3
returns-in_default-3 c = as_is

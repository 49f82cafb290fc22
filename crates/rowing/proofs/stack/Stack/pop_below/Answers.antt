-- `Stack::pop_below` meets its contract. Assumes nothing.
use mathlib.Core.Path.{refl, sym, ◌∙◌}
use Rattle.rowing.proofs.StackLaws.{waiting_none, waiting_top, closed_empty, closed_top}
use Rattle.rowing.proofs.stack.Stack.pop_below.Goals as goal

pub returns-then-self-eq0 : goal.returns-then-self-eq0
returns-then-self-eq0 g c = (refl, closed_empty _ _ (sym c.self.view_is ∙ waiting_none _ _ c.if-self-eq0.true))

pub returns-then-limit-from : goal.returns-then-limit-from
returns-then-limit-from g c =
    (refl, closed_top _ _ _ _ (sym c.self.view_is ∙ waiting_top _ _ c.if-self-eq0.false) (rw (c.from.ensures, c.room.ensures) at c.if-limit-from.true))

pub returns : goal.returns
returns g c = (sym c.self.view_is ∙ waiting_top _ _ c.if-self-eq0.false, rw (c.from.ensures, c.room.ensures) at c.if-limit-from.false)

-- `stack::push` meets its contract. Assumes nothing.
use mathlib.Core.Path.{◌∙◌}
use Rattle.rowing.proofs.ShutLaws.{push_first, push_second, push_made}
use Rattle.rowing.proofs.stack.push.Goals as goal

pub returns-in_err-left-clause-pushes : goal.returns-in_err-left-clause-pushes
returns-in_err-left-clause-pushes g c = rw c.from_residual.ensures (push_first _ _ _ _ (c.from.ensures ∙ c.level.ensures) c.in_err-left.ensures.fills)

pub returns-in_err-kept-clause-pushes : goal.returns-in_err-kept-clause-pushes
returns-in_err-kept-clause-pushes g c = rw c.from_residual-in_err-kept.ensures (push_second _ _ _ _ (c.from.ensures ∙ c.level.ensures) _ _ c.in_ok-left.ensures.fills c.in_err-kept.ensures)

pub returns-clause-pushes : goal.returns-clause-pushes
returns-clause-pushes g c = push_made _ _ _ _ (c.from.ensures ∙ c.level.ensures) _ _ c.in_ok-left.ensures.fills _ _ _ _ c.in_ok-kept.ensures c.frame.ensures c.push.ensures

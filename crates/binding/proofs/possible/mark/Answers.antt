-- `possible::mark` meets its contract. Assumes nothing.
use Rattle.binding.specs.Fixing.{either}
use Rattle.binding.proofs.MarkLaws.{either_open}
use Rattle.binding.proofs.possible.mark.Goals as goal

pub returns-in-Some-true : goal.returns-in-Some-true
unfolding either
returns-in-Some-true c = λ a b p q. rw (c.in-Some-true.is, c.in-Some-true.field-0-test) q

pub returns-in-Some-false : goal.returns-in-Some-false
unfolding either
returns-in-Some-false c = λ a b p q. rw (c.in-Some-false.is, c.in-Some-false.field-0-test) p

pub returns-in-None : goal.returns-in-None
unfolding either
returns-in-None c = λ a b p q. rw (c.in-None.is, c.max.ensures, p, q) (either_open a b)

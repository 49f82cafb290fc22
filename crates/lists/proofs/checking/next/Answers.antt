-- `next` meets its contract. Assumes nothing.
use mathlib.Core.Path.{sym}
use native.Mathlib.Omega.{arith}
use borrow.Author.Tests.{eq-eqb, ne_eqb}
use Rattle.lists.specs.Slots.{next_of}
use Rattle.lists.proofs.checking.next.Goals as goal

pub returns-then-p-size : goal.returns-then-p-size
unfolding next_of
returns-then-p-size c = (sym (rw (eq-eqb _ _ c.if-p-size.true)), omega arith)

pub returns-else-p-size : goal.returns-else-p-size
unfolding next_of
returns-else-p-size c = (sym (rw (ne_eqb _ _ c.if-p-size.false)), omega (arith, c.if-p-size.false))

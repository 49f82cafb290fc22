-- `monitor::lent::nodes_right` meets its contract. Assumes nothing.
use mathlib.Core.Path.{refl}
use native.Mathlib.Omega.{arith}
use Rattle.std.proofs.lemmas.Bool.Decides.{nat_tests}
use borrow.Author.Tests.{eq-eqb, ne_eqb}
use Rattle.meaning.specs.Outcome.{nodes_right, capacity}
use Rattle.monitor.proofs.lent.nodes_right.Goals as goal

pub returns-then-nodes-eq0 : goal.returns-then-nodes-eq0
unfolding nodes_right capacity
returns-then-nodes-eq0 c = rw (c.contains.ensures.value, c.new.ensures.start, c.new.ensures.end, c.new.ensures.exhausted, eq-eqb _ 0 c.if-nodes-eq0.true) (grind (arith, nat_tests))

pub returns-else-nodes-eq0 : goal.returns-else-nodes-eq0
unfolding nodes_right capacity
returns-else-nodes-eq0 c = rw (ne_eqb _ 0 c.if-nodes-eq0.false) refl

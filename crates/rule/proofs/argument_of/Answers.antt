-- `rule::argument_of` meets its contract: the test of the mark picks the argument. Assumes nothing.
use borrow.Author.Tests.{eq-eqb, ne_eqb}
use Rattle.rule.specs.Decoded.{argument_read}
use Rattle.rule.proofs.argument_of.Goals as goal

pub returns-then-mark-eq0 : goal.returns-then-mark-eq0
unfolding argument_read
returns-then-mark-eq0 c = rw (eq-eqb _ _ c.if-mark-eq0.true)

pub returns-else-mark-eq0 : goal.returns-else-mark-eq0
unfolding argument_read
returns-else-mark-eq0 c = rw (ne_eqb _ _ c.if-mark-eq0.false)

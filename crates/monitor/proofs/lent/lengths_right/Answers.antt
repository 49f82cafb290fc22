-- `monitor::lent::lengths_right` meets its contract: the nodes, and then the values. Assumes nothing.
use mathlib.Core.Path.{refl, sym, ◌∙◌}
use Rattle.meaning.specs.Outcome.{values_right}
use Rattle.monitor.proofs.lent.lengths_right.Goals as goal

pub returns-then-nodes_right : goal.returns-then-nodes_right
unfolding values_right
returns-then-nodes_right c = rw (sym c.nodes_right.ensures ∙ c.if-nodes_right.true, c.listed.ensures) refl

pub returns-else-nodes_right : goal.returns-else-nodes_right
returns-else-nodes_right c = rw (sym c.nodes_right.ensures ∙ c.if-nodes_right.false) c.if-nodes_right.false

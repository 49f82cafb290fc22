-- `possible::node_mark` meets its contract: the law of a node's mark. Assumes nothing.
use Rattle.binding.proofs.MarkLaws.{node_can}
use Rattle.binding.proofs.possible.node_mark.Goals as goal

pub returns : goal.returns
returns c =
    node_can c.args.nodes.table c.requires.le_r.0 c.requires.le_r.1 c.read-x.ensures c.requires.marks c.mark.result
    (rw c.fixed_at.ensures at c.mark.ensures)

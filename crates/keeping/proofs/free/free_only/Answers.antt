-- `free::free_only` meets its contract: the marks decide. Assumes nothing.
use lib.ListN.{length}
use Rattle.keeping.proofs.FreeLaws.{leaves_free, free_decided}
use Rattle.keeping.proofs.free.free_only.Goals as goal

pub returns-then-nodes-eq0-clause-decides : goal.returns-then-nodes-eq0-clause-decides
returns-then-nodes-eq0-clause-decides c =
    let none = c.if-nodes-eq0.true in
    rw none (leaves_free c.args.nodes.slice.now c.args.k c.args.allowed.now c.args.rows.now (length c.args.rows.now) (rw none at c.requires.rows))

pub returns-clause-decides : goal.returns-clause-decides
returns-clause-decides c = free_decided c.mark.ensures.0 c.args.allowed.now c.requires.rows c.requires.count_in_bounds.1 c.rows_allowed.result c.rows_allowed.ensures

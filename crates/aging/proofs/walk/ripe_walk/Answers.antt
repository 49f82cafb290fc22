-- `ripe_walk` meets its contract. Assumes nothing.
use Rattle.trees.specs.Table.{at, trees_of}
use Rattle.aging.proofs.TaskLaws.{does_ripe, plain_no}
use Rattle.aging.proofs.walk.ripe_walk.Goals as goal

pub run-requires : goal.run-requires
run-requires c =
    let p = c.requires.k_bound in
    record { desk = c.requires.desk; k_bound = (p.0, p.1, plain_no _ _ _, plain_no _ _ _, p.2) }

pub returns-clause-added : goal.returns-clause-added
returns-clause-added c =
    let a = c.args in
    let ts = trees_of a.lent.now.nodes.now a.lent.now.count in
    rw (does_ripe a.k a.b (at ts 0) (at ts 0) (at ts a.o)) c.run.ensures.added

-- `make_age` meets its contract. Assumes nothing.
use Rattle.making.proofs.NodesLaws.{shelved_same}
use Rattle.aging.proofs.ChainLaws.{shown_none, shown_chain}
use Rattle.aging.proofs.age.make_age.Goals as goal

pub returns-in-None-clause-added : goal.returns-in-None-clause-added
returns-in-None-clause-added c = rw c.in-None.is (shown_none c.requires.shelf.table _, shelved_same c.requires.shelf)

pub returns-in-Some-clause-added : goal.returns-in-Some-clause-added
returns-in-Some-clause-added c =
    rw (c.in-Some.is, shown_chain c.args.k c.in-Some.m (rw c.in-Some.is at c.requires.k_bound.1)) c.make_bits.ensures.added

-- `place_over` meets its contract. Assumes nothing.
use mathlib.Core.Path.{refl}
use Rattle.nodes.proofs.ReadLaws.{stays}
use Rattle.making.proofs.NodesLaws.{shelved_same}
use Rattle.making.proofs.into.place_over.Goals as goal

pub returns-in-None-clause-added : goal.returns-in-None-clause-added
returns-in-None-clause-added c =
    let s = c in
    rw c.in-None.is (stays _ _ _ _ s.requires.shelf.table s.requires.p_bound.1 refl, shelved_same s.requires.shelf)

pub returns-in-Some-clause-added : goal.returns-in-Some-clause-added
returns-in-Some-clause-added c =
    let done = c in
    rw done.in-Some.is done.bits_over.ensures.added

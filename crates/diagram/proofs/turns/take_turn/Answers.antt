-- `turns::take_turn` meets its contract: a turn that misses adds nothing, and one that hits goes into the diagram. Assumes nothing.
use Rattle.nodes.proofs.ReadLaws.{stays}
use Rattle.making.proofs.NodesLaws.{shelved_same}
use Rattle.diagram.proofs.TurnLaws.{miss_tree}
use Rattle.diagram.proofs.turns.take_turn.Goals as goal

pub into-requires : goal.into-requires
into-requires c =
    let s = c in
    record { shelf = s.requires.shelf; k_bound = (s.requires.k_bound.0, s.requires.k_bound.1, rw c.in-Some.is at s.requires.k_bound.2) }

pub returns-in-None-clause-added : goal.returns-in-None-clause-added
returns-in-None-clause-added c =
    let s = c in
    let fine = rw c.in-None.is at s.requires.k_bound.2 in
    rw c.in-None.is (stays _ _ _ _ s.requires.shelf.table s.requires.k_bound.1 (miss_tree s.args.k fine), shelved_same s.requires.shelf)

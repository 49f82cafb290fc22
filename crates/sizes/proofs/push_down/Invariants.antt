-- `push_down` meets its contract. The loop's invariant: the first j nodes are still to be counted. Assumes nothing.
use Rattle.sizes.proofs.PassLaws.{Pushing}
use Rattle.sizes.proofs.push_down.Given as goal

abbrev pub invariant-loop-j : goal.invariant-loop-j
invariant-loop-j l = Pushing l.nodes.slice.now l.nodes.count l.base l.initial.words l.initial.sizes l.j l.words l.sizes

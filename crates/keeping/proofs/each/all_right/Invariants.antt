-- `each::all_right` meets its contract. The loop's invariant: the first j nodes are right. Assumes nothing.
use Rattle.keeping.specs.Checks.{Right}
use Rattle.keeping.proofs.each.all_right.Given as goal

abbrev pub invariant-loop-j : goal.invariant-loop-j
invariant-loop-j l = Right l.nodes l.j l.levels

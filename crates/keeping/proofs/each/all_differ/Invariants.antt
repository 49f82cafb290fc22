-- `each::all_differ` meets its contract. The loop's invariant: the first j places are chained, and no two of their nodes are
-- equal. Assumes nothing.
use Prim.Native.Nat.{◌*◌}
use Rattle.nodes.specs.Nodes.{Between}
use Rattle.nodes.specs.Chains.{Chained}
use Rattle.keeping.specs.Checks.{Apart}
use Rattle.keeping.proofs.each.all_differ.Given as goal

abbrev pub invariant-loop-j : goal.invariant-loop-j
invariant-loop-j l = Between (13 * l.c) (15 * l.c) l.fn.work l.work × Chained l.nodes l.j l.work × Apart l.nodes l.j

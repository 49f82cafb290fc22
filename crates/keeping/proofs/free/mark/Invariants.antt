-- `free::mark` meets its contract. The loop's invariant: the leaves and the first j nodes are marked, and nothing past the marks has
-- changed. Assumes nothing.
use Prim.Native.Nat.{◌+◌}
use Rattle.nodes.specs.Nodes.{Rest}
use Rattle.keeping.specs.Checks.{Marks}
use Rattle.keeping.proofs.free.mark.Given as goal

abbrev pub invariant-loop-j : goal.invariant-loop-j
invariant-loop-j l = Marks l.nodes.slice.now l.nodes.count l.k l.work l.j × Rest (l.nodes.count + 2) l.initial.work l.work

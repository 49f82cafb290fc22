-- `enter` meets its contract. The loop's invariant: the marks before r and the entries found tell what p's diagram tells (`Passing`).
-- Assumes nothing.
use Prim.Native.Nat.{◌+◌}
use Rattle.nodes.specs.Nodes.{Rest}
use Rattle.telling.proofs.EntriesLaws.{Passing}
use Rattle.telling.proofs.enter.Given as goal

abbrev pub invariant-loop-r : goal.invariant-loop-r
invariant-loop-r l = Passing l.nodes.slice.now l.nodes.count l.p l.base l.work l.r l.from × Rest (l.p + 1) l.fn.work l.work

-- `first` meets its contract. The loop's invariant: the first j variables are bound. Assumes nothing.
use Prim.Native.Nat.{◌+◌}
use Rattle.trees.specs.Table.{at, trees_of}
use Rattle.nodes.specs.Nodes.{Rest}
use Rattle.binding.proofs.FirstLaws.{Going}
use Rattle.binding.proofs.first.Given as goal

abbrev pub invariant-loop-j : goal.invariant-loop-j
invariant-loop-j l = Rest (l.nodes.count + 2) l.initial.work l.work × Going (at (trees_of l.nodes.slice.now l.nodes.count) l.p) l.k l.order l.count l.j l.fixed l.answer

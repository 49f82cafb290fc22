-- `least` meets its contract. The loop's invariant: the bits from `level` on are fixed to the least number that they can show.
-- Assumes nothing.
use Prim.Native.Nat.{◌+◌, ◌*◌, ◌-◌, ◌≤◌}
use Rattle.trees.specs.Table.{at, trees_of}
use Rattle.nodes.specs.Nodes.{Rest}
use Rattle.binding.specs.Fixing.{Fixes}
use Rattle.binding.proofs.least.Given as goal

abbrev pub invariant-loop-level : goal.invariant-loop-level
invariant-loop-level l =
    (l.v * l.k ≤ l.level) × Rest (l.nodes.count + 2) l.initial.work l.work × Fixes (at (trees_of l.nodes.slice.now l.nodes.count) l.p) l.level (l.v * l.k + l.k - l.level) l.initial.fixed l.fixed l.n

-- `mark_all` meets its contract. The loop's invariant: the references before r are marked, and nothing past the marks has changed.
-- Assumes nothing.
use Prim.Native.Nat.{◌+◌}
use Rattle.nodes.specs.Nodes.{Rest}
use Rattle.age_check.specs.Marks.{Marked}
use Rattle.age_check.proofs.mark_all.Given as goal

abbrev pub invariant-loop-r : goal.invariant-loop-r
invariant-loop-r l = Marked l.base l.nodes.slice.now l.nodes.count l.work l.r × Rest (l.nodes.count + 2) l.fn.work l.work

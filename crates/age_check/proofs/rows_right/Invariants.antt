-- `rows_right` meets its contract. The loop's invariant: the first i rows pass. Assumes nothing.
use Rattle.age_check.specs.Marks.{AgesRight}
use Rattle.age_check.proofs.rows_right.Given as goal

abbrev pub invariant-loop-i : goal.invariant-loop-i
invariant-loop-i l = AgesRight l.base l.nodes.slice.now l.nodes.count l.refs l.tops l.i

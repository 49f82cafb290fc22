-- `rule::right::row_right` meets its contract: the kind, the two fields by the table, and the pairs. Assumes nothing.
use mathlib.Core.Path.{refl, sym, ◌∙◌}
use native.Mathlib.Omega.{arith}
use Rattle.rule.proofs.RightLaws.{field_read, row_low, row_high, row_parts}
use Rattle.rule.proofs.right.row_right.Goals as goal
use Rattle.rule.proofs.right.row_right.Goals.{then-kind-eq0-via-then-kind-eq0, then-kind-eq0-via-else-kind-eq0+then-kind-gt7, then-field_right, else-field_right}
use Rattle.trees.proofs.Tests.{false_true}

pub returns-then-kind-eq0 : goal.returns-then-kind-eq0
returns-then-kind-eq0 c =
    elim c.then-kind-eq0.branch [
      | then-kind-eq0-via-then-kind-eq0 w ↦ row_low _ _ c.field_of-kind.ensures w.if-kind-eq0.true
      | then-kind-eq0-via-else-kind-eq0+then-kind-gt7 w ↦ row_high _ _ c.field_of-kind.ensures w.if-kind-gt7.true
    ]

pub returns-then-field_right-2 : goal.returns-then-field_right-2
returns-then-field_right-2 c =
    elim c.if-field_right.branch [
      | then-field_right w ↦ sym (row_parts _ _ c.field_of-kind.ensures c.field_of-p.ensures c.field_of-q.ensures (omega arith) (omega arith)
          (field_read _ _ _ 0 (omega arith) c.use_of.ensures c.field_right.ensures)
          (field_read _ _ _ 1 (omega arith) w.use_of-then-field_right.ensures w.field_right-then-field_right.ensures)
          ∙ rw (w.if-field_right.true, sym w.value-is ∙ c.if-field_right-2.true, ← c.pairs_used.ensures, c.pairs_right.ensures))
      | else-field_right w ↦ absurd (false_true (w.value-is ∙ w.if-field_right.false) c.if-field_right-2.true)
    ]

pub returns-else-field_right-2 : goal.returns-else-field_right-2
returns-else-field_right-2 c =
    elim c.if-field_right.branch [
      | then-field_right w ↦ c.if-field_right-2.false
          ∙ sym (row_parts _ _ c.field_of-kind.ensures c.field_of-p.ensures c.field_of-q.ensures (omega arith) (omega arith)
          (field_read _ _ _ 0 (omega arith) c.use_of.ensures c.field_right.ensures)
          (field_read _ _ _ 1 (omega arith) w.use_of-then-field_right.ensures w.field_right-then-field_right.ensures)
          ∙ rw (w.if-field_right.true, sym w.value-is ∙ c.if-field_right-2.false))
      | else-field_right w ↦ c.if-field_right-2.false
          ∙ sym (row_parts _ _ c.field_of-kind.ensures c.field_of-p.ensures c.field_of-q.ensures (omega arith) (omega arith)
          (field_read _ _ _ 0 (omega arith) c.use_of.ensures c.field_right.ensures) refl
          ∙ rw w.if-field_right.false)
    ]

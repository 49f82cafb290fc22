-- `rule::row_at` meets its contract: each arm makes the row of its kind from the numbers read. Assumes nothing.
use mathlib.Core.Path.{refl}
use native.Mathlib.Omega.{arith}
use Rattle.rule.specs.Decoded.{row_read}
use Rattle.rule.proofs.DecodedLaws.{row_read_law, kind_last, kind_first, argument_read_law, atom_read}
use Rattle.rule.proofs.row_at.Goals as goal

pub returns-in-2 : goal.returns-in-2
unfolding row_read
returns-in-2 c =
    row_read_law _ _ 2 c.field_of-kind.ensures c.field_of-p.ensures c.field_of-q.ensures c.in-2.is
    (atom_read _ _
    (argument_read_law c.field_of.ensures c.field_of-in-2.ensures c.argument_of.ensures)
    (argument_read_law c.field_of-in-2-2.ensures c.field_of-in-2-3.ensures c.argument_of-in-2.ensures)
    (argument_read_law c.field_of-in-2-4.ensures c.field_of-in-2-5.ensures c.argument_of-in-2-2.ensures))

pub returns-in-3 : goal.returns-in-3
unfolding row_read
returns-in-3 c = row_read_law _ _ 3 c.field_of-kind.ensures c.field_of-p.ensures c.field_of-q.ensures c.in-3.is refl

pub returns-in-4 : goal.returns-in-4
unfolding row_read
returns-in-4 c = row_read_law _ _ 4 c.field_of-kind.ensures c.field_of-p.ensures c.field_of-q.ensures c.in-4.is refl

pub returns-in-5 : goal.returns-in-5
unfolding row_read
returns-in-5 c = row_read_law _ _ 5 c.field_of-kind.ensures c.field_of-p.ensures c.field_of-q.ensures c.in-5.is refl

pub returns-in-6 : goal.returns-in-6
unfolding row_read
returns-in-6 c = row_read_law _ _ 6 c.field_of-kind.ensures c.field_of-p.ensures c.field_of-q.ensures c.in-6.is refl

pub returns-in-0 : goal.returns-in-0
returns-in-0 c = row_read_law _ _ _ c.field_of-kind.ensures c.field_of-p.ensures c.field_of-q.ensures (refl) (kind_first _ _ _ _ _ _ (omega arith))

pub returns-in_default : goal.returns-in_default
returns-in_default c = row_read_law _ _ _ c.field_of-kind.ensures c.field_of-p.ensures c.field_of-q.ensures (refl) (kind_last _ _ _ _ _ _ (omega arith))

-- `session::row` meets its contract, by the part and by how many rows there are. Where there are too many, by the laws that the source names.
-- Assumes nothing.
use native.Mathlib.Omega.{arith}
use mathlib.Core.Path.{◌∙◌, ap}
use Rattle.session.specs.Lefts.{Rowed}
use Rattle.session.proofs.PartLaws.{but_rows, row_more, row_other}
use Rattle.session.proofs.SessionLaws.{row_copied}
use Rattle.session.proofs.row.Goals as goal

pub returns-in_default : goal.returns-in_default
returns-in_default c =
    let e = row_other _ _ _ _ (but_rows _ c.in_default.not-Rows) in
    (c.bad.ensures ∙ ap (λ (r : Rowed). r.after) e, ap (λ (r : Rowed). r.rows) e)

pub returns : goal.returns
returns c =
    let e = row_more c.args.s c.args.nine c.args.rows.now c.in-Rows.is (omega arith) in
    (c.quiet.ensures ∙ ap (λ (r : Rowed). r.after) e, row_copied c.args.s.rows c.args.rows.now c.copy_from_slice.ensures.after ∙ ap (λ (r : Rowed). r.rows) e)

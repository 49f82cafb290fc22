-- `keep_not` meets its contract. Assumes nothing.
use mathlib.Core.Path.{refl}
use native.Mathlib.Omega.{arith}
use Rattle.nodes.proofs.ReadLaws.{grown_ref}
use Rattle.walks.proofs.DeskLaws.{desk_keep_not}
use Rattle.walks.proofs.ComplementLaws.{map_kept}
use Rattle.walks.proofs.keep_not.Goals as goal

pub returns-in_err-reference-clause-kept : goal.returns-in_err-reference-clause-kept
returns-in_err-reference-clause-kept c = rw c.from_residual.ensures c.in_err-reference.ensures.added

pub overflow_add-lent : goal.overflow_add-lent
overflow_add-lent c =
    let g = c.in_ok-reference.ensures.added in
    omega (arith, grown_ref g.0, g.0.table.fits, g.0.table.small)

pub returns-clause-kept : goal.returns-clause-kept
returns-clause-kept c =
    let s = c in
    let p = s.requires.le_p in
    let g = c.in_ok-reference.ensures.added in
    (g.0, desk_keep_not s.requires.desk _ p.0 p.1 s.requires.p_value g.0 g.1, map_kept s.requires.desk _ p.0 p.1 g.1 _, refl)

use mathlib.Core.Path.{refl, ◌∙◌}
use native.Mathlib.Omega.{arith}
use Rattle.diagram.proofs.RemovalLaws.{removing_none, removing_more, removing_short, removing_all}
use Rattle.diagram.proofs.RowLaws.{removal_short, removal_done}
use Rattle.diagram.proofs.row.drops_row.Goals as goal

pub loop-b-init : goal.loop-b-init
loop-b-init c = (omega arith, (refl, refl, refl, refl), removing_none c.first_level-base.result c.args.k c.requires.k_bound.1 c.requires.within)

pub overflow_add-base : goal.overflow_add-base
overflow_add-base c = omega (arith, c.first_level-base.ensures.small, c.requires.k_bound.0, c.loop-b.invariant.0)

pub drop_walk-requires : goal.drop_walk-requires
drop_walk-requires c =
    let v = c.loop-b.invariant.2 in
    record { desk = v.kept.desk; left_le_levels = (omega arith, v.within) }

pub returns-in_err-r-clause-same : goal.returns-in_err-r-clause-same
returns-in_err-r-clause-same c =
    let e = c.loop-b.invariant.1 in
    let f = c.drop_walk.ensures.same in
    (f.0 ∙ e.0, f.1 ∙ e.1, f.2 ∙ e.2, f.3 ∙ e.3)

pub returns-in_err-r-clause-worked : goal.returns-in_err-r-clause-worked
returns-in_err-r-clause-worked c =
    rw c.from_residual.ensures (removal_short c.first_level-base.ensures c.requires.within (removing_short c.loop-b-test.true c.loop-b.invariant.2 c.in_err-r.ensures.added))

pub loop-b-preserved : goal.loop-b-preserved
loop-b-preserved c =
    let v = c.loop-b.invariant in
    let g = c.in_ok-r.ensures.added in
    let f = c.drop_walk.ensures.same in
    (omega (arith, v.0), (f.0 ∙ v.1.0, f.1 ∙ v.1.1, f.2 ∙ v.1.2, f.3 ∙ v.1.3), removing_more c.loop-b-test.true v.2 g.0 g.1)

pub returns-clause-same : goal.returns-clause-same
returns-clause-same c = c.loop-b.invariant.1

pub returns-clause-worked : goal.returns-clause-worked
returns-clause-worked c =
    let v = c.loop-b.invariant.2 in
    (removal_done c.first_level-base.ensures c.requires.within (removing_all (omega (arith, c.loop-b-test.false)) v), v.kept)

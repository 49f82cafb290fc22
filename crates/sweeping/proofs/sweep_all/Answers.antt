use mathlib.Core.Path.{◌≡◌}
use native.Mathlib.Omega.{arith}
use Rattle.sweeping.proofs.NoteLaws.{few_visits}
use Rattle.sweeping.proofs.RowsLaws.{rows_ordered, going_none, going_more, going_all}
use Rattle.sweeping.proofs.sweep_all.Goals as goal

pub loop-i-init : goal.loop-i-init
loop-i-init c = going_none _ _ _ _ _ _ _ _ c.requires.table c.requires.nodes_len.0 c.requires.nodes_len.1 c.requires.by_index c.requires.awaits

pub overflow_add-visits : goal.overflow_add-visits
overflow_add-visits c =
    let rows = c.requires.rows in
    let g = c.loop-i.invariant in
    let t = g.notes.source in
    omega (arith, g.small, rows.few, t.small, t.fits, few_visits g.notes (rows_ordered rows c.loop-i.i c.loop-i-test.true) c.sweep-s.ensures)

pub loop-i-preserved : goal.loop-i-preserved
loop-i-preserved c =
    let rows = c.requires.rows in
    going_more rows c.loop-i-test.true (omega (arith, c.requires.nodes_len.2, rows.few)) c.sweep-s.auto.work c.loop-i.invariant c.sweep-s.ensures

pub returns : goal.returns
returns c = let e : c.loop-i.i ≡ c.args.count = omega arith in going_all (rw e at c.loop-i.invariant)

use mathlib.Core.Path.{◌≡◌}
use native.Mathlib.Omega.{arith}
use lib.ListN.{length, get_or}
use Rattle.keeping.specs.Checks.{InOrder}
use Rattle.keeping.proofs.OrderLaws.{order_passed, rows_none, rows_more, rows_out, rows_end}
use Rattle.keeping.proofs.order.rows_in_order.Goals as goal
use Rattle.keeping.proofs.order.rows_in_order.Goals.{then-n-r+in-Some, else-n-r}

pub loop-r-init : goal.loop-r-init
loop-r-init c = rows_none _ _ _

pub returns-in_default : goal.returns-in_default
returns-in_default c = rows_out _ _ _ c.loop-r.r-index _ _ c.loop-r-test.true (omega arith) c.loop-r.invariant c.in_default.ensures

pub loop-r-preserved : goal.loop-r-preserved
loop-r-preserved c =
    let o : InOrder c.args.nodes.slice.now c.args.nodes.count c.loop-r.n (get_or c.args.rows.now c.loop-r.r-index 0) c.if-n-r.n = elim c.if-n-r.branch [
      | then-n-r+in-Some w ↦ rw w.n-is w.in-Some.ensures
      | else-n-r w ↦ rw w.n-is (order_passed c.args.nodes.table c.loop-r.invariant.fits w.if-n-r.false)
    ] in
    rows_more _ _ _ c.loop-r.r-index _ _ c.loop-r-test.true c.loop-r.invariant o

pub returns : goal.returns
returns c = let e : c.loop-r.r-index ≡ length c.args.rows.now = omega arith in rows_end _ _ _ _ _ (rw e at c.loop-r.invariant)

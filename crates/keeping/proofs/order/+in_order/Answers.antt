-- `order::in_order` meets its contract: the laws of OrderLaws, one for each way out. Assumes nothing.
use Prim.Native.Nat.{ℕ}
use native.Mathlib.Omega.{arith}
use Rattle.nodes.proofs.ReadLaws.{read_below}
use Rattle.keeping.specs.Checks.{InOrder}
use Rattle.keeping.proofs.OrderLaws.{order_passed, order_low, order_high, order_place, order_node}
use Rattle.keeping.proofs.order.+in_order.Goals as goal
use Rattle.keeping.proofs.order.+in_order.Goals.{Joined-count-low, Joined-count-high, then-count-low+in_ok-count, else-count-low, then-count-high+in_ok-count-2, else-count-high}

-- the low side is in order
low_side : (t : ℕ) (c : Joined-count-low t) → InOrder c.args.nodes.now.slice.now c.args.nodes.now.count c.args.n c.read-node.result.low c.if-count-low.count
low_side t c =
    elim c.if-count-low.branch [
      | then-count-low+in_ok-count w ↦ rw w.count-is w.in_ok-count.ensures
      | else-count-low w ↦ rw w.count-is (order_passed c.args.nodes.now.table c.requires.n_le_count.0 w.if-count-low.false)
    ]

-- and the high side from there
high_side : (t : ℕ) (c : Joined-count-high t) → InOrder c.args.nodes.now.slice.now c.args.nodes.now.count c.args.n c.read-node.result.low c.if-count-low.count
    → InOrder c.args.nodes.now.slice.now c.args.nodes.now.count c.if-count-low.count c.read-node.result.high c.if-count-high.count
high_side t c low =
    elim c.if-count-high.branch [
      | then-count-high+in_ok-count-2 w ↦ rw w.count-is w.in_ok-count-2.ensures
      | else-count-high w ↦ rw w.count-is (order_passed c.args.nodes.now.table low.fits w.if-count-high.false)
    ]

pub in_order-requires : goal.in_order-requires
in_order-requires t c =
    let x = c.read-node.ensures in
    let below = read_below c.args.nodes.now.table x (omega (arith, c.requires.n_le_count.1)) c.requires.n_le_count.2 in
    (omega (arith, c.decreases, below.0, below.1), (c.requires.n_le_count.0, c.if-count-low.true, omega (arith, x.low, x.high)))

pub returns-in_err-count : goal.returns-in_err-count
returns-in_err-count t c = rw c.from_residual.ensures (order_low c.read-node.ensures c.in_err-count.ensures)

pub in_order-requires-then-count-high : goal.in_order-requires-then-count-high
in_order-requires-then-count-high t c =
    let x = c.read-node.ensures in
    let below = read_below c.args.nodes.now.table x (omega (arith, c.requires.n_le_count.1)) c.requires.n_le_count.2 in
    (omega (arith, c.decreases, below.0, below.1), ((low_side t (goal.at.in_order-requires-then-count-high t c).Joined-count-low).fits, c.if-count-high.true, omega (arith, x.low, x.high)))

pub returns-in_err-count-2 : goal.returns-in_err-count-2
returns-in_err-count-2 t c = rw c.from_residual-in_err-count-2.ensures (order_high c.read-node.ensures (low_side t (goal.at.returns-in_err-count-2 t c).Joined-count-low) c.in_err-count-2.ensures)

pub returns-then-count-r : goal.returns-then-count-r
returns-then-count-r t c =
    let k = goal.at.returns-then-count-r t c in
    let low = low_side t k.Joined-count-low in
    order_node c.args.nodes.now.table c.read-node.ensures c.requires.n_le_count.1 c.requires.n_le_count.2 low (high_side t k.Joined-count-high low) c.if-count-r.true

pub returns-else-count-r : goal.returns-else-count-r
returns-else-count-r t c =
    let k = goal.at.returns-else-count-r t c in
    let low = low_side t k.Joined-count-low in
    order_place c.args.nodes.now.table c.read-node.ensures c.requires.n_le_count.1 c.requires.n_le_count.2 low (high_side t k.Joined-count-high low) c.if-count-r.false

-- `apart` and `sweep` meet their contracts: both sides are swept, and the node is written with its note. Assumes nothing.
use Rattle.std.proofs.Common.{◌≡◌, ◌+◌, ◌*◌, ◌-◌, ◌/◌, length, arith}
use Rattle.sweeping.proofs.NoteLaws.{sides_ordered}
use Rattle.sweeping.proofs.SweepLaws.{swept_room, swept_fits, swept}
use Rattle.sweeping.proofs.+sweep.Goals as goal

pub apart-overflow_sub-left : goal.apart-overflow_sub-left
apart-overflow_sub-left t c = (sides_ordered c.requires.ordered c.read-x.ensures).0

pub apart-sweep-a-requires : goal.apart-sweep-a-requires
apart-sweep-a-requires t c =
    let d = sides_ordered c.requires.ordered c.read-x.ensures in
    (omega (arith, c.decreases, d.0), (c.requires.noted, d.1))

pub apart-overflow_sub-left-2 : goal.apart-overflow_sub-left-2
apart-overflow_sub-left-2 t c = (sides_ordered c.requires.ordered c.read-x.ensures).0

pub apart-sweep-b-requires : goal.apart-sweep-b-requires
apart-sweep-b-requires t c =
    let d = sides_ordered c.requires.ordered c.read-x.ensures in
    (omega (arith, c.decreases, d.0), (c.sweep-a.ensures.notes, d.2))

pub apart-emit-requires : goal.apart-emit-requires
apart-emit-requires t c =
    let o = c.requires.noted in
    let q = c.requires.ordered in
    let k = swept_room o c.read-x.ensures c.requires.le_r.0 q.below c.requires.le_r.1 c.sweep-a.ensures c.sweep-b.ensures in
    let f = o.source.fits in
    let small = o.source.small in
    let size = o.size in
    let room = c.sweep-b.ensures.notes.room in
    let top = q.below in
    (omega arith, omega arith, omega arith)

pub apart-overflow_add-result-3 : goal.apart-overflow_add-result-3
apart-overflow_add-result-3 t c =
    let q = c.requires in
    omega (arith, swept_fits q.noted c.read-x.ensures q.le_r.0 q.ordered.below q.le_r.1 c.sweep-a.ensures c.sweep-b.ensures q.ordered)

pub apart-overflow_add-result-4 : goal.apart-overflow_add-result-4
apart-overflow_add-result-4 t c =
    let q = c.requires in
    omega (arith, swept_fits q.noted c.read-x.ensures q.le_r.0 q.ordered.below q.le_r.1 c.sweep-a.ensures c.sweep-b.ensures q.ordered)

pub apart-returns : goal.apart-returns
apart-returns t c =
    let o = c.requires.noted in
    let e : length c.args.nodes.now + (c.args.r - 2) ≡ 3 * (length c.args.nodes.now / 3) + (c.args.r - 2) = omega (arith, o.size) in
    rw (c.emit.ensures, e)
    (swept o c.read-x.ensures c.requires.le_r.0 c.requires.ordered.below c.requires.le_r.1 c.sweep-a.ensures c.sweep-b.ensures)

-- `into` meets its contract. Assumes nothing.
use native.Mathlib.Omega.{arith}
use Rattle.nodes.proofs.ReadLaws.{grown_ref, grown_count}
use Rattle.making.specs.Loans.{made}
use Rattle.making.specs.Tables.{Added, Shelved}
use Rattle.trees.specs.Table.{at, trees_of}
use Rattle.making.proofs.NodesLaws.{shelved_then}
use Rattle.making.proofs.CubeLaws.{last, later, early}
use Rattle.making.proofs.IntoLaws.{Down, goes_down, last_made, later_made, early_made, into_made, last_stuck, later_stuck, early_stuck}
use Rattle.making.proofs.into.into.Goals as goal
use Rattle.making.proofs.into.into.Goals.{After-along-s, After-place_over, After-place_over-2, After-place_over-3}

-- the path down
down : (c : After-along-s) → let a = c.args in Down a.lent.now.nodes.now a.lent.now.count a.k a.places a.p c.along-q.result c.along-r.result c.along-s.result
down c = goes_down c.args.k c.args.places c.requires.k_bound.1 c.along-q.ensures c.along-r.ensures c.along-s.ensures

-- the last variable, and then one more each time
last_done : (c : After-place_over)
    → Down c.args.lent.now.nodes.now c.args.lent.now.count c.args.k c.args.places c.args.p c.along-q.result c.along-r.result c.along-s.result
    → Added (λ xs j. Shelved c.args.lent.now.work.now xs j c.place_over.new.lent.work.now c.args.c) c.args.lent.now.nodes.now c.place_over.new.lent.nodes.now c.args.lent.now.count (last c.args.k c.args.places (at (trees_of c.args.lent.now.nodes.now c.args.lent.now.count) c.args.p)) (made c.place_over.new.lent.count c.place_over.result)
last_done c d = last_made c.requires.shelf.table d (λ xs j. Shelved c.args.lent.now.work.now xs j c.place_over.new.lent.work.now c.args.c) c.place_over.new.lent.nodes.now (made c.place_over.new.lent.count c.place_over.result) c.place_over.ensures.added

later_done : (c : After-place_over-2)
    → Down c.args.lent.now.nodes.now c.args.lent.now.count c.args.k c.args.places c.args.p c.along-q.result c.along-r.result c.along-s.result
    → Added (λ xs j. Shelved c.args.lent.now.work.now xs j c.place_over.new.lent.work.now c.args.c) c.args.lent.now.nodes.now c.place_over.new.lent.nodes.now c.args.lent.now.count (last c.args.k c.args.places (at (trees_of c.args.lent.now.nodes.now c.args.lent.now.count) c.args.p)) (made c.place_over.new.lent.count c.place_over.result)
    → Added (λ xs j. Shelved c.args.lent.now.work.now xs j c.place_over-2.new.lent.work.now c.args.c) c.args.lent.now.nodes.now c.place_over-2.new.lent.nodes.now c.args.lent.now.count (later c.args.k c.args.places (at (trees_of c.args.lent.now.nodes.now c.args.lent.now.count) c.args.p)) (made c.place_over-2.new.lent.count c.place_over-2.result)
later_done c d before =
    let g = rw c.in_ok-d3.was at before in
    shelved_then c.args.c g.1.same c.place_over-2.new.lent.work.now _ c.place_over-2.new.lent.nodes.now _ _ (made c.place_over-2.new.lent.count c.place_over-2.result)
    (later_made c.requires.shelf.table d g.0 (λ xs j. Shelved c.place_over.new.lent.work.now xs j c.place_over-2.new.lent.work.now c.args.c) c.place_over-2.new.lent.nodes.now (made c.place_over-2.new.lent.count c.place_over-2.result) c.place_over-2.ensures.added)

early_done : (c : After-place_over-3)
    → Down c.args.lent.now.nodes.now c.args.lent.now.count c.args.k c.args.places c.args.p c.along-q.result c.along-r.result c.along-s.result
    → Added (λ xs j. Shelved c.args.lent.now.work.now xs j c.place_over-2.new.lent.work.now c.args.c) c.args.lent.now.nodes.now c.place_over-2.new.lent.nodes.now c.args.lent.now.count (later c.args.k c.args.places (at (trees_of c.args.lent.now.nodes.now c.args.lent.now.count) c.args.p)) (made c.place_over-2.new.lent.count c.place_over-2.result)
    → Added (λ xs j. Shelved c.args.lent.now.work.now xs j c.place_over-3.new.lent.work.now c.args.c) c.args.lent.now.nodes.now c.place_over-3.new.lent.nodes.now c.args.lent.now.count (early c.args.k c.args.places (at (trees_of c.args.lent.now.nodes.now c.args.lent.now.count) c.args.p)) (made c.place_over-3.new.lent.count c.place_over-3.result)
early_done c d before =
    let g = rw c.in_ok-d2.was at before in
    shelved_then c.args.c g.1.same c.place_over-3.new.lent.work.now _ c.place_over-3.new.lent.nodes.now _ _ (made c.place_over-3.new.lent.count c.place_over-3.result)
    (early_made c.requires.shelf.table d g.0 (λ xs j. Shelved c.place_over-2.new.lent.work.now xs j c.place_over-3.new.lent.work.now c.args.c) c.place_over-3.new.lent.nodes.now (made c.place_over-3.new.lent.count c.place_over-3.result) c.place_over-3.ensures.added)

pub place_over-requires : goal.place_over-requires
place_over-requires c =
    let d = down (goal.at.place_over-requires c).After-along-s in
    record { shelf = c.requires.shelf; p_bound = (d.three.below, omega arith, omega (arith, c.requires.k_bound.0)) }

pub returns-in_err-d3-clause-added : goal.returns-in_err-d3-clause-added
returns-in_err-d3-clause-added c =
    let k = goal.at.returns-in_err-d3-clause-added c in
    let d = down k.After-along-s in
    rw c.from_residual.ensures (last_stuck c.requires.shelf.table d c.requires.k_bound.2 (rw c.in_err-d3.was at (last_done k.After-place_over d)))

pub overflow_mul-k-3 : goal.overflow_mul-k-3
overflow_mul-k-3 c = omega (arith, c.requires.k_bound.0)

pub place_over-requires-2 : goal.place_over-requires-2
place_over-requires-2 c =
    let k = goal.at.place_over-requires-2 c in
    let d = down k.After-along-s in
    let g = rw c.in_ok-d3.was at (last_done k.After-place_over d) in
    record { shelf = g.1.shelf; p_bound = (omega (arith, grown_count g.0, d.two.below), grown_ref g.0, omega (arith, c.requires.k_bound.0)) }

pub returns-in_err-d2-clause-added : goal.returns-in_err-d2-clause-added
returns-in_err-d2-clause-added c =
    let k = goal.at.returns-in_err-d2-clause-added c in
    let d = down k.After-along-s in
    rw c.from_residual-in_err-d2.ensures (later_stuck c.requires.shelf.table d c.requires.k_bound.2 (rw c.in_err-d2.was at (later_done k.After-place_over-2 d (last_done k.After-place_over d))))

pub place_over-requires-3 : goal.place_over-requires-3
place_over-requires-3 c =
    let k = goal.at.place_over-requires-3 c in
    let d = down k.After-along-s in
    let g = rw c.in_ok-d2.was at (later_done k.After-place_over-2 d (last_done k.After-place_over d)) in
    record { shelf = g.1.shelf; p_bound = (omega (arith, grown_count g.0, d.one.below), grown_ref g.0, omega (arith, c.requires.k_bound.0)) }

pub returns-in_err-d1-clause-added : goal.returns-in_err-d1-clause-added
returns-in_err-d1-clause-added c =
    let k = goal.at.returns-in_err-d1-clause-added c in
    let d = down k.After-along-s in
    rw c.from_residual-in_err-d1.ensures (early_stuck c.requires.shelf.table d c.requires.k_bound.2 (rw c.in_err-d1.was at (early_done k.After-place_over-3 d (later_done k.After-place_over-2 d (last_done k.After-place_over d)))))

pub place_over-requires-4 : goal.place_over-requires-4
place_over-requires-4 c =
    let k = goal.at.place_over-requires-4 c in
    let d = down k.After-along-s in
    let g = rw c.in_ok-d1.was at (early_done k.After-place_over-3 d (later_done k.After-place_over-2 d (last_done k.After-place_over d))) in
    record { shelf = g.1.shelf; p_bound = (omega (arith, grown_count g.0, d.start.below), grown_ref g.0, omega (arith, c.requires.k_bound.0)) }

pub returns-clause-added : goal.returns-clause-added
returns-clause-added c =
    let k = goal.at.returns-clause-added c in
    let d = down k.After-along-s in
    let g = rw c.in_ok-d1.was at (early_done k.After-place_over-3 d (later_done k.After-place_over-2 d (last_done k.After-place_over d))) in
    shelved_then c.args.c g.1.same c.place_over-4.new.lent.work.now _ c.place_over-4.new.lent.nodes.now _ _ (made c.place_over-4.new.lent.count c.place_over-4.result)
    (into_made c.requires.shelf.table d c.requires.k_bound.2 g.0 (λ xs j. Shelved c.place_over-3.new.lent.work.now xs j c.place_over-4.new.lent.work.now c.args.c) c.place_over-4.new.lent.nodes.now (made c.place_over-4.new.lent.count c.place_over-4.result) c.place_over-4.ensures.added)

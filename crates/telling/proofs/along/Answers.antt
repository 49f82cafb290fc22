use mathlib.Core.Path.{sym, ◌∙◌}
use native.Mathlib.Omega.{arith}
use Rattle.telling.specs.Follow.{bit_of}
use Rattle.telling.proofs.WayLaws.{way_leaf, way_past, way_level, way_below, way_again}
use Rattle.telling.proofs.along.Goals as goal

pub returns-then-base-k : goal.returns-then-base-k
returns-then-base-k c =
    let l = c.loop-q in
    let x = c.read-x in
    record { below = l.invariant.0; is = sym (way_past c.args.nodes.slice.now c.args.nodes.count c.args.base c.args.k c.args.n l.q _ _ _ x.ensures c.if-base-k.true) ∙ l.invariant.2 }

pub overflow_sub-x : goal.overflow_sub-x
overflow_sub-x c =
    let l = c.loop-q in
    let x = c.read-x in
    let e = way_level c.args.nodes.slice.now c.args.nodes.count c.args.base c.args.k c.args.n l.q _ _ _ x.ensures l.invariant.1 in
    omega arith

pub loop-q-smaller : goal.loop-q-smaller
loop-q-smaller c =
    let l = c.loop-q in
    let x = c.read-x in
    let e = way_below c.args.nodes.slice.now c.args.nodes.count c.args.base c.args.k c.args.n l.q _ _ _ x.ensures c.args.nodes.table c.loop-q-test.true l.invariant.0 (bit_of c.args.n _) in
    rw c.chosen-q.ensures e

pub loop-q-preserved : goal.loop-q-preserved
loop-q-preserved c =
    let l = c.loop-q in
    let x = c.read-x in
    let w = way_again c.args.nodes.slice.now c.args.nodes.count c.args.base c.args.k c.args.n l.q _ _ _ x.ensures c.args.nodes.table c.loop-q-test.true l.invariant.0 l.invariant.1 c.if-base-k.false c.chosen-q.result c.chosen-q.ensures in
    (w.0, w.1, w.2 ∙ l.invariant.2)

pub returns : goal.returns
returns c =
    let l = c.loop-q in
    record { below = l.invariant.0; is = sym (way_leaf c.args.nodes.slice.now c.args.nodes.count c.args.base c.args.k c.args.n l.q (omega (arith, c.loop-q-test.false))) ∙ l.invariant.2 }

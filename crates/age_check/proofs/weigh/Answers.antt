-- `weigh` meets its contract. Assumes nothing.
use mathlib.Core.Path.{refl, sym}
use native.Mathlib.Omega.{arith}
use Rattle.trees.specs.Table.{at, trees_of}
use Rattle.nodes.proofs.ReadLaws.{read_below}
use Rattle.age_check.proofs.MarkLaws.{oldest_le, mark_high, mark_past, mark_none, mark_both, mark_odd, mark_even, bits_le}
use Rattle.age_check.proofs.weigh.Goals as goal

pub age_of-requires-clause-bounds : goal.age_of-requires-clause-bounds
age_of-requires-clause-bounds c =
    let p = c.requires.bounds in
    let q = read_below c.args.nodes.table c.read-x.ensures p.0 p.1 in
    (omega (arith, q.0, p.1), q.0, p.2)

pub returns-in_err-low : goal.returns-in_err-low
returns-in_err-low c =
    rw c.from_residual.ensures
    (omega (arith, mark_high c.args.nodes.table c.read-x.ensures c.args.base c.if-x-base.true, c.in_err-low.ensures, oldest_le c.args.base (at (trees_of c.args.nodes.slice.now c.args.nodes.count) c.read-x.result.high)))

pub age_of-requires-then-x-base-clause-bounds : goal.age_of-requires-then-x-base-clause-bounds
age_of-requires-then-x-base-clause-bounds c =
    let p = c.requires.bounds in
    let q = read_below c.args.nodes.table c.read-x.ensures p.0 p.1 in
    (omega (arith, q.1, p.1), q.1, p.2)

pub returns-in_err-high : goal.returns-in_err-high
returns-in_err-high c =
    rw c.from_residual-in_err-high.ensures
    (omega (arith, mark_high c.args.nodes.table c.read-x.ensures c.args.base c.if-x-base.true, c.in_err-high.ensures, oldest_le c.args.base (at (trees_of c.args.nodes.slice.now c.args.nodes.count) c.read-x.result.low)))

pub returns-then-x-base : goal.returns-then-x-base
returns-then-x-base c =
    let low = c.in_ok-low.ensures in
    let high = c.in_ok-high.ensures in
    let max = c.max.ensures in
    let e = mark_high c.args.nodes.table c.read-x.ensures c.args.base c.if-x-base.true in
    (omega (arith, e, max, low.0, high.0), λ z. omega (arith, max, low.1, high.1))

pub returns-then-base-x : goal.returns-then-base-x
returns-then-base-x c = sym (mark_past c.args.nodes.table c.read-x.ensures c.args.base c.if-base-x.true)

pub returns-then-x-eq0-2 : goal.returns-then-x-eq0-2
returns-then-x-eq0-2 c =
    sym (mark_none c.args.nodes.table c.read-x.ensures c.args.base (omega (arith, c.if-x-base.false)) (omega (arith, c.if-base-x.false)) c.if-x-eq0.true c.if-x-eq0-2.true)

pub bits_of-requires-clause-bounds : goal.bits_of-requires-clause-bounds
bits_of-requires-clause-bounds c =
    let p = c.requires.bounds in
    let q = read_below c.args.nodes.table c.read-x.ensures p.0 p.1 in
    (omega (arith, q.1, p.1), q.1, p.2)

pub returns-in_err-y : goal.returns-in_err-y
returns-in_err-y c =
    rw c.from_residual-in_err-y.ensures
    (sym ((mark_odd c.args.nodes.table c.read-x.ensures c.args.base (omega (arith, c.if-x-base.false)) (omega (arith, c.if-base-x.false)) _ c.if-x-eq0.true c.if-x-eq0-2.false (sym c.in_err-y.ensures)).0 refl))

pub overflow_mul-result : goal.overflow_mul-result
overflow_mul-result c = let y = c.in_ok-y.ensures in omega (arith, (bits_le c.args.base _ _ _ (omega (arith, c.if-x-base.false)) y.0 y.1).1)

pub returns-then-x-eq0 : goal.returns-then-x-eq0
returns-then-x-eq0 c =
    let y = c.in_ok-y.ensures in
    let e = mark_odd c.args.nodes.table c.read-x.ensures c.args.base (omega (arith, c.if-x-base.false)) (omega (arith, c.if-base-x.false)) _ c.if-x-eq0.true c.if-x-eq0-2.false (sym y.0) in
    (sym (e.1 y.1), λ z. omega (arith, (bits_le c.args.base _ _ _ (omega (arith, c.if-x-base.false)) y.0 y.1).1))

pub returns-then-x-ne0 : goal.returns-then-x-ne0
returns-then-x-ne0 c =
    sym (mark_both c.args.nodes.table c.read-x.ensures c.args.base (omega (arith, c.if-x-base.false)) (omega (arith, c.if-base-x.false)) c.if-x-eq0.false c.if-x-ne0.true)

pub bits_of-requires-2-clause-bounds : goal.bits_of-requires-2-clause-bounds
bits_of-requires-2-clause-bounds c =
    let p = c.requires.bounds in
    let q = read_below c.args.nodes.table c.read-x.ensures p.0 p.1 in
    (omega (arith, q.0, p.1), q.0, p.2)

pub returns-in_err-y-2 : goal.returns-in_err-y-2
returns-in_err-y-2 c =
    rw c.from_residual-in_err-y-2.ensures
    (sym ((mark_even c.args.nodes.table c.read-x.ensures c.args.base (omega (arith, c.if-x-base.false)) (omega (arith, c.if-base-x.false)) _ c.if-x-eq0.false (omega (arith, c.if-x-ne0.false)) (sym c.in_err-y-2.ensures)).0 refl))

pub overflow_mul-result-2 : goal.overflow_mul-result-2
overflow_mul-result-2 c = let y = c.in_ok-y-2.ensures in omega (arith, (bits_le c.args.base _ _ _ (omega (arith, c.if-x-base.false)) y.0 y.1).1)

pub returns : goal.returns
returns c =
    let y = c.in_ok-y-2.ensures in
    let e = mark_even c.args.nodes.table c.read-x.ensures c.args.base (omega (arith, c.if-x-base.false)) (omega (arith, c.if-base-x.false)) _ c.if-x-eq0.false (omega (arith, c.if-x-ne0.false)) (sym y.0) in
    (sym (e.1 y.1), λ z. omega (arith, (bits_le c.args.base _ _ _ (omega (arith, c.if-x-base.false)) y.0 y.1).1))

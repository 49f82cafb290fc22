use Rattle.making.proofs.IntoLaws.{follow_leaf, follow_end, follow_even, follow_odd}
use native.Mathlib.Omega.{arith}
use Rattle.making.proofs.into.+along_bits.Goals as goal

pub returns-then-p-lt2 : goal.returns-then-p-lt2
returns-then-p-lt2 t c = follow_leaf _ _ _ _ c.requires.p_bound.0 c.if-p-lt2.true

pub returns-then-count-eq0 : goal.returns-then-count-eq0
returns-then-count-eq0 t c = follow_end _ _ _ _ c.requires.p_bound.0 c.if-count-eq0.true

pub sides-x-requires : goal.sides-x-requires
sides-x-requires t c = let s = c in record { table = s.requires.table; r_bound = s.requires.p_bound.0 }

pub along_bits-requires : goal.along_bits-requires
along_bits-requires t c =
    let s = c in
    let left = c.if-count-eq0.false in
    (omega (arith, s.decreases), (s.requires.table, (c.sides-x.ensures.low.below, omega (arith, s.requires.p_bound.1))))

pub returns-then-m-eq0 : goal.returns-then-m-eq0
returns-then-m-eq0 t c =
    let past = c in
    let s = past in
    follow_even _ _ _ _ s.requires.p_bound.0 past.if-count-eq0.false c.sides-x.ensures c.if-m-eq0.true c.along_bits.ensures

pub along_bits-requires-2 : goal.along_bits-requires-2
along_bits-requires-2 t c =
    let s = c in
    let left = c.if-count-eq0.false in
    (omega (arith, s.decreases), (s.requires.table, (c.sides-x.ensures.high.below, omega (arith, s.requires.p_bound.1))))

pub returns : goal.returns
returns t c =
    let past = c in
    let s = past in
    follow_odd _ _ _ _ s.requires.p_bound.0 past.if-count-eq0.false c.sides-x.ensures c.if-m-eq0.false c.along_bits-2.ensures

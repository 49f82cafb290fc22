use Rattle.nodes.proofs.ReadLaws.{grown_ref, grown_count}
use Rattle.making.proofs.NodesLaws.{shelved_same, shelved_then}
use Rattle.making.proofs.IntoLaws.{bits_end, even_stuck, odd_stuck, bits_even, bits_odd}
use Rattle.making.specs.Loans.{made}
use Rattle.making.specs.Tables.{Shelved}
use native.Mathlib.Omega.{arith}
use Rattle.making.proofs.into.+bits_over.Goals as goal

pub returns-then-count-eq0-clause-added : goal.returns-then-count-eq0-clause-added
returns-then-count-eq0-clause-added t c =
    let s = c in
    (bits_end s.requires.shelf.table _ _ _ _ _ s.requires.p_bound.1 c.if-count-eq0.true, shelved_same s.requires.shelf)

pub sides-x-requires : goal.sides-x-requires
sides-x-requires t c = let s = c in record { table = s.requires.shelf.table; r_bound = s.requires.p_bound.0 }

pub bits_over-requires : goal.bits_over-requires
bits_over-requires t c =
    let at-sides = c in
    let past = at-sides in
    let s = past in
    let left = past.if-count-eq0.false in
    (omega (arith, s.decreases), (s.requires.shelf, (at-sides.sides-x.ensures.low.below, s.requires.p_bound.1, omega (arith, s.requires.p_bound.2))))

pub returns-in_err-d-clause-added : goal.returns-in_err-d-clause-added
returns-in_err-d-clause-added t c =
    let after = c in
    let at-sides = after in
    let past = at-sides in
    let s = past in
    rw c.from_residual.ensures (even_stuck s.requires.shelf.table _ _ _ _ past.if-count-eq0.false at-sides.sides-x.ensures after.if-m-eq0.true c.in_err-d.ensures.added)

pub make-requires : goal.make-requires
make-requires t c =
    let g = c.in_ok-d.ensures.added in
    record { shelf = g.1.shelf; low_bound = (grown_ref g.0, omega (arith, grown_count g.0, c.sides-x.ensures.high.below)) }

pub returns-then-m-eq0-clause-added : goal.returns-then-m-eq0-clause-added
returns-then-m-eq0-clause-added t c =
    let after = c in
    let at-sides = after in
    let past = at-sides in
    let s = past in
    let g = c.in_ok-d.ensures.added in
    shelved_then _ g.1.same c.make.new.self.work.now _ c.make.new.self.nodes.now _ _ (made c.make.new.self.count c.make.result)
    (bits_even s.requires.shelf.table _ _ _ _ past.if-count-eq0.false at-sides.sides-x.ensures (λ xs j. Shelved c.bits_over.new.lent.work.now xs j c.make.new.self.work.now c.args.c) c.make.new.self.nodes.now (made c.make.new.self.count c.make.result) after.if-m-eq0.true g.0 c.make.ensures.added)

pub bits_over-requires-2 : goal.bits_over-requires-2
bits_over-requires-2 t c =
    let at-sides = c in
    let past = at-sides in
    let s = past in
    let left = past.if-count-eq0.false in
    (omega (arith, s.decreases), (s.requires.shelf, (at-sides.sides-x.ensures.high.below, s.requires.p_bound.1, omega (arith, s.requires.p_bound.2))))

pub returns-in_err-d-2-clause-added : goal.returns-in_err-d-2-clause-added
returns-in_err-d-2-clause-added t c =
    let after = c in
    let at-sides = after in
    let past = at-sides in
    let s = past in
    rw c.from_residual-in_err-d-2.ensures (odd_stuck s.requires.shelf.table _ _ _ _ past.if-count-eq0.false at-sides.sides-x.ensures after.if-m-eq0.false c.in_err-d-2.ensures.added)

pub make-requires-2 : goal.make-requires-2
make-requires-2 t c =
    let g = c.in_ok-d-2.ensures.added in
    record { shelf = g.1.shelf; low_bound = (omega (arith, grown_count g.0, c.sides-x.ensures.low.below), grown_ref g.0) }

pub returns-clause-added : goal.returns-clause-added
returns-clause-added t c =
    let after = c in
    let at-sides = after in
    let past = at-sides in
    let s = past in
    let g = c.in_ok-d-2.ensures.added in
    shelved_then _ g.1.same c.make-2.new.self.work.now _ c.make-2.new.self.nodes.now _ _ (made c.make-2.new.self.count c.make-2.result)
    (bits_odd s.requires.shelf.table _ _ _ _ past.if-count-eq0.false at-sides.sides-x.ensures (λ xs j. Shelved c.bits_over-2.new.lent.work.now xs j c.make-2.new.self.work.now c.args.c) c.make-2.new.self.nodes.now (made c.make-2.new.self.count c.make-2.result) after.if-m-eq0.false g.0 c.make-2.ensures.added)

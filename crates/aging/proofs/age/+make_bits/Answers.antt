use native.Mathlib.Omega.{arith}
use Rattle.nodes.proofs.ReadLaws.{grown_ref}
use Rattle.making.specs.Loans.{made}
use Rattle.making.specs.Tables.{Shelved}
use Rattle.making.proofs.NodesLaws.{shelved_same, shelved_then}
use Rattle.aging.proofs.ChainLaws.{bits_end, bits_stuck, bits_even, bits_odd}
use Rattle.aging.proofs.age.+make_bits.Goals as goal

pub returns-then-count-eq0-clause-added : goal.returns-then-count-eq0-clause-added
returns-then-count-eq0-clause-added t c = (bits_end c.requires.shelf.table _ _ _ c.if-count-eq0.true, shelved_same c.requires.shelf)

pub make_bits-requires : goal.make_bits-requires
make_bits-requires t c =
    (omega (arith, c.decreases, c.if-count-eq0.false), (c.requires.shelf, omega (arith, c.requires.count_bound, c.if-count-eq0.false)))

pub returns-in_err-d-clause-added : goal.returns-in_err-d-clause-added
returns-in_err-d-clause-added t c = rw c.from_residual.ensures (bits_stuck c.requires.shelf.table _ _ _ c.if-count-eq0.false c.in_err-d.ensures.added)

pub make-requires : goal.make-requires
make-requires t c =
    let g = c.in_ok-d.ensures.added in
    record { shelf = g.1.shelf; low_bound = (omega (arith, grown_ref g.0), omega (arith, grown_ref g.0)) }

pub returns-then-m-eq0-clause-added : goal.returns-then-m-eq0-clause-added
returns-then-m-eq0-clause-added t c =
    let g = c.in_ok-d.ensures.added in
    shelved_then _ g.1.same c.make.new.self.work.now _ c.make.new.self.nodes.now _ _ (made c.make.new.self.count c.make.result)
    (bits_even c.requires.shelf.table _ _ _ c.if-count-eq0.false g.0 (λ xs j. Shelved c.make_bits.new.lent.work.now xs j c.make.new.self.work.now c.args.c) c.make.new.self.nodes.now (made c.make.new.self.count c.make.result) c.if-m-eq0.true c.make.ensures.added)

pub make-requires-2 : goal.make-requires-2
make-requires-2 t c =
    let g = c.in_ok-d.ensures.added in
    record { shelf = g.1.shelf; low_bound = (omega (arith, grown_ref g.0), omega (arith, grown_ref g.0)) }

pub returns-clause-added : goal.returns-clause-added
returns-clause-added t c =
    let g = c.in_ok-d.ensures.added in
    shelved_then _ g.1.same c.make-2.new.self.work.now _ c.make-2.new.self.nodes.now _ _ (made c.make-2.new.self.count c.make-2.result)
    (bits_odd c.requires.shelf.table _ _ _ c.if-count-eq0.false g.0 (λ xs j. Shelved c.make_bits.new.lent.work.now xs j c.make-2.new.self.work.now c.args.c) c.make-2.new.self.nodes.now (made c.make-2.new.self.count c.make-2.result) c.if-m-eq0.false c.make-2.ensures.added)

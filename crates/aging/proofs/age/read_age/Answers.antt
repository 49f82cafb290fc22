-- `read_age` meets its contract. Assumes nothing.
use native.Mathlib.Omega.{arith}
use Rattle.aging.proofs.ChainLaws.{read_none, read_some, under_chain}
use Rattle.aging.proofs.age.read_age.Goals as goal

pub returns-then-p-eq0 : goal.returns-then-p-eq0
returns-then-p-eq0 c = read_none _ _ _ c.if-p-eq0.true

pub read_bits-requires : goal.read_bits-requires
read_bits-requires c =
    let q = c.requires.p_bound in
    record { table = c.requires.table; p_bound = (q.0, omega arith, omega (arith, q.1), under_chain _ c.requires.table q.0 c.if-p-eq0.false q.2) }

pub returns : goal.returns
returns c = read_some c.read_bits.ensures

use native.Mathlib.Omega.{arith}
use Rattle.aging.proofs.ChainLaws.{read_end, chain_node, ask_odd, ask_even, read_odd, read_even, read_small}
use Rattle.aging.proofs.age.+read_bits.Goals as goal

pub returns-then-count-eq0 : goal.returns-then-count-eq0
returns-then-count-eq0 t c = read_end _ c.if-count-eq0.true c.requires.p_bound.3

pub read-x-requires : goal.read-x-requires
read-x-requires t c =
    record { table = c.requires.table; le_r = (chain_node _ _ _ _ c.if-count-eq0.false c.requires.p_bound.3, c.requires.p_bound.0) }

pub read_bits-requires : goal.read_bits-requires
read_bits-requires t c =
    let q = c.requires.p_bound in
    let left = c.if-count-eq0.false in
    (omega (arith, c.decreases), (c.requires.table, (c.read-x.ensures.high, omega (arith, q.1), omega (arith, q.2), ask_odd c.requires.table c.read-x.ensures _ _ left q.3 c.if-x-eq0.true)))

pub overflow_mul-result : goal.overflow_mul-result
overflow_mul-result t c = omega (arith, read_small (omega (arith, c.requires.p_bound.1)) c.read_bits.ensures)

pub overflow_add-result : goal.overflow_add-result
overflow_add-result t c = omega (arith, read_small (omega (arith, c.requires.p_bound.1)) c.read_bits.ensures)

pub returns-then-x-eq0 : goal.returns-then-x-eq0
returns-then-x-eq0 t c =
    read_odd c.requires.table c.read-x.ensures _ _ _ c.if-count-eq0.false c.requires.p_bound.3 c.if-x-eq0.true c.read_bits.ensures

pub read_bits-requires-2 : goal.read_bits-requires-2
read_bits-requires-2 t c =
    let q = c.requires.p_bound in
    let left = c.if-count-eq0.false in
    (omega (arith, c.decreases), (c.requires.table, (c.read-x.ensures.low, omega (arith, q.1), omega (arith, q.2), ask_even c.requires.table c.read-x.ensures _ _ left q.3 c.if-x-eq0.false)))

pub overflow_mul-result-2 : goal.overflow_mul-result-2
overflow_mul-result-2 t c = omega (arith, read_small (omega (arith, c.requires.p_bound.1)) c.read_bits-2.ensures)

pub returns : goal.returns
returns t c =
    read_even c.requires.table c.read-x.ensures _ _ _ c.if-count-eq0.false c.requires.p_bound.3 c.if-x-eq0.false c.read_bits-2.ensures

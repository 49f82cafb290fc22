use Prim.Native.Nat.{◌+◌, ◌-◌, ◌^◌}
use mathlib.Core.Path.{◌≡◌}
use native.Mathlib.Omega.{arith}
use borrow.Author.Count.{below_more}
use Rattle.telling.proofs.AlikeLaws.{ones_is, entry_at, entries_length, meets, parts, all_meet, one_parts}
use Rattle.telling.proofs.alike.Goals as goal

pub returns-then-along : goal.returns-then-along
returns-then-along c =
    let i = c.loop-r.r-index in
    let at = entry_at c.args.from c.args.p i c.args.work.now (omega (arith, c.loop-r-test.true)) in
    one_parts c.args.nodes.slice.now c.args.nodes.count c.args.p c.args.base c.args.work.now c.args.from c.requires.entries c.args.k c.args.n (2 ^ c.args.k - 1)
    (c.args.from + i) (omega arith) (omega (arith, c.loop-r-test.true)) (rw at at (parts c.args.nodes.slice.now c.args.nodes.count c.args.base c.args.k c.args.n (2 ^ c.args.k - 1) _ _ _ _ c.args.nodes.table (ones_is _ c.requires.bounds.0) c.along.ensures c.along-in-loop-r.ensures c.if-along.true))

pub loop-r-preserved : goal.loop-r-preserved
loop-r-preserved c =
    below_more _ _ c.loop-r.invariant
    (meets c.args.nodes.slice.now c.args.nodes.count c.args.base c.args.k c.args.n (2 ^ c.args.k - 1) _ _ _ _ c.args.nodes.table (ones_is _ c.requires.bounds.0) c.along.ensures c.along-in-loop-r.ensures c.if-along.false)

pub returns : goal.returns
returns c =
    let room = c.requires.entries.room in
    let up = c.requires.entries.up in
    let size = entries_length c.args.from c.args.p c.args.work.now up room in
    all_meet c.args.nodes.slice.now c.args.nodes.count c.args.p c.args.base c.args.work.now c.args.from c.requires.entries c.args.k c.args.n (2 ^ c.args.k - 1)
    (λ i g f.
    let e : c.args.from + (i - c.args.from) ≡ i = omega arith in
    rw e at (rw (entry_at c.args.from c.args.p (i - c.args.from) c.args.work.now (omega arith)) at (c.loop-r.invariant (i - c.args.from) (omega (arith, size, c.loop-r-test.false)))))

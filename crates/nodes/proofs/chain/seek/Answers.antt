use Prim.Native.Nat.{◌+◌, ◌-◌, ◌≤◌}
use native.Mathlib.Omega.{arith}
use lib.ListN.{get_or}
use Rattle.nodes.specs.Chains.{ended, found, passed}
use Rattle.nodes.proofs.chain.seek.Goals as goal
use Rattle.nodes.proofs.chain.seek.Goals.{After-shared_slice_known-in-loop-p-1}

-- the link of the place before p leads to a smaller one
link : (c : After-shared_slice_known-in-loop-p-1) → let a = c.args in let l = c.loop-p in
    get_or a.work.now (a.links + (l.p - 1)) 0 ≤ l.p - 1
link c = let s = c in let l = c.loop-p in s.requires.falls (l.p - 1) (omega (arith, l.invariant.0, c.loop-p-test.true))

pub loop-p-init : goal.loop-p-init
loop-p-init c = (omega arith, λ r s. s)

pub holds-requires : goal.holds-requires
holds-requires c = let s = c in omega (arith, s.requires.places, c.loop-p-test.true, c.loop-p.invariant.0)

pub returns-then-holds : goal.returns-then-holds
returns-then-holds c =
    let l = c.loop-p in
    let some = c.loop-p-test.true in
    l.invariant.1 _ (found l.p (l.p - 1) (omega arith) (rw c.if-holds.true at c.holds.ensures))

pub overflow_add-p : goal.overflow_add-p
overflow_add-p c = let s = c in omega (arith, s.requires.room, c.loop-p.invariant.0, c.loop-p-test.true)

pub offset_bounds-work-links : goal.offset_bounds-work-links
offset_bounds-work-links c = let s = c in omega (arith, s.requires.room, c.loop-p.invariant.0, c.loop-p-test.true)

pub bounds-work-links : goal.bounds-work-links
bounds-work-links c = let s = c in omega (arith, s.requires.room, c.loop-p.invariant.0, c.loop-p-test.true)

pub loop-p-smaller : goal.loop-p-smaller
loop-p-smaller c = omega (arith, link c, c.loop-p-test.true)

pub loop-p-preserved : goal.loop-p-preserved
loop-p-preserved c =
    let l = c.loop-p in
    let some = c.loop-p-test.true in
    (omega (arith, link c, l.invariant.0), λ r s. l.invariant.1 r (passed l.p (l.p - 1) r (omega arith) (rw c.if-holds.false at c.holds.ensures) s))

pub returns : goal.returns
returns c = let l = c.loop-p in let none = c.loop-p-test.false in l.invariant.1 _ (ended l.p none)

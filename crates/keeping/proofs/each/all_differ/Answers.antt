use Prim.Native.Nat.{◌*◌, ◌/◌, ◌≤◌, ◌+◌}
use native.Mathlib.Omega.{arith}
use mathlib.Core.Path.{refl, sym, ◌∙◌}
use lib.ListN.{length}
use Rattle.nodes.proofs.ChainLaws.{joined_between, between_trans, chained_missed, chained_found, chained_more}
use Rattle.keeping.proofs.CheckLaws.{some_is, none_is, apart_more, apart_not}
use Rattle.keeping.proofs.each.all_differ.Goals as goal

pub returns-then-is_some-clause-decides : goal.returns-then-is_some-clause-decides
returns-then-is_some-clause-decides c =
    let slot = c.slot in
    let q = some_is _ (sym c.is_some.ensures ∙ c.if-is_some.true) in
    let f = chained_found c.loop-j.invariant.1 _ _ _ slot.result slot.ensures.upper_bound slot.ensures.value (rw q.1 at c.seek.ensures) in
    apart_not c.args.nodes.now c.args.n c.loop-j.j q.0 c.loop-j-test.true f.0 f.1

pub loop-j-preserved : goal.loop-j-preserved
loop-j-preserved c =
    let slot = c.slot in
    let low = c.loop-j-test.true in
    let ns = c.args.nodes.now in
    let C = length ns / 3 in
    let room : 16 * C + 1024 ≤ length c.loop-j.work = omega arith in
    let below = slot.ensures.upper_bound in
    let none = none_is _ (sym c.is_some.ensures ∙ c.if-is_some.false) in
    let chained = c.loop-j.invariant.1 in (
      rw c.join.ensures (between_trans c.loop-j.invariant.0 (joined_between (13 * C) (15 * C) c.loop-j.work _ (14 * C) c.loop-j.j (omega arith) (omega arith) (omega (arith, low, c.requires.1)))),
      rw c.join.ensures (chained_more chained _ _ _ slot.result below slot.ensures.value (record { level = refl; low = refl; high = refl }) (omega (arith, low, c.requires.1)) (omega arith)),
      apart_more ns c.loop-j.j c.loop-j.invariant.2 (chained_missed chained _ _ _ slot.result below slot.ensures.value (rw none at c.seek.ensures)),
    )

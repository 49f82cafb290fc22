use Prim.Native.Nat.{◌<◌}
use mathlib.Core.Path.{refl, ◌∙◌}
use native.Mathlib.Numerals.{add-one}
use native.Mathlib.Omega.{arith}
use lib.ListN.{length}
use Rattle.rule.specs.Decoded.{row_of}
use Rattle.rule.proofs.AgreesLaws.{no_fact}
use Rattle.std.specs.Prelude.{None, Some}
use Rattle.walks.proofs.DeskLaws.{desk_added}
use Rattle.instructions.specs.Planned.{turns_to}
use Rattle.instructions.proofs.PlannedLaws.{turns_length}
use Rattle.diagram.proofs.TurnLaws.{takes, turning_none, turning_more, turning_short, turning_all}
use Rattle.stepping.proofs.AtomLaws.{shaped, turn_is}
use Rattle.stepping.proofs.atoms.atom.Goals as goal

pub loop-f-init : goal.loop-f-init
loop-f-init c = ((refl, refl, refl, refl), turning_none _ _ c.requires.1)

pub take_turn-requires-clause-k_bound : goal.take_turn-requires-clause-k_bound
take_turn-requires-clause-k_bound c =
    let s = c.args in
    let v = c.loop-f.invariant.1 in
    (omega (arith, c.requires.0), v.below, takes v.over c.turn-turn.result (rw c.turn-turn.ensures (shaped (row_of s.read) s.moment.given.now c.matches-matched.result _)))

pub returns-in_err-reference-clause-worked : goal.returns-in_err-reference-clause-worked
returns-in_err-reference-clause-worked c =
    let s = c.args in
    let l = c.loop-f in
    let done = c.take_turn in
    let few = c.loop-f-test.true in
    let t = turn_is (row_of s.read) s.moment.event.now s.moment.given.now l.f no_fact few (omega (arith, c.args.moment.right.1, c.args.moment.right.3)) c.turn-turn.ensures c.matches-matched.ensures refl in
    let h : l.f < length (turns_to (row_of s.read) s.moment.event.now s.moment.given.now s.moment.event.now.count) = omega (arith, few, turns_length (row_of s.read) s.moment.event.now s.moment.given.now s.moment.event.now.count) in
    let g = desk_added l.invariant.1.kept.desk done.new.lent.work.now done.new.lent.nodes.now _ None c.in_err-reference.ensures.added in
    rw c.from_residual.ensures (turning_short l.invariant.1 h (rw t at g))

pub loop-f-preserved : goal.loop-f-preserved
loop-f-preserved c =
    let s = c.args in
    let l = c.loop-f in
    let done = c.take_turn in
    let few = c.loop-f-test.true in
    let e = l.invariant.0 in
    let f = done.ensures.same in
    let t = turn_is (row_of s.read) s.moment.event.now s.moment.given.now l.f no_fact few (omega (arith, c.args.moment.right.1, c.args.moment.right.3)) c.turn-turn.ensures c.matches-matched.ensures refl in
    let h : l.f < length (turns_to (row_of s.read) s.moment.event.now s.moment.given.now s.moment.event.now.count) = omega (arith, few, turns_length (row_of s.read) s.moment.event.now s.moment.given.now s.moment.event.now.count) in
    let g = desk_added l.invariant.1.kept.desk done.new.lent.work.now done.new.lent.nodes.now _ (Some _) c.in_ok-reference.ensures.added in
    let q = rw t at g in
    ((f.0 ∙ e.0, f.1 ∙ e.1, f.2 ∙ e.2, f.3 ∙ e.3), rw (add-one l.f) (turning_more l.invariant.1 h (rw (← t, c.turn-turn.ensures) (shaped (row_of s.read) s.moment.given.now _ l.f)) q.0 q.1))

pub returns-clause-worked : goal.returns-clause-worked
returns-clause-worked c =
    let s = c.args in
    let v = c.loop-f.invariant.1 in
    (turning_all (omega (arith, c.loop-f-test.false, turns_length (row_of s.read) s.moment.event.now s.moment.given.now s.moment.event.now.count)) v, v.kept)

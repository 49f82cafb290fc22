use Prim.Native.Nat.{◌≤◌}
use native.Mathlib.Omega.{arith}
use lib.ListN.{length}
use Rattle.meaning.specs.Rows.{rule_of}
use Rattle.numbers.specs.Asking.{part_of}
use Rattle.numbers.proofs.PartLaws.{part_size}
use Rattle.numbers.proofs.StartLaws.{most_le}
use Rattle.numbers.proofs.CopyLaws.{put_twelve}
use Rattle.numbers.proofs.FactsLaws.{going_none, going_steady, going_next}
use Rattle.numbers.proofs.AskedLaws.{eight, three, facts_inside, fact_is, asks_all, parted}
use Rattle.numbers.proofs.asking.ask.Goals as goal

pub loop-f-init : goal.loop-f-init
loop-f-init c =
    going_none c.args.before (part_of c.most-m.result c.args.before c.args.values.now) c.args.rows.now c.args.event (omega arith)
    (part_size c.most-m.result c.args.before c.args.values.now (parted c.args.k c.args.before c.args.values.now c.args.rows.now c.args.event c.requires c.most-m.ensures))

pub bounds-event-f : goal.bounds-event-f
bounds-event-f c = omega (arith, c.loop-f-test.true, eight c.args.event (rule_of c.args.rows.now) c.requires.agreed)

pub ask_fact-requires : goal.ask_fact-requires
ask_fact-requires c =
    let n = eight c.args.event (rule_of c.args.rows.now) c.requires.agreed in (
      going_steady c.args.before (part_of c.most-m.result c.args.before c.args.values.now) c.args.rows.now c.args.event c.loop-f.f c.loop-f.a.counts c.loop-f.a.fresh c.loop-f.given c.loop-f.invariant (omega arith)
          (λ v h. omega (arith, c.requires.counts v h, most_le c.args.k c.requires.bits)),
      (parted c.args.k c.args.before c.args.values.now c.args.rows.now c.args.event c.requires c.most-m.ensures),
      c.requires.checked,
      three c.args.event c.loop-f.f c.loop-f-test.true (omega arith) (rule_of c.args.rows.now) _ c.requires.agreed,
    )

pub slice_bounds-given-end : goal.slice_bounds-given-end
slice_bounds-given-end c = omega (arith, c.loop-f-test.true, eight c.args.event (rule_of c.args.rows.now) c.requires.agreed, c.loop-f.invariant.size)

pub loop-f-preserved : goal.loop-f-preserved
loop-f-preserved c =
    let n = eight c.args.event (rule_of c.args.rows.now) c.requires.agreed in
    let all : c.args.event.count ≤ length c.args.event.facts = omega arith in
    going_next c.args.before (part_of c.most-m.result c.args.before c.args.values.now) c.args.rows.now c.args.event c.loop-f.f c.loop-f.a.counts c.loop-f.a.fresh c.loop-f.given c.loop-f.invariant (omega arith)
    (facts_inside c.args.event c.loop-f.f c.loop-f-test.true all) _ (fact_is c.args.event c.loop-f.f c.loop-f-test.true all _) _ _ _ _ c.ask_fact.ensures
    (rw c.copy_from_slice.ensures.after (put_twelve c.loop-f.f c.ask_fact.new.self.numbers c.loop-f.given (omega arith) c.loop-f.invariant.size c.ask_fact.ensures.steady.dozen))

pub returns : goal.returns
returns c =
    asks_all c.args.k c.most-m.result c.args.before c.args.values.now c.args.rows.now c.args.event _ c.loop-f.f c.requires c.most-m.ensures (omega arith) (omega arith) c.loop-f.invariant

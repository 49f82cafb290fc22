use native.Mathlib.Omega.{arith}
use Prim.Native.Nat.{◌+◌, ◌*◌, ◌≤◌, ◌-◌}
use mathlib.Core.Path.{◌≡◌, refl, sym, ◌∙◌}
use lib.ListN.{get_or, take, drop, length-drop}
use lib.Seq.{length-take-le}
use borrow.Author.Count.{below_more}
use borrow.Author.Tests.{not-true, not-false}
use Rattle.lists.specs.Slots.{part_right}
use Rattle.numbers.proofs.PartLaws.{part_inside}
use Rattle.lists.proofs.ListsLaws.{all_false, all_true}
use Rattle.lists.proofs.checking.all_right.Goals as goal
use Rattle.lists.proofs.checking.all_right.Goals.{In-loop-v}

-- the part of a variable is one of four
inside : (c : In-loop-v) → let l = c in let a = l.args in l.loop-v.v * a.m + a.m ≤ 4 * a.m
inside c = part_inside c.loop-v.v c.args.m c.args.m (omega arith) (omega arith)

pub loop-v-init : goal.loop-v-init
loop-v-init c = (refl, refl, λ w h. absurd (omega arith))

pub overflow_mul-at : goal.overflow_mul-at
overflow_mul-at c = omega (arith, part_inside c.loop-v.v c.args.m c.args.m (omega arith) (omega arith), c.requires.1)

pub overflow_add-end : goal.overflow_add-end
overflow_add-end c = omega (arith, part_inside c.loop-v.v c.args.m c.args.m (omega arith) (omega arith), c.requires.1)

pub offset_bounds-values-at : goal.offset_bounds-values-at
offset_bounds-values-at c = omega (arith, inside c, c.requires.1)

pub list_right-requires : goal.list_right-requires
list_right-requires c =
    let l = c in
    let s = l in
    let a = s.args in
    let z : l.loop-v.v * a.m + a.m - l.loop-v.v * a.m ≡ a.m = omega arith in (
      record { some = s.requires.0.some; inside = omega (arith, l.loop-v.invariant.0, s.requires.0.inside) },
      s.requires.1,
      rw z (length-take-le a.m (drop (l.loop-v.v * a.m) a.values.now) (rw (length-drop, s.requires.2) (omega (arith, inside (goal.at.list_right-requires c).In-loop-v)))),
    )

pub returns-then-not-list_right : goal.returns-then-not-list_right
returns-then-not-list_right c =
    let l = c in
    let a = l.args in
    let d = c.list_right.ensures in
    let z : l.loop-v.v * a.m + a.m - l.loop-v.v * a.m ≡ a.m = omega arith in
    record {
      answer = all_false 4 (λ v. part_right a.m (get_or a.counts v 0) (take a.m (drop (v * a.m) a.values.now))) l.loop-v.v (omega arith) (sym (rw z at d.answer) ∙ not-true _ c.if-not-list_right.true-raw);
      beyond = d.beyond ∙ l.loop-v.invariant.1;
    }

pub loop-v-preserved : goal.loop-v-preserved
loop-v-preserved c =
    let l = c in
    let a = l.args in
    let w = c.list_right in
    let z : l.loop-v.v * a.m + a.m - l.loop-v.v * a.m ≡ a.m = omega arith in (
      w.auto.work ∙ l.loop-v.invariant.0,
      w.ensures.beyond ∙ l.loop-v.invariant.1,
      below_more _ _ l.loop-v.invariant.2 (sym (rw z at w.ensures.answer) ∙ not-false _ c.if-not-list_right.false-raw),
    )

pub returns : goal.returns
returns c =
    let l = c in
    let s = l in
    let a = s.args in
    record {
      answer = all_true 4 (λ v. part_right a.m (get_or a.counts v 0) (take a.m (drop (v * a.m) a.values.now))) (λ v h. l.loop-v.invariant.2 v (omega arith));
      beyond = l.loop-v.invariant.1;
    }

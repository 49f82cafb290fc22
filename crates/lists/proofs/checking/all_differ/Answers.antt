use Prim.Native.Nat.{ℕ, ◌+◌}
use mathlib.Core.Path.{◌≡◌, ap, ◌∙◌}
use mathlib.Core.List.{List, ◌++◌}
use native.Mathlib.Omega.{arith}
use lib.ListN.{length, get_or, take, drop, replicate, length-set}
use lib.Seq.{drop-set-lt}
use Rattle.std.proofs.Common.{rules}
use Rattle.lists.specs.Slots.{Searchable}
use Rattle.lists.proofs.ListsLaws.{cleared, clear_length, clear_zero, clear_beyond}
use Rattle.lists.proofs.SlotsLaws.{table_none, table_more, apart_more, apart_distinct, twice_distinct}
use Rattle.lists.proofs.checking.all_differ.Goals as goal
use Rattle.lists.proofs.checking.all_differ.Goals.{After-fill, In-loop-j}

-- the table is cleared, and what lies behind it is as it was
clear : (c : After-fill) → c.fill.new.self ++ drop c.slots-size.result c.args.work.now ≡ replicate c.slots-size.result 0 ++ drop c.slots-size.result c.args.work.now
clear c =
    let z : c.fill.new.self ≡ replicate (length (take c.slots-size.result c.args.work.now)) 0 = search rules in
    cleared c.slots-size.result c.args.work.now c.fill.new.self (omega (arith, c.slots-size.ensures.inside, c.requires.0.inside)) z

-- the table can be searched for the value at place j
searchable : (c : In-loop-j) → Searchable c.args.list.now c.loop-j.work c.slots-size.result c.loop-j.j
searchable c = record {
  table = c.loop-j.invariant.2;
  place = c.loop-j-test.true;
  more = omega (arith, c.slots-size.ensures.more);
  few = c.slots-size.ensures.few;
  inside = omega (arith, c.slots-size.ensures.inside, c.loop-j.invariant.0, c.requires.0.inside);
}

pub loop-j-init : goal.loop-j-init
loop-j-init c =
    let w = clear (goal.at.loop-j-init c).After-fill in (
      ap length w ∙ clear_length c.slots-size.result c.args.work.now (omega (arith, c.slots-size.ensures.inside, c.requires.0.inside)),
      ap (drop c.args.room) w ∙ clear_beyond c.slots-size.result c.args.room c.args.work.now c.slots-size.ensures.inside,
      table_none c.args.list.now (c.fill.new.self ++ drop c.slots-size.result c.args.work.now) c.slots-size.result
          (λ p h. ap (λ (xs : List ℕ). get_or xs p 0) w ∙ clear_zero c.slots-size.result c.args.work.now p h),
      λ i j h. absurd (omega arith),
    )

pub seek-p-requires : goal.seek-p-requires
seek-p-requires c = searchable c

pub returns-then-work-p-ne0 : goal.returns-then-work-p-ne0
returns-then-work-p-ne0 c =
    let f = c.seek-p.ensures.met c.if-work-p-ne0.true in
    record { answer = twice_distinct c.args.list.now f.0 c.loop-j.j f.1 c.loop-j-test.true f.2; beyond = c.loop-j.invariant.1 }

pub loop-j-preserved : goal.loop-j-preserved
loop-j-preserved c = (
  simp length-set c.loop-j.invariant.0,
  drop-set-lt c.args.room c.loop-j.work c.seek-p.result (c.loop-j.j + 1) (omega (arith, c.seek-p.ensures.inside, c.slots-size.ensures.inside)) ∙ c.loop-j.invariant.1,
  table_more c.args.list.now c.loop-j.work c.slots-size.result c.loop-j.j c.seek-p.result (searchable (goal.at.loop-j-preserved c).In-loop-j) c.seek-p.ensures c.if-work-p-ne0.false,
  apart_more c.args.list.now c.loop-j.work c.slots-size.result c.loop-j.j c.seek-p.result (searchable (goal.at.loop-j-preserved c).In-loop-j) c.seek-p.ensures c.if-work-p-ne0.false c.loop-j.invariant.3,
)

pub returns : goal.returns
returns c = record { answer = apart_distinct c.args.list.now c.loop-j.j (omega arith) c.loop-j.invariant.3; beyond = c.loop-j.invariant.1 }

use Prim.Native.Nat.{ℕ, ◌/◌, ◌≤◌, ◌<◌}
use mathlib.Core.Path.{◌≡◌, refl, ap, sym, ◌∙◌}
use mathlib.Core.List.{List}
use native.Mathlib.Omega.{arith}
use lib.ListN.{length, get_or}
use Rattle.meaning.specs.Rows
use Rattle.meaning.specs.Rows.{count_of_rows}
use Rattle.meaning.specs.declared.Event.{Event}
use Rattle.std.specs.Prelude.{Option}
use Rattle.making.specs.declared.Number.{Number}
use Rattle.rule.specs.declared.Row.{Row}
use Rattle.rule.specs.Decoded.{row_of, row_read_at}
use Rattle.rule.proofs.DecodedLaws.{row_says}
use Rattle.diagram.specs.declared.Instruction.TheVariants.{Yes}
use Rattle.instructions.specs.Planned.{asked, planned}
use Rattle.instructions.proofs.PlannedLaws.{planned_at}
use Rattle.diagram.specs.Steps.{does}
use Rattle.stepping.proofs.FitLaws.{few_rows, count_is}
use Rattle.stepping.proofs.PlanLaws.{old_are, through_none, through_short, through_more}
use Rattle.stepping.proofs.rows.work_rows.Goals as goal

-- the task that is worked is the plan's
reads : (rows : List ℕ) (e : Event) (given : List (Option Number)) (i : ℕ) → i < length rows / 9 → {r : Row} → r ≡ row_read_at rows i → asked (row_of r) e given ≡ get_or (planned rows e given) i (does Yes)
reads rows e given i h q = ap (λ (r : Rows.Row). asked r e given) (ap row_of q ∙ row_says rows i) ∙ sym (planned_at rows e given i (omega (arith, count_is rows)))

pub loop-i-init : goal.loop-i-init
loop-i-init c =
    let s = c.args in
    let lent = s.lent.now in
    let most : count_of_rows s.moment.rows.now ≤ 64 = omega (arith, few_rows _ c.args.moment.right.0, count_is s.moment.rows.now) in (
      (refl, refl, refl, refl),
      rw c.requires.leads.1 (through_none s.k (planned s.moment.rows.now s.moment.event.now s.moment.given.now) _ lent.nodes.now lent.count lent.work.now s.layout.c s.layout.slots s.olds.now c.requires.k_bound.1 c.requires.leads.0
          (old_are lent.nodes.now lent.count s.olds.now (count_of_rows s.moment.rows.now) (omega (arith, most, c.requires.leads.0.wide)) c.requires.by_index.0) c.requires.by_index.1),
    )

pub overflow_cast-i : goal.overflow_cast-i
overflow_cast-i c = omega (arith, few_rows _ c.args.moment.right.0, c.loop-i-test.true)

pub returns-in_err-done-clause-all : goal.returns-in_err-done-clause-all
returns-in_err-done-clause-all c =
    let s = c.args in
    let l = c.loop-i in
    let h : l.i < length s.moment.rows.now / 9 = omega (arith, c.loop-i-test.true) in
    let x = reads s.moment.rows.now s.moment.event.now s.moment.given.now l.i h c.row_at-read.ensures.whole in
    rw c.from_residual.ensures (through_short s.k (planned s.moment.rows.now s.moment.event.now s.moment.given.now) _ s.lent.now.nodes.now s.lent.now.count l.invariant.1 (count_of_rows s.moment.rows.now) (omega (arith, count_is s.moment.rows.now)) (rw x at c.in_err-done.ensures.done))

pub bounds-news-i : goal.bounds-news-i
bounds-news-i c = omega (arith, few_rows _ c.args.moment.right.0, c.loop-i-test.true)

pub overflow_add-visits : goal.overflow_add-visits
overflow_add-visits c =
    let s = c.args in
    let l = c.loop-i in
    let h : l.i < length s.moment.rows.now / 9 = omega (arith, c.loop-i-test.true) in
    let x = reads s.moment.rows.now s.moment.event.now s.moment.given.now l.i h c.row_at-read.ensures.whole in
    let g = rw x at c.in_ok-done.ensures.done in
    let t = through_more s.k (planned s.moment.rows.now s.moment.event.now s.moment.given.now) _ s.lent.now.nodes.now s.lent.now.count l.invariant.1 g.0 (omega (arith, few_rows _ c.args.moment.right.0)) _ g.1 g.2 in
    omega (arith, t.tally.small, few_rows _ c.args.moment.right.0)

pub loop-i-preserved : goal.loop-i-preserved
loop-i-preserved c =
    let s = c.args in
    let l = c.loop-i in
    let e = l.invariant.0 in
    let f = c.one_row.ensures.same in
    let h : l.i < length s.moment.rows.now / 9 = omega (arith, c.loop-i-test.true) in
    let x = reads s.moment.rows.now s.moment.event.now s.moment.given.now l.i h c.row_at-read.ensures.whole in
    let g = rw x at c.in_ok-done.ensures.done in
    ((f.0 ∙ e.0, f.1 ∙ e.1, f.2 ∙ e.2, f.3 ∙ e.3), through_more s.k (planned s.moment.rows.now s.moment.event.now s.moment.given.now) _ s.lent.now.nodes.now s.lent.now.count l.invariant.1 g.0 (omega (arith, few_rows _ c.args.moment.right.0)) _ g.1 g.2)

pub returns-clause-all : goal.returns-clause-all
returns-clause-all c =
    let l = c.loop-i in
    let e : l.i ≡ count_of_rows c.args.moment.rows.now = omega (arith, c.loop-i-test.false, count_is c.args.moment.rows.now) in
    rw e at l.invariant.1

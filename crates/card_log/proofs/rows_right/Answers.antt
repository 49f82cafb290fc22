use mathlib.Core.Path.{refl, sym, ◌∙◌}
use native.Mathlib.Omega.{arith}
use Rattle.card_log.proofs.RowLaws.{cut_of, checking_start, checking_many, checking_broken, checking_on, checking_end}
use Rattle.card_log.proofs.rows_right.Goals as goal

pub loop-row-init : goal.loop-row-init
loop-row-init c =
    rw (c.into_iter-row-iterator.ensures.into_iter_gives, c.chunks_exact-row-items.ensures.rest, c.chunks_exact-row-items.ensures.size)
    (record { size = refl; checking = checking_start c.args.rows.now })

pub returns-then-f-gt-VALUES : goal.returns-then-f-gt-VALUES
returns-then-f-gt-VALUES c =
    let s = c.in-Some.ensures.steps in
    checking_many c.loop-row.invariant.checking _ _ (cut_of _ _ _ _ c.loop-row.invariant.size s.1.0 s.1.1) _ c.fact_of-f.ensures.result_value c.fact_of-f.ensures.count_value (omega (arith, c.if-f-gt-VALUES.true))

pub returns-in_default : goal.returns-in_default
returns-in_default c =
    let s = c.in-Some.ensures.steps in
    checking_broken c.loop-row.invariant.checking _ _ (cut_of _ _ _ _ c.loop-row.invariant.size s.1.0 s.1.1) _ c.fact_of-f.ensures.result_value c.fact_of-f.ensures.count_value _
    (sym c.in_default.is ∙ c.went_on.ensures)

pub loop-row-preserved : goal.loop-row-preserved
loop-row-preserved c =
    let s = c.in-Some.ensures.steps in
    record {
      size = s.0 ∙ c.loop-row.invariant.size;
      checking =
          checking_on c.loop-row.invariant.checking _ _ (cut_of _ _ _ _ c.loop-row.invariant.size s.1.0 s.1.1) _ c.fact_of-f.ensures.result_value c.fact_of-f.ensures.count_value (omega (arith, c.if-f-gt-VALUES.false)) _
          (sym c.in-Ok.is ∙ c.went_on.ensures);
    }

pub returns : goal.returns
returns c =
    let s = c.in-None.ensures.steps in
    checking_end c.loop-row.invariant.checking (rw c.loop-row.invariant.size at s.1.0) _ c.is_none.ensures

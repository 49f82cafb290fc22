use mathlib.Core.Path.{◌∙◌}
use Rattle.card_log.proofs.RowLaws.{cut_of, rowing_more, rowing_all}
use Rattle.card_log.proofs.block_with_rows.Goals as goal

pub loop-row-preserved : goal.loop-row-preserved
loop-row-preserved c =
    let s = c.in-Some.ensures.steps in
    record {
      size = s.0 ∙ c.loop-row.invariant.size;
      rowing = rowing_more _ c.loop-row.invariant.rowing _ _ (cut_of _ _ _ _ c.loop-row.invariant.size s.1.0 s.1.1) _ c.fact_of.ensures.result_value c.add.ensures.held;
    }

pub returns : goal.returns
returns c =
    let s = c.in-None.ensures.steps in
    rowing_all _ c.loop-row.invariant.rowing (rw c.loop-row.invariant.size at s.1.0) c.end.ensures

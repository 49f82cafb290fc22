use mathlib.Core.Path.{refl, sym, ◌∙◌}
use native.Mathlib.Omega.{arith}
use Rattle.meaning.specs.Rows.{count_of_rows}
use Rattle.rule.proofs.CheckingLaws.{shaped, walk_start, walk_more, walk_all, agreed, fault_row, fault_count, parts_left, no_rows, many_rows, found_fault, found_open, found_right}
use Rattle.rule.proofs.check.Goals as goal
use Rattle.rule.proofs.check.Goals.{then-rows-ne0-via-then-rows-ne0, then-rows-ne0-via-else-rows-ne0+then-n-eq0, then-rows-ne0-via-else-rows-ne0+else-n-eq0+then-n-gt-MOST_ROWS, then-not-row_right-via-then-not-row_right, then-not-row_right-via-else-not-row_right+then-not-counts_agree}

pub returns-then-rows-ne0 : goal.returns-then-rows-ne0
unfolding count_of_rows
returns-then-rows-ne0 c =
    elim c.then-rows-ne0.branch [
      | then-rows-ne0-via-then-rows-ne0 w ↦ parts_left _ w.if-rows-ne0.true
      | then-rows-ne0-via-else-rows-ne0+then-n-eq0 w ↦ no_rows _ w.if-n-eq0.true
      | then-rows-ne0-via-else-rows-ne0+else-n-eq0+then-n-gt-MOST_ROWS w ↦ many_rows _ w.if-n-gt-MOST_ROWS.true
    ]

pub loop-i-init : goal.loop-i-init
loop-i-init c = walk_start _

pub counts_agree-requires : goal.counts_agree-requires
counts_agree-requires c = (omega arith, λ j h. agreed _ j (c.loop-i.invariant.none j h))

pub returns-then-not-row_right : goal.returns-then-not-row_right
unfolding count_of_rows
returns-then-not-row_right c =
    found_fault _ (shaped _ _ refl c.if-rows-ne0.false (omega arith) c.if-n-gt-MOST_ROWS.false) _ c.loop-i-test.true c.loop-i.invariant.none
    (elim c.then-not-row_right.branch [
      | then-not-row_right-via-then-not-row_right w ↦ fault_row _ _ (sym c.row_right.ensures ∙ w.if-not-row_right.true)
      | then-not-row_right-via-else-not-row_right+then-not-counts_agree w ↦ fault_count _ _ (sym w.counts_agree.ensures ∙ w.if-not-counts_agree.true)
    ])

pub of_row-m-requires : goal.of_row-m-requires
of_row-m-requires c = c.loop-i.invariant.size

pub loop-i-preserved : goal.loop-i-preserved
unfolding count_of_rows
loop-i-preserved c =
    walk_more _ _ _ _ c.loop-i.invariant c.loop-i-test.true (omega arith) (sym c.row_right.ensures ∙ c.if-not-row_right.false)
    (sym c.counts_agree.ensures ∙ c.if-not-counts_agree.false) (rw c.row_at.ensures.says at c.of_row-m.ensures)

pub returns-then-free-n-ne0 : goal.returns-then-free-n-ne0
unfolding count_of_rows
returns-then-free-n-ne0 c = found_open _ c.loop-i.free (shaped _ _ refl c.if-rows-ne0.false (omega arith) c.if-n-gt-MOST_ROWS.false) (walk_all _ _ _ c.loop-i.invariant (omega arith)) c.if-free-n-ne0.true

pub returns : goal.returns
unfolding count_of_rows
returns c = found_right _ c.loop-i.free (shaped _ _ refl c.if-rows-ne0.false (omega arith) c.if-n-gt-MOST_ROWS.false) (walk_all _ _ _ c.loop-i.invariant (omega arith)) c.if-free-n-ne0.false

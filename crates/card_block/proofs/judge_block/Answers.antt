-- `judge_block` meets its contract. Assumes nothing.
use mathlib.Core.Path.{sym, ap, ◌∙◌}
use Rattle.std.proofs.Common.{inl, inr}
use Rattle.std.proofs.lemmas.Result.{err_from_is_err_and}
use Rattle.card_block.specs.Judging.{settled}
use Rattle.card_block.proofs.JudgeLaws.{judged_with, settled_broken, settled_below, settled_above}
use Rattle.card_block.proofs.judge_block.Goals as goal
use Rattle.card_block.proofs.judge_block.Goals.{then-number-before, else-number-before}

pub returns-in_err-moment : goal.returns-in_err-moment
returns-in_err-moment c =
    let p = err_from_is_err_and c.from_residual.result c.from_residual.ensures.1 in
    let a = judged_with c.args.piece.now c.args.before c.requires _ _ (c.from-number.ensures ∙ c.number_at.ensures) c.records.ensures c.if-number-before.held
    (elim c.if-number-before.branch [
      | then-number-before w ↦ inl (w.if-number-before.true, w.held-is)
      | else-number-before w ↦ inr (w.if-number-before.false, w.held-is)
    ]) in
    rw (p.1, p.2) (sym (settled_broken _ _ _) ∙ ap (settled c.from-number.result c.args.before.next) (c.in_err-moment.ensures) ∙ a)

pub returns-then-number-before-2 : goal.returns-then-number-before-2
returns-then-number-before-2 c =
    let a = judged_with c.args.piece.now c.args.before c.requires _ _ (c.from-number.ensures ∙ c.number_at.ensures) c.records.ensures c.if-number-before.held
    (elim c.if-number-before.branch [
      | then-number-before w ↦ inl (w.if-number-before.true, w.held-is)
      | else-number-before w ↦ inr (w.if-number-before.false, w.held-is)
    ]) in
    sym (settled_below _ _ _ c.if-number-before-2.true) ∙ ap (settled c.from-number.result c.args.before.next) (c.in_ok-moment.ensures) ∙ a

pub returns : goal.returns
returns c =
    let a = judged_with c.args.piece.now c.args.before c.requires _ _ (c.from-number.ensures ∙ c.number_at.ensures) c.records.ensures c.if-number-before.held
    (elim c.if-number-before.branch [
      | then-number-before w ↦ inl (w.if-number-before.true, w.held-is)
      | else-number-before w ↦ inr (w.if-number-before.false, w.held-is)
    ]) in
    sym (settled_above _ _ _ c.if-number-before-2.false) ∙ ap (settled c.from-number.result c.args.before.next) (c.in_ok-moment.ensures) ∙ a

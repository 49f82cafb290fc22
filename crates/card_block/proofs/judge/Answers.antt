-- `judge` meets its contract: check, then shape, then number. Assumes nothing.
use mathlib.Core.Path.{sym, ◌∙◌}
use native.Mathlib.Omega.{arith}
use Rattle.card_block.proofs.JudgeLaws.{judged_short, judged_check, judged_shape, judged_good, shaped_few}
use Rattle.card_block.proofs.judge.Goals as goal

pub returns-then-piece-ne512 : goal.returns-then-piece-ne512
returns-then-piece-ne512 c = judged_short c.args.piece.now c.args.before (omega arith)

pub returns-then-not-checked : goal.returns-then-not-checked
returns-then-not-checked c = judged_check c.args.piece.now c.args.before (omega arith) (sym (c.if-not-checked.true) ∙ c.checked.ensures)

pub returns-then-not-shaped : goal.returns-then-not-shaped
returns-then-not-shaped c = judged_shape c.args.piece.now c.args.before (omega arith) (sym (c.if-not-checked.false) ∙ c.checked.ensures) (sym (c.if-not-shaped.true) ∙ c.shaped.ensures)

pub judge_block-requires : goal.judge_block-requires
judge_block-requires c = shaped_few c.args.piece.now (omega arith) (λ i h. omega (arith, c.type_inv.piece i)) (sym (c.if-not-shaped.false) ∙ c.shaped.ensures)

pub returns : goal.returns
returns c = c.judge_block.ensures ∙ judged_good c.args.piece.now c.args.before (omega arith) (sym (c.if-not-checked.false) ∙ c.checked.ensures) (sym (c.if-not-shaped.false) ∙ c.shaped.ensures)

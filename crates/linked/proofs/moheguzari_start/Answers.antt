-- `moheguzari_start` meets its contract: the lengths first, then what `monitor::start` promises, packed. Assumes nothing.
use mathlib.Core.Path.{◌∙◌}
use Rattle.linked.proofs.CallLaws.{other_state, other_answer, start_not_made, start_made}
use Rattle.linked.proofs.moheguzari_start.Goals as goal

pub returns-then-state-ne-STATE : goal.returns-then-state-ne-STATE
returns-then-state-ne-STATE c = start_not_made _ _ _ _ _ _ (other_state c.args.state.now c.args.answer.now c.if-state-ne-STATE.true)

pub returns-then-answer-ne-ANSWER : goal.returns-then-answer-ne-ANSWER
returns-then-answer-ne-ANSWER c = start_not_made _ _ _ _ _ _ (other_answer c.args.state.now c.args.answer.now c.if-state-ne-STATE.false c.if-answer-ne-ANSWER.true)

pub returns : goal.returns
returns c =
    start_made c.args.k c.args.rows.now c.args.nodes.now c.args.values.now c.args.state.now c.args.answer.now c.start-turn.result _ _ _ _
    c.if-state-ne-STATE.false c.if-answer-ne-ANSWER.false c.start-turn.ensures c.pack.ensures (c.copy_from_slice.ensures.after ∙ c.answered.ensures)

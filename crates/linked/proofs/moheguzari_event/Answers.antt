-- `moheguzari_event` meets its contract: the lengths first, then what `monitor::event_on` promises of the state and the facts read,
-- packed. Assumes nothing.
use mathlib.Core.Path.{ap, ◌∙◌}
use Rattle.monitor.specs.Said.{whole, turn_of}
use Rattle.linked.specs.Packing.{packed_state}
use Rattle.linked.proofs.PackingLaws.{state_same}
use Rattle.linked.proofs.CallLaws.{other_state, other_answer, other_facts, whole_facts, event_not_made, event_made}
use Rattle.linked.proofs.moheguzari_event.Goals as goal

pub returns-then-facts-ne0 : goal.returns-then-facts-ne0
returns-then-facts-ne0 c = event_not_made _ _ _ _ _ _ _ (other_facts _ _ _ c.if-facts-ne0.true)

pub returns-then-state-ne-STATE : goal.returns-then-state-ne-STATE
returns-then-state-ne-STATE c = event_not_made _ _ _ _ _ _ _ (whole_facts _ _ _ c.if-facts-ne0.false ∙ other_state _ _ c.if-state-ne-STATE.true)

pub returns-then-answer-ne-ANSWER : goal.returns-then-answer-ne-ANSWER
returns-then-answer-ne-ANSWER c = event_not_made _ _ _ _ _ _ _ (whole_facts _ _ _ c.if-facts-ne0.false ∙ other_answer _ _ c.if-state-ne-STATE.false c.if-answer-ne-ANSWER.true)

pub returns : goal.returns
returns c =
    event_made _ _ _ _ _ _ _ (whole c.of-figures.result c.unpack-before.result.refs c.unpack-before.result.sizes) _ (turn_of c.event_on-said.result c.event_on-said.new.refs c.event_on-said.new.sizes) _ _ _ _ _ _ _ _
    c.if-facts-ne0.false c.if-state-ne-STATE.false c.if-answer-ne-ANSWER.false (state_same _ _ c.of-figures.ensures ∙ c.unpack-before.ensures) c.event-event.ensures
    c.event_on-said.ensures.happens c.event_on-said.ensures.looks c.event_on-said.ensures.numbers (c.pack.ensures ∙ ap packed_state c.with.ensures) (c.copy_from_slice.ensures.after ∙ c.answered-written.ensures)

-- `moheguzari_lookup` meets its contract: the lengths first, then what `numbers::look_up` promises of the state read, packed.
-- Assumes nothing.
use Rattle.linked.proofs.CallLaws.{lookup_no_state, lookup_no_answer, lookup_made}
use Rattle.linked.proofs.moheguzari_lookup.Goals as goal

pub returns-then-state-ne-STATE : goal.returns-then-state-ne-STATE
returns-then-state-ne-STATE c = lookup_no_state _ _ _ _ _ c.if-state-ne-STATE.true

pub returns-then-answer-ne-TOLD : goal.returns-then-answer-ne-TOLD
returns-then-answer-ne-TOLD c = lookup_no_answer _ _ _ _ _ c.if-state-ne-STATE.false c.if-answer-ne-TOLD.true

pub returns : goal.returns
returns c =
    lookup_made _ _ _ _ _ c.unpack-before.result c.look_up-found.result _ c.if-state-ne-STATE.false c.if-answer-ne-TOLD.false c.unpack-before.ensures c.look_up-found.ensures
    c.put_found.ensures

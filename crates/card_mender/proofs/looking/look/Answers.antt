-- `look` meets its contract. Assumes nothing.
use mathlib.Core.Path.{sym, ◌∙◌}
use native.Mathlib.Omega.{arith}
use Rattle.card_block.proofs.StayLaws.{stays_next, stays_shaped}
use Rattle.card_mender.proofs.WeighLaws.{looked_past, looked_on_law, looked_gap_law}
use Rattle.card_mender.proofs.looking.look.Goals as goal

pub overflow_sub-after : goal.overflow_sub-after
overflow_sub-after c = omega (arith, stays_next c.args.piece.now c.args.carried _ (sym c.judge.ensures ∙ c.in-Ok.is))

pub look_on-requires : goal.look_on-requires
look_on-requires c = stays_shaped c.args.piece.now c.args.carried _ (sym c.judge.ensures ∙ c.in-Ok.is)

pub returns-then-after-carried : goal.returns-then-after-carried
returns-then-after-carried c =
    let e = sym c.judge.ensures ∙ c.in-Ok.is in
    looked_on_law c.args.piece.now c.args.carried _ e (stays_next c.args.piece.now c.args.carried _ e) _ c.if-after-carried.true c.look_on.ensures

pub returns-in-Err : goal.returns-in-Err
returns-in-Err c = looked_past _ _ _ (sym c.judge.ensures ∙ c.in-Err.is)

pub returns-else-after-carried : goal.returns-else-after-carried
returns-else-after-carried c =
    let e = sym c.judge.ensures ∙ c.in-Ok.is in
    looked_gap_law c.args.piece.now c.args.carried _ e (stays_next c.args.piece.now c.args.carried _ e) c.if-after-carried.false

-- `turn` meets its contract. Assumes nothing.
use mathlib.Core.Path.{refl, sym, ◌∙◌}
use native.Mathlib.Omega.{arith}
use Rattle.card_mender.proofs.GoingLaws.{held_whole, going_gone, going_kept, to_between}
use Rattle.card_mender.proofs.PutLaws.{word_is}
use Rattle.card_mender.proofs.turn.Goals as goal

pub put_line-requires : goal.put_line-requires
put_line-requires c = c.requires.lines

pub put_held-to-requires : goal.put_held-to-requires
put_held-to-requires c =
    let w = held_whole c.requires _ (sym c.in-Ok.is ∙ c.weigh.ensures) in
    (w, omega (arith, c.requires.bytes, w.whole))

pub overflow_sub-to : goal.overflow_sub-to
overflow_sub-to c =
    let w = held_whole c.requires _ (sym c.in-Ok.is ∙ c.weigh.ensures) in
    (to_between _ c.put_held-to.result w (c.put_held-to.ensures w.before w.carries).to_is).0

pub overflow_sub-held : goal.overflow_sub-held
overflow_sub-held c =
    let w = held_whole c.requires _ (sym c.in-Ok.is ∙ c.weigh.ensures) in
    let between = to_between _ c.put_held-to.result w (c.put_held-to.ensures w.before w.carries).to_is in
    omega (arith, between.0, between.1)

pub overflow_cast-held : goal.overflow_cast-held
overflow_cast-held c = omega (arith, (held_whole c.requires _ (sym c.in-Ok.is ∙ c.weigh.ensures)).few)

pub returns-in-Err : goal.returns-in-Err
returns-in-Err c = going_gone c.requires _ _ _ (sym c.in-Err.is ∙ c.weigh.ensures) (word_is c.in-Err.why) c.put_line.ensures

pub returns-in-Ok : goal.returns-in-Ok
returns-in-Ok c = going_kept c.requires _ _ _ _ _ _ (sym c.in-Ok.is ∙ c.weigh.ensures) c.put_held-to.ensures refl c.put_line-in-Ok.ensures refl

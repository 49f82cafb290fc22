-- `weigh` meets its contract. Assumes nothing.
use mathlib.Core.Path.{sym, ◌∙◌}
use native.Mathlib.Omega.{arith}
use Rattle.std.proofs.lemmas.Result.{err_from_is_err_and}
use Rattle.card_block.proofs.StayLaws.{stays_next, stays_shaped}
use Rattle.card_mender.proofs.WeighLaws.{weighed_gone, weighed_kept}
use Rattle.card_mender.proofs.weigh.Goals as goal
use Rattle.card_mender.proofs.weigh.Goals.{then-begun, else-begun}

pub returns-in_err-after : goal.returns-in_err-after
returns-in_err-after c =
    let p = err_from_is_err_and c.from_residual.result c.from_residual.ensures.1 in
    rw (p.1, p.2) (weighed_gone _ _ _ _ (sym c.in_err-after.ensures))

pub returns : goal.returns
returns c =
    let e = sym c.in_ok-after.ensures in
    weighed_kept c.args.piece.now c.args.carried _ e (stays_next c.args.piece.now c.args.carried _ e) c.args.begun _ _
    (elim c.if-begun.branch [ then-begun w ↦ w.on-is ∙ rw w.if-begun.true | else-begun w ↦ w.on-is ∙ rw w.if-begun.false ])
    c.weigh_kept.ensures

pub overflow_sub-on : goal.overflow_sub-on
overflow_sub-on c = omega (arith, stays_next c.args.piece.now c.args.carried _ (sym c.in_ok-after.ensures))

pub weigh_kept-requires : goal.weigh_kept-requires
weigh_kept-requires c = stays_shaped c.args.piece.now c.args.carried _ (sym c.in_ok-after.ensures)

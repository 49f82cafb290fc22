-- `read_piece` meets its contract. Assumes nothing.
use mathlib.Core.Path.{sym}
use Rattle.std.proofs.lemmas.Result.{err_from_is_err_and}
use Rattle.card_block.proofs.StayLaws.{stays_next}
use Rattle.card_reader.proofs.StepLaws.{stepped_bad, stepped_on}
use Rattle.card_reader.proofs.read_piece.Goals as goal

pub returns-in_err-after : goal.returns-in_err-after
returns-in_err-after c =
    let p = err_from_is_err_and c.from_residual.result c.from_residual.ensures.1 in
    rw (p.1, p.2) (stepped_bad _ _ _ (sym c.in_err-after.ensures))

pub go_on-requires : goal.go_on-requires
go_on-requires c = stays_next c.args.piece.now c.args.carried _ (sym c.in_ok-after.ensures)

pub returns : goal.returns
returns c = stepped_on _ _ _ _ _ (sym c.in_ok-after.ensures) c.records.ensures c.go_on.ensures

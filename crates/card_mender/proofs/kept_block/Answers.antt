use mathlib.Core.Path.{sym}
use native.Mathlib.Omega.{arith}
use Rattle.card_block.proofs.JudgeLaws.{block_number}
use Rattle.card_mender.proofs.WeighLaws.{copying_start, copying_room, copying_more, copying_all}
use Rattle.card_mender.proofs.kept_block.Goals as goal

pub number_at-requires : goal.number_at-requires
number_at-requires c = omega (arith, c.requires.0)

pub loop-i-init : goal.loop-i-init
loop-i-init c = copying_start _ _ _ _ _ c.requires.1 (rw (block_number c.args.piece.now, sym c.number_at.ensures) c.begin-sheet.ensures.held)

pub fact_at-requires : goal.fact_at-requires
fact_at-requires c = omega (arith, c.requires.0)

pub add-requires : goal.add-requires
add-requires c = copying_room c.loop-i.invariant (omega arith) c.requires.2

pub loop-i-preserved : goal.loop-i-preserved
loop-i-preserved c = copying_more _ _ c.loop-i.invariant (omega arith) c.fact_at.ensures c.add.ensures.held

pub returns : goal.returns
returns c = copying_all _ c.loop-i.invariant (omega arith) c.end.ensures

-- `kept_block` meets its contract: the records passed stand in the sheet. Assumes nothing.
use Rattle.cards.specs.Blocks.{block_of}
use Rattle.card_mender.proofs.WeighLaws.{Copying}
use Rattle.card_mender.proofs.kept_block.Given as goal

abbrev pub invariant-loop-i : goal.invariant-loop-i
invariant-loop-i l = Copying l.piece (block_of l.piece).number l.from l.to l.sheet l.i

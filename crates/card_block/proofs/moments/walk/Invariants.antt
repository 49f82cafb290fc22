-- `walk` meets its contract: the records still to come, from what is open now, lead to the same. Assumes nothing.
use Rattle.card_block.proofs.WalkLaws.{Walking}
use Rattle.card_block.proofs.moments.walk.Given as goal

abbrev pub invariant-loop-i : goal.invariant-loop-i
invariant-loop-i l = Walking l.piece l.records l.fn.before l.held l.i

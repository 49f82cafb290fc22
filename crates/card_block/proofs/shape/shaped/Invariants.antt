-- `shaped` meets its contract: the records still to be tested decide. Assumes nothing.
use Rattle.card_block.proofs.TestLaws.{Tested}
use Rattle.card_block.proofs.shape.shaped.Given as goal

abbrev pub invariant-loop-i : goal.invariant-loop-i
invariant-loop-i l = Tested l.piece l.count l.i

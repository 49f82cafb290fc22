-- `past_last` meets its contract: what is passed, and what is still to come, lead to the place. Assumes nothing.
use Rattle.card_mender.proofs.FlagLaws.{Lasts}
use Rattle.card_mender.proofs.flags.past_last.Given as goal

abbrev pub invariant-loop-i : goal.invariant-loop-i
invariant-loop-i l = Lasts l.piece l.from l.records l.last l.i

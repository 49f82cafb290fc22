-- `past_first` meets its contract: what is passed, and what is still to come, come to the count. Assumes nothing.
use Rattle.card_mender.proofs.FlagLaws.{Firsts}
use Rattle.card_mender.proofs.flags.past_first.Given as goal

abbrev pub invariant-loop-i : goal.invariant-loop-i
invariant-loop-i l = Firsts l.piece l.records l.i

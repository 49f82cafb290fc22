-- `words::spaces_end` meets its contract. The loop's invariant: the words from the place on stay. Assumes nothing.
use Rattle.spelling.proofs.FirstLaws.{Skipped}
use Rattle.spelling.proofs.words.spaces_end.Given as goal

abbrev pub invariant-loop-i : goal.invariant-loop-i
invariant-loop-i l = Skipped l.text l.at l.i

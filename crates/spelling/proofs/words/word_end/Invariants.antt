-- `words::word_end` meets its contract. The loop's invariant: the bytes passed are letters, digits and `_`. Assumes nothing.
use Rattle.spelling.proofs.RunLaws.{Run}
use Rattle.spelling.proofs.words.word_end.Given as goal

abbrev pub invariant-loop-i : goal.invariant-loop-i
invariant-loop-i l = Run l.text l.at l.i

-- `words::value_of` meets its contract. The loop's invariant: the digits left, read after the value, give the value of all. Assumes nothing.
use Rattle.spelling.proofs.RunLaws.{Reading}
use Rattle.spelling.proofs.words.value_of.Given as goal

abbrev pub invariant-loop-b : goal.invariant-loop-b
invariant-loop-b l = Reading l.digits l.b-index l.value

-- `lines::number_at` meets its contract. The loop's invariant: the digits passed are the numeral of `value`. Assumes nothing.
use Rattle.lines.proofs.Begun.{Begun}
use Rattle.lines.proofs.number_at.Given as goal

abbrev pub invariant-loop-i : goal.invariant-loop-i
invariant-loop-i l = Begun l.line l.at l.value l.i

-- `bits_over` meets its contract; the count falls. Assumes nothing.
use Rattle.making.proofs.into.+bits_over.Given as goal

abbrev pub decreases-bits_over : goal.decreases-bits_over
decreases-bits_over l = l.count

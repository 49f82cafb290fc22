-- `along_bits` meets its contract; the count falls. Assumes nothing.
use Rattle.making.proofs.into.+along_bits.Given as goal

abbrev pub decreases-along_bits : goal.decreases-along_bits
decreases-along_bits l = l.count

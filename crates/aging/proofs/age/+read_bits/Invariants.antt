-- `read_bits` meets its contract; the count falls. Assumes nothing.
use Rattle.aging.proofs.age.+read_bits.Given as goal

abbrev pub decreases-read_bits : goal.decreases-read_bits
decreases-read_bits l = l.count

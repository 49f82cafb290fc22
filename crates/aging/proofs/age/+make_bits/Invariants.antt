-- `make_bits` meets its contract; the count falls. Assumes nothing.
use Rattle.aging.proofs.age.+make_bits.Given as goal

abbrev pub decreases-make_bits : goal.decreases-make_bits
decreases-make_bits l = l.count

-- The measure of `Writing::add_part` is what is left of the part.
use Rattle.std.proofs.Common.{length}
use Rattle.card_lines.proofs.Writing.add_part.Given as goal

abbrev pub decreases-loop-end : goal.decreases-loop-end
decreases-loop-end l = length l.rest

-- `walk` meets its contract; the levels left fall. Assumes nothing.
use Rattle.aging.proofs.walk.+walk.Given as goal

abbrev pub decreases-walk : goal.decreases-walk
decreases-walk l = l.left

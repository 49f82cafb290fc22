-- `not_walk` meets its contract; the levels left fall. Assumes nothing.
use Rattle.walks.proofs.+not_walk.Given as goal

abbrev pub decreases-not_walk : goal.decreases-not_walk
decreases-not_walk l = l.left

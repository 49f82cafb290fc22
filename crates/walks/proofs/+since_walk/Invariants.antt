-- `since_walk` meets its contract; the levels left fall. Assumes nothing.
use Rattle.walks.proofs.+since_walk.Given as goal

abbrev pub decreases-since_walk : goal.decreases-since_walk
decreases-since_walk l = l.left

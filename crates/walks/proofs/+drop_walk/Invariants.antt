-- `drop_walk` meets its contract; the levels left fall. Assumes nothing.
use Rattle.walks.proofs.+drop_walk.Given as goal

abbrev pub decreases-drop_walk : goal.decreases-drop_walk
decreases-drop_walk l = l.left

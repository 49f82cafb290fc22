-- `order::in_order` meets its contract: the laws of OrderLaws, one for each way out. The measure is the reference, since a node's
-- references go back. Assumes nothing.
use Rattle.keeping.proofs.order.+in_order.Given as goal

abbrev pub decreases-in_order : goal.decreases-in_order
decreases-in_order l = l.r

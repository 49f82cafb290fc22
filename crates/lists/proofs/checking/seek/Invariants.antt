-- `seek` meets its contract. The loop's invariant: the search has come to the slot p over taken slots, and the earlier places of the value
-- are still ahead. The measure is the distance to a free slot. Assumes nothing.
use lib.ListN.{get_or}
use Rattle.lists.proofs.SlotsLaws.{Searching, distance, vacancy}
use Rattle.lists.proofs.checking.seek.Given as goal

abbrev pub invariant-loop-p : goal.invariant-loop-p
invariant-loop-p l = Searching l.list l.work l.size l.n l.p (get_or l.work l.p 0)

abbrev pub decreases-loop-p : goal.decreases-loop-p
decreases-loop-p l = distance l.size (vacancy l.work l.size) l.p

-- `order::rows_in_order` meets its contract. The loop's invariant: the rows so far lead to the first n nodes. Assumes nothing.
use Rattle.keeping.proofs.OrderLaws.{RowsFollowed}
use Rattle.keeping.proofs.order.rows_in_order.Given as goal

abbrev pub invariant-loop-r : goal.invariant-loop-r
invariant-loop-r l = RowsFollowed l.nodes.slice.now l.nodes.count l.rows l.r-index l.n

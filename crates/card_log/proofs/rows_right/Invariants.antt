-- `rows_right` meets its contract: the rows still to come decide. Assumes nothing.
use mathlib.Core.Path.{◌≡◌}
use Rattle.std.specs.Slice.Iter.{chunks_exact_rest, chunks_exact_size}
use Rattle.card_log.proofs.RowLaws.{Checking}
use Rattle.card_log.proofs.rows_right.Given as goal

abbrev pub invariant-loop-row : goal.invariant-loop-row
invariant-loop-row l = record {
  size : chunks_exact_size l.row-iterator ≡ 7;
  checking : Checking l.rows l.held (chunks_exact_rest l.row-iterator);
}

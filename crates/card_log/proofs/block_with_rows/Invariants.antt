-- `block_with_rows` meets its contract: the rows passed stand in the sheet. Assumes nothing.
use mathlib.Core.Path.{◌≡◌}
use Rattle.std.specs.Slice.Iter.{chunks_exact_rest, chunks_exact_size}
use Rattle.card_log.proofs.RowLaws.{Rowing}
use Rattle.card_log.proofs.block_with_rows.Given as goal

abbrev pub invariant-loop-row : goal.invariant-loop-row
invariant-loop-row l = record {
  size : chunks_exact_size l.row-iterator ≡ 7;
  rowing : Rowing l.rows l.number l.sheet (chunks_exact_rest l.row-iterator);
}

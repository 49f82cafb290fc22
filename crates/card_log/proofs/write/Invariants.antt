-- `write` meets its contract: what is put, with the blocks to come, is the card. Assumes nothing.
use Prim.Native.Nat.{◌*◌, ◌/◌}
use mathlib.Core.Path.{◌≡◌}
use lib.ListN.{length, drop}
use Rattle.std.specs.Iterator.Adapters.{enumerate_source, enumerate_count}
use Rattle.std.specs.Slice.Iter.{chunks_rest, chunks_size}
use Rattle.card_log.proofs.FillLaws.{Filling}
use Rattle.card_log.proofs.write.Given as goal

abbrev pub invariant-loop-b : goal.invariant-loop-b
invariant-loop-b l = record {
  size : chunks_size (enumerate_source l.b-iterator) ≡ 147;
  rest : chunks_rest (enumerate_source l.b-iterator) ≡ drop (147 * enumerate_count l.b-iterator) l.rows;
  filling : Filling l.rows l.initial.out (length l.rows / 7) (enumerate_count l.b-iterator) l.out;
}

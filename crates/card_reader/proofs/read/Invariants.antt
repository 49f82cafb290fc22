-- `read` meets its contract: the pieces still to come give what the reader finds. Assumes nothing.
use mathlib.Core.Path.{◌≡◌}
use Rattle.std.specs.Iterator.Adapters.{enumerate_source, enumerate_count}
use Rattle.std.specs.Slice.Iter.{chunks_rest, chunks_size}
use Rattle.card_reader.proofs.StepLaws.{Reached}
use Rattle.card_reader.proofs.read.Given as goal

abbrev pub invariant-loop-place : goal.invariant-loop-place
invariant-loop-place l = record {
  size : chunks_size (enumerate_source l.place-iterator) ≡ 512;
  reached : Reached l.card l.carried (enumerate_count l.place-iterator) l.held (chunks_rest (enumerate_source l.place-iterator));
}

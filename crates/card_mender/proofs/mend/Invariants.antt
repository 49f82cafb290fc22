-- `mend` meets its contract: what is put and listed, with what the pieces to come give, is the whole. Assumes nothing.
use Prim.Native.Nat.{◌+◌, ◌*◌, ◌<◌}
use mathlib.Core.Path.{◌≡◌}
use lib.ListN.{length, drop}
use Rattle.std.specs.Iterator.Adapters.{enumerate_source, enumerate_count}
use Rattle.std.specs.Slice.Iter.{chunks_rest, chunks_size}
use Rattle.card_mender.specs.Turning.{Going}
use Rattle.card_mender.proofs.mend.Given as goal

abbrev pub invariant-loop-place : goal.invariant-loop-place
invariant-loop-place l = record {
  size : chunks_size (enumerate_source l.place-iterator) ≡ 512;
  counted : 512 * enumerate_count l.place-iterator < length l.card + 512;
  left : chunks_rest (enumerate_source l.place-iterator) ≡ drop (512 * enumerate_count l.place-iterator) l.card;
  going : Going l.card l.initial.out l.initial.list l.s (chunks_rest (enumerate_source l.place-iterator)) (enumerate_count l.place-iterator) l.out l.list;
}

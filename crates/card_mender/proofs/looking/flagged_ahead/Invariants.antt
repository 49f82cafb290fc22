-- `flagged_ahead` meets its contract: the pieces still to come, from what is carried now, give the answer. Assumes nothing.
use mathlib.Core.Path.{◌≡◌}
use Rattle.std.specs.Slice.Iter.{chunks_rest, chunks_size}
use Rattle.card_mender.proofs.LookLaws.{Looking}
use Rattle.card_mender.proofs.looking.flagged_ahead.Given as goal

abbrev pub invariant-loop-piece : goal.invariant-loop-piece
invariant-loop-piece l = record {
  size : chunks_size l.piece-iterator ≡ 512;
  looking : Looking l.rest l.initial.carries l.carries (chunks_rest l.piece-iterator);
}

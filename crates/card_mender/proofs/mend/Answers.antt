use mathlib.Core.Path.{refl, sym, ap, ◌∙◌}
use native.Mathlib.Omega.{arith}
use Prim.Native.Nat.{ℕ, ◌*◌}
use lib.ListN.{drop}
use lib.Seq.{drop-drop}
use Rattle.std.specs.Iterator.Adapters.{enumerate_count}
use Rattle.card_block.proofs.PieceEnds.{left_is}
use Rattle.card_mender.proofs.PutLaws.{pieces_are}
use Rattle.card_mender.proofs.GoingLaws.{going_start, ready_next, going_next, counted_next, going_end, counted_pieces}
use Rattle.card_mender.proofs.mend.Goals as goal
use Rattle.card_mender.proofs.mend.Goals.{then-out-card-via-then-out-card, then-out-card-via-else-out-card+then-list-div_ceil}

pub returns-then-out-card : goal.returns-then-out-card
returns-then-out-card c =
    record {
      small =
          λ r. elim c.then-out-card.branch [
            | then-out-card-via-then-out-card w ↦ omega (arith, r.bytes, w.if-out-card.true)
            | then-out-card-via-else-out-card+then-list-div_ceil w ↦ omega (arith, r.lines, w.if-list-div_ceil.true, pieces_are _ _ w.div_ceil.ensures)
          ];
      same_out = refl;
      same_list = refl;
    }

pub loop-place-init : goal.loop-place-init
loop-place-init c =
    rw (c.into_iter-place-iterator.ensures.into_iter_gives, c.enumerate-place-items.ensures.source, c.enumerate-place-items.ensures.count, c.chunks.ensures.rest, c.chunks.ensures.size, c.begun.ensures)
    (record { size = refl; counted = omega arith; left = refl; going = going_start _ _ _ _ refl })

pub turn-s-requires : goal.turn-s-requires
turn-s-requires c =
    let s = c.in-Some.ensures.steps in
    let i = c.loop-place.invariant in
    ready_next c.in-Some.place _ _ i.going s.1 i.left s.0.1.0 (rw i.size at s.0.1.1) s.0.1.2 c.if-out-card.false (omega (arith, c.if-list-div_ceil.false, pieces_are _ _ c.div_ceil.ensures))

pub loop-place-preserved : goal.loop-place-preserved
loop-place-preserved c =
    let s = c.in-Some.ensures.steps in
    let i = c.loop-place.invariant in
    let size = rw i.size at s.0.1.1 in
    record {
      size = s.0.0 ∙ i.size;
      counted = rw s.2 (counted_next c.in-Some.place _ _ i.going s.1 i.left s.0.1.0 size s.0.1.2);
      left =
          rw s.2
          (left_is 512 _ _ _ (sym i.left ∙ s.0.1.0) (rw i.left at size) ∙ drop-drop 512 (512 * enumerate_count c.loop-place.place-iterator) c.args.card.now
          ∙ ap (λ (n : ℕ). drop n c.args.card.now) (omega arith));
      going = rw s.2 (going_next c.in-Some.place _ _ i.going s.1 i.left s.0.1.0 size s.0.1.2 c.turn-s.ensures);
    }

pub returns : goal.returns
returns c =
    let i = c.loop-place.invariant in
    let none = c.in-None.ensures.steps.0.1.0 in
    going_end i.going (record { bytes = c.if-out-card.false; lines = omega (arith, c.if-list-div_ceil.false, pieces_are _ _ c.div_ceil.ensures) }) none
    (counted_pieces _ _ (omega (arith, i.going.here, none)) i.counted)

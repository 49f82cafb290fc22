use mathlib.Core.Path.{refl, sym, ◌∙◌}
use Rattle.card_block.proofs.PieceEnds.{cut_of}
use Rattle.card_reader.proofs.StepLaws.{reached_start, reached_bad, reached_open, reached_some, reached_none, reached_end_open, reached_end_fine, finds_fine, finds_bad, finds_open}
use Rattle.card_reader.proofs.read.Goals as goal

pub loop-place-init : goal.loop-place-init
loop-place-init c =
    rw (c.into_iter-place-iterator.ensures.into_iter_gives, c.enumerate-place-items.ensures.source, c.enumerate-place-items.ensures.count, c.begun-carried.ensures, c.chunks.ensures.rest, c.chunks.ensures.size)
    (record { size = refl; reached = reached_start c.args.card.now })

pub returns-in-Err-Goes : goal.returns-in-Err-Goes
returns-in-Err-Goes c =
    let s = c.in-Some.ensures.steps in
    rw (c.in-Err-Goes.why-is, s.1)
    (finds_bad _ _ _
    (reached_bad c.loop-place.invariant.reached _ _ (cut_of _ _ _ _ c.loop-place.invariant.size s.0.1.0 s.0.1.1 s.0.1.2) _ c.read_piece.ensures _ (c.in-Err-Goes.is ∙ rw c.in-Err-Goes.field-0-is)))

pub returns-in-Err-Open : goal.returns-in-Err-Open
returns-in-Err-Open c =
    let s = c.in-Some.ensures.steps in
    finds_open _ _
    (reached_open c.loop-place.invariant.reached _ _ (cut_of _ _ _ _ c.loop-place.invariant.size s.0.1.0 s.0.1.1 s.0.1.2) _ c.read_piece.ensures (c.in-Err-Open.is ∙ rw c.in-Err-Open.field-0-is))

pub loop-place-preserved-then-onward-ne0 : goal.loop-place-preserved-then-onward-ne0
loop-place-preserved-then-onward-ne0 c =
    let s = c.in-Some.ensures.steps in
    record {
      size = s.0.0 ∙ c.loop-place.invariant.size;
      reached =
          rw (s.2, s.1)
          (reached_some c.loop-place.invariant.reached _ _ (cut_of _ _ _ _ c.loop-place.invariant.size s.0.1.0 s.0.1.1 s.0.1.2) _ c.read_piece.ensures _ c.in-Ok.is c.if-onward-ne0.true);
    }

pub loop-place-preserved : goal.loop-place-preserved
loop-place-preserved c =
    let s = c.in-Some.ensures.steps in
    record {
      size = s.0.0 ∙ c.loop-place.invariant.size;
      reached =
          rw s.2
          (reached_none c.loop-place.invariant.reached _ _ (cut_of _ _ _ _ c.loop-place.invariant.size s.0.1.0 s.0.1.1 s.0.1.2) _ c.read_piece.ensures _ c.in-Ok.is c.if-onward-ne0.false);
    }

pub returns-then-is_some : goal.returns-then-is_some
returns-then-is_some c =
    finds_open _ _ (reached_end_open c.loop-place.invariant.reached c.in-None.ensures.steps.0.1.0 (sym c.is_some.ensures ∙ c.if-is_some.true))

pub returns : goal.returns
returns c = finds_fine _ _ (reached_end_fine c.loop-place.invariant.reached c.in-None.ensures.steps.0.1.0 (sym c.is_some.ensures ∙ c.if-is_some.false))

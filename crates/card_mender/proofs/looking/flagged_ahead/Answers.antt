use mathlib.Core.Path.{refl, ◌∙◌}
use Rattle.card_block.proofs.PieceEnds.{cut_of}
use Rattle.card_mender.proofs.LookLaws.{looking_start, looking_ends, looking_on, looking_none}
use Rattle.card_mender.proofs.looking.flagged_ahead.Goals as goal

pub loop-piece-init : goal.loop-piece-init
loop-piece-init c =
    rw (c.into_iter-piece-iterator.ensures.into_iter_gives, c.chunks-piece-items.ensures.rest, c.chunks-piece-items.ensures.size)
    (record { size = refl; looking = looking_start _ _ })

pub returns-in-Break : goal.returns-in-Break
returns-in-Break c =
    let s = c.in-Some.ensures.steps in
    looking_ends c.loop-piece.invariant.looking _ _ (cut_of _ _ _ _ c.loop-piece.invariant.size s.1.0 s.1.1 s.1.2) _ c.look.ensures _ c.in-Break.is

pub loop-piece-preserved : goal.loop-piece-preserved
loop-piece-preserved c =
    let s = c.in-Some.ensures.steps in
    record {
      size = s.0 ∙ c.loop-piece.invariant.size;
      looking = looking_on c.loop-piece.invariant.looking _ _ (cut_of _ _ _ _ c.loop-piece.invariant.size s.1.0 s.1.1 s.1.2) _ c.look.ensures _ c.in-Continue.is;
    }

pub returns : goal.returns
returns c = looking_none c.loop-piece.invariant.looking c.in-None.ensures.steps.1.0

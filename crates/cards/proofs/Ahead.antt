-- Mending piece by piece, with a look ahead: how a program that reads a card in order can do it. Assumes nothing.
use Prim.Native.Nat.{suc}
use mathlib.Core.Path.{◌≡◌, refl, sym, ap, ◌∙◌}
use mathlib.Core.Bool.{Bool, true, false, ◌&&◌, ◌||◌}
use mathlib.Core.List.{List, [], ◌∷◌, ◌++◌, append-nil}
use Rattle.cards.specs.Moments.{Record, flagged, whole, open_of}
use Rattle.cards.specs.Blocks.{Block, Reason, Piece}
use Rattle.cards.specs.Reading.{Before, runs_on, after, Fate, stays, goes, fate, fates}
use Rattle.cards.specs.Mending.{kept, going, from_first, to_last, mend_from}
use Rattle.cards.specs.Piecewise.{flagged_ahead, mend_pieces}
use Rattle.cards.proofs.MomentLaws.{flagged_append, whole_open}
use Rattle.cards.proofs.FateLaws.{fates_stays, fates_goes}
use Rattle.cards.proofs.MendLaws.{going_on, going_gap}

-- the look ahead past one piece
pub ahead_on : (f : Before) (p : Piece) (ps : List Piece) (b : Block) → fate f p ≡ stays b → runs_on f.next b ≡ true
    → flagged_ahead f (p ∷ ps) ≡ (flagged b.records || flagged_ahead (after f b) ps)
unfolding flagged_ahead
ahead_on f p ps b e r = rw (e, flagged_ahead) (rw r)

pub ahead_gap : (f : Before) (p : Piece) (ps : List Piece) (b : Block) → fate f p ≡ stays b → runs_on f.next b ≡ false
    → flagged_ahead f (p ∷ ps) ≡ false
unfolding flagged_ahead
ahead_gap f p ps b e r = rw (e, flagged_ahead) (rw r)

pub ahead_goes : (f : Before) (p : Piece) (ps : List Piece) (why : Reason) → fate f p ≡ goes why → flagged_ahead f (p ∷ ps) ≡ flagged_ahead f ps
unfolding flagged_ahead
ahead_goes f p ps why e = rw (e, flagged_ahead)

-- the kept blocks past one piece
pub kept_stays : (f : Before) (p : Piece) (ps : List Piece) (b : Block) → fate f p ≡ stays b → kept (fates f (p ∷ ps)) ≡ b ∷ kept (fates (after f b) ps)
unfolding kept
kept_stays f p ps b e = ap kept (fates_stays f p ps b e)

pub kept_goes : (f : Before) (p : Piece) (ps : List Piece) (why : Reason) → fate f p ≡ goes why → kept (fates f (p ∷ ps)) ≡ kept (fates f ps)
unfolding kept
kept_goes f p ps why e = ap kept (fates_goes f p ps why e)

-- looking ahead finds what the definition says
ahead_none : (f : Before) → flagged_ahead f [] ≡ flagged (going f.next (kept (fates f [])))
unfolding flagged_ahead fates kept going flagged
ahead_none f = refl

pub ahead_flagged : (f : Before) (ps : List Piece) → flagged_ahead f ps ≡ flagged (going f.next (kept (fates f ps)))
unfolding after
ahead_flagged f [] = ahead_none f
ahead_flagged f (p ∷ ps) = go (fate f p) refl (λ g. ahead_flagged g ps)
  where
    past : (b : Block) → fate f p ≡ stays b → (q : Bool) → runs_on f.next b ≡ q
        → ((g : Before) → flagged_ahead g ps ≡ flagged (going g.next (kept (fates g ps))))
        → flagged_ahead f (p ∷ ps) ≡ flagged (going f.next (kept (fates f (p ∷ ps))))
    past b e true r ih =
        ahead_on f p ps b e r
        ∙ rw (kept_stays f p ps b e, going_on f.next b (kept (fates (after f b) ps)) r, ih (after f b))
        (sym (flagged_append b.records (going (suc b.number) (kept (fates (after f b) ps)))))
    past b e false r ih =
        ahead_gap f p ps b e r
        ∙ rw (kept_stays f p ps b e, going_gap f.next b (kept (fates (after f b) ps)) r) none_flagged
      where
        none_flagged : false ≡ flagged []
        none_flagged = unfold flagged in refl

    go : (w : Fate) → fate f p ≡ w → ((g : Before) → flagged_ahead g ps ≡ flagged (going g.next (kept (fates g ps))))
        → flagged_ahead f (p ∷ ps) ≡ flagged (going f.next (kept (fates f (p ∷ ps))))
    go (stays b) e ih = past b e (runs_on f.next b) refl ih
    go (goes why) e ih = ahead_goes f p ps why e ∙ ih f ∙ ap (λ (bs : List Block). flagged (going f.next bs)) (sym (kept_goes f p ps why e))

-- mending past one piece
mend_stays : (begun : Bool) (f : Before) (p : Piece) (ps : List Piece) (b : Block) → fate f p ≡ stays b
    → mend_pieces begun f (p ∷ ps)
    ≡ record { number = b.number; records = to_last (flagged_ahead (after f b) ps) (from_first (begun && runs_on f.next b) b.records) }
    ∷ mend_pieces ((begun && runs_on f.next b) || flagged b.records) (after f b) ps
unfolding mend_pieces
mend_stays begun f p ps b e = rw (e, mend_pieces)

mend_goes : (begun : Bool) (f : Before) (p : Piece) (ps : List Piece) (why : Reason) → fate f p ≡ goes why
    → mend_pieces begun f (p ∷ ps) ≡ mend_pieces begun f ps
unfolding mend_pieces
mend_goes begun f p ps why e = rw (e, mend_pieces)

-- and mending piece by piece is mending
pub pieces_mended : (begun : Bool) (f : Before) (ps : List Piece) → mend_pieces begun f ps ≡ mend_from begun f.next (kept (fates f ps))
unfolding after mend_from
pieces_mended begun f [] = unfold fates kept mend_pieces in refl
pieces_mended begun f (p ∷ ps) = go (fate f p) refl (λ q g. pieces_mended q g ps)
  where
    go : (w : Fate) → fate f p ≡ w → ((q : Bool) (g : Before) → mend_pieces q g ps ≡ mend_from q g.next (kept (fates g ps)))
        → mend_pieces begun f (p ∷ ps) ≡ mend_from begun f.next (kept (fates f (p ∷ ps)))
    go (stays b) e ih =
        mend_stays begun f p ps b e
        ∙ rw (kept_stays f p ps b e, ahead_flagged (after f b) ps, ih ((begun && runs_on f.next b) || flagged b.records) (after f b))
    go (goes why) e ih = mend_goes begun f p ps why e ∙ rw (kept_goes f p ps why e) (ih begun f)

-- a block whose records leave no moment open needs no look ahead
pub no_look : (later : Bool) (rs : List Record) → open_of rs ≡ [] → to_last later rs ≡ rs
unfolding to_last
no_look true rs e = refl
no_look false rs e = sym (append-nil (whole rs)) ∙ ap (λ (l : List Record). whole rs ++ l) (sym e) ∙ whole_open rs

-- Theorems of mending: what it puts out the reader takes, numbers are kept, each piece is listed once, and a card that the reader takes
-- and that has no gap is left alone. Assumes nothing.
use Prim.Native.Nat.{ℕ, suc, ◌≤◌}
use native.Mathlib.Omega.{arith}
use mathlib.Core.Path.{◌≡◌, refl, ap, ◌∙◌}
use mathlib.Core.Bool.{Bool, true, false, ◌&&◌, ◌||◌}
use mathlib.Core.List.{List, [], ◌∷◌, map}
use lib.ListN.{length}
use Rattle.cards.specs.Moments.{Record, flagged, whole, past_first}
use Rattle.cards.specs.Blocks.{Block, Piece, pieces}
use Rattle.cards.specs.Reading.{Before, start, runs_on, after, Fate, stays, goes, fate, fates, stretches, moments_of, taken, read}
use Rattle.cards.specs.Mending.{kept, going, from_first, to_last, mend_from, mended_blocks, mended, listing, listed}
use Rattle.cards.specs.Writing.{Every}
use Rattle.cards.proofs.BlockLaws.{Says, Holds}
use Rattle.cards.proofs.MomentLaws.{past_here, past_more}
use Rattle.cards.proofs.FateLaws.{kept_chain, fates_stays, fates_goes}
use Rattle.cards.proofs.CardLaws.{kept_hold}
use Rattle.cards.proofs.MendLaws.{mended_fine}
use Rattle.cards.proofs.Readings.{takes}

-- fewer of the records
record Fewer (rs ss : List Record) : Type 0 where
  short : length rs ≤ length ss
  says : Every Says ss → Every Says rs

fewer_whole : (rs : List Record) → Fewer (whole rs) rs
unfolding whole
fewer_whole [] = record { short = omega arith; says = λ h. h }
fewer_whole (r ∷ rs) = go (flagged (r ∷ rs)) refl (fewer_whole rs)
  where
    go : (q : Bool) → flagged (r ∷ rs) ≡ q → Fewer (whole rs) rs → Fewer (whole (r ∷ rs)) (r ∷ rs)
    go true e ih = rw (e, whole) (record { short = omega (arith, ih.short); says = λ h. (h.0, ih.says h.1) })
    go false e ih = rw (e, whole) (record { short = omega arith; says = λ h. tt })

fewer_past : (rs : List Record) → Fewer (past_first rs) rs
unfolding past_first
fewer_past [] = record { short = omega arith; says = λ h. h }
fewer_past (r ∷ rs) = go r.last refl (fewer_past rs)
  where
    go : (q : Bool) → r.last ≡ q → Fewer (past_first rs) rs → Fewer (past_first (r ∷ rs)) (r ∷ rs)
    go true e ih = rw (past_here r rs e) (record { short = omega arith; says = λ h. h.1 })
    go false e ih = rw (past_more r rs e) (record { short = omega (arith, ih.short); says = λ h. ih.says h.1 })

fewer_to : (q : Bool) (rs ss : List Record) → Fewer rs ss → Fewer (to_last q rs) ss
unfolding to_last
fewer_to true rs ss h = h
fewer_to false rs ss h = record { short = omega (arith, h.short, (fewer_whole rs).short); says = λ k. (fewer_whole rs).says (h.says k) }

fewer_from : (q : Bool) (rs : List Record) → Fewer (from_first q rs) rs
unfolding from_first
fewer_from true rs = record { short = omega arith; says = λ h. h }
fewer_from false rs = fewer_past rs

-- mended blocks can stand on a card
mend_holds : (begun : Bool) (next : ℕ) (bs : List Block) → Every Holds bs → Every Holds (mend_from begun next bs)
unfolding mend_from
mend_holds begun next [] h = tt
mend_holds begun next (b ∷ bs) h =
    let f : Fewer (to_last (flagged (going (suc b.number) bs)) (from_first (begun && runs_on next b) b.records)) b.records =
    fewer_to (flagged (going (suc b.number) bs)) (from_first (begun && runs_on next b) b.records) b.records
    (fewer_from (begun && runs_on next b) b.records) in (
      record { number = h.0.number; few = omega (arith, f.short, h.0.few); records = f.says h.0.records },
      mend_holds ((begun && runs_on next b) || flagged b.records) (suc b.number) bs h.1,
    )

-- "What mending puts out the reader takes", for any bytes
pub mended_taken : (bytes : List ℕ) → read (mended bytes) ≡ taken (map moments_of (stretches 0 (mended_blocks (pieces bytes))))
unfolding mended mended_blocks
mended_taken bytes =
    takes (mended bytes) (map moments_of (stretches 0 (mended_blocks (pieces bytes)))) (mended_blocks (pieces bytes))
    (record {
      shown = refl;
      holds = mend_holds true 0 (kept (fates start (pieces bytes))) (kept_hold bytes start);
      unfaulted = mended_fine (kept (fates start (pieces bytes))) (kept_chain start (pieces bytes));
      said = refl;
    })

-- "Kept blocks keep their numbers"
numbers_from : (begun : Bool) (next : ℕ) (bs : List Block) → map (λ (b : Block). b.number) (mend_from begun next bs) ≡ map (λ (b : Block). b.number) bs
unfolding mend_from
numbers_from begun next [] = refl
numbers_from begun next (b ∷ bs) =
    ap (λ (l : List ℕ). b.number ∷ l) (numbers_from ((begun && runs_on next b) || flagged b.records) (suc b.number) bs)

pub numbers_kept : (ps : List Piece) → map (λ (b : Block). b.number) (mended_blocks ps) ≡ map (λ (b : Block). b.number) (kept (fates start ps))
unfolding mended_blocks
numbers_kept ps = numbers_from true 0 (kept (fates start ps))

-- "Each input block is listed": once, in order
fates_each : (f : Before) (ps : List Piece) → length (fates f ps) ≡ length ps
unfolding fates
fates_each f [] = refl
fates_each f (p ∷ ps) = go (fate f p) refl (λ g. fates_each g ps)
  where
    go : (w : Fate) → fate f p ≡ w → ((g : Before) → length (fates g ps) ≡ length ps) → length (fates f (p ∷ ps)) ≡ suc (length ps)
    go (stays b) e ih = rw (fates_stays f p ps b e) (ap suc (ih (after f b)))
    go (goes why) e ih = rw (fates_goes f p ps why e) (ap suc (ih f))

listing_each : (fs : List Fate) (begun : Bool) (next : ℕ) → length (listing fs (mend_from begun next (kept fs))) ≡ length fs
unfolding listing kept mend_from
listing_each [] begun next = refl
listing_each (goes why ∷ fs) begun next = ap suc (listing_each fs begun next)
listing_each (stays b ∷ fs) begun next = ap suc (listing_each fs ((begun && runs_on next b) || flagged b.records) (suc b.number))

pub listed_once : (ps : List Piece) → length (listed ps) ≡ length ps
unfolding listed mended_blocks
listed_once ps = listing_each (fates start ps) true 0 ∙ fates_each start ps

-- A card that the reader takes and that has no gap is mended to itself, with nothing dropped. Assumes nothing.
use Prim.Native.Nat.{ℕ, suc, ◌-◌, ◌≤◌}
use native.Mathlib.Omega.{arith}
use mathlib.Core.Path.{◌≡◌, refl, sym, ap, ◌∙◌}
use mathlib.Core.Bool.{Bool, true, false}
use mathlib.Core.List.{List, [], ◌∷◌, ◌++◌, map}
use lib.ListN.{length, length-map}
use Rattle.cards.specs.Moments.{Record, Moment, flagged, open_of}
use Rattle.cards.specs.Blocks.{Block, good, pieces}
use Rattle.cards.specs.Reading.{Before, start, runs_on, line, after, some, Fate, stays, fates, blocks, ahead, stretches, moments_of, taken, read}
use Rattle.cards.specs.Mending.{kept, going, from_first, to_last, mend_from, mended_blocks, card_bytes, mended, Listed, kept_less, listing, listed, list}
use Rattle.cards.proofs.Tests.{or_none}
use Rattle.cards.proofs.MomentLaws.{flagged_append, open_none, open_unflagged, whole_all}
use Rattle.cards.proofs.FateLaws.{Fine, fate_stays, fates_stays}
use Rattle.cards.proofs.MendLaws.{line_on, going_on}
use Rattle.cards.proofs.CardLaws.{pieces_card}
use Rattle.cards.proofs.Readings.{Taken, taken_only}

-- each block has the next number
abbrev NoGap : ℕ → List Block → Type 0
NoGap next [] = Unit {0}
NoGap next (b ∷ bs) = (runs_on next b ≡ true) × NoGap (suc b.number) bs

-- so it is where there is one stretch
ahead_length : (rs : List Record) (ls : List (List Record)) → (length ls ≤ length (ahead rs ls)) × (1 ≤ length (ahead rs ls))
unfolding ahead
ahead_length rs [] = (omega arith, omega arith)
ahead_length rs (l ∷ ls) = (omega arith, omega arith)

one_stretch : (next : ℕ) (bs : List Block) → length (stretches next bs) ≤ 1 → NoGap next bs
unfolding stretches
one_stretch next [] h = tt
one_stretch next (b ∷ bs) h = go (runs_on next b) refl (one_stretch (suc b.number) bs)
  where
    longer : (length (stretches (suc b.number) bs) ≤ length (ahead b.records (stretches (suc b.number) bs)))
        × (1 ≤ length (ahead b.records (stretches (suc b.number) bs)))
    longer = ahead_length b.records (stretches (suc b.number) bs)

    go : (q : Bool) → runs_on next b ≡ q → (length (stretches (suc b.number) bs) ≤ 1 → NoGap (suc b.number) bs)
        → (runs_on next b ≡ true) × NoGap (suc b.number) bs
    go true e ih = (e, ih (omega (arith, rw (e, stretches) at h, longer.0)))
    go false e ih = absurd (omega (arith, rw (e, stretches) at h, longer.1))

-- nothing is open before blocks without a flagged record
none_some : (rs : List Record) → some rs ≡ false → rs ≡ []
unfolding some
none_some [] e = refl
none_some (r ∷ rs) e = absurd (let z : ◌≡◌ {A = ℕ} 0 1 = cc in omega arith)

none_left : (xs ys : List Record) → xs ++ ys ≡ [] → xs ≡ []
none_left [] ys h = refl
none_left (x ∷ xs) ys h = absurd (let z : ◌≡◌ {A = ℕ} 0 1 = cc in omega arith)

none_open : (f : Before) (bs : List Block) → Fine f bs → NoGap f.next bs → flagged f.opened ≡ false → flagged (going f.next bs) ≡ false
    → f.opened ≡ []
unfolding after
none_open f [] h n plain e = none_some f.opened h
none_open f (b ∷ bs) h n plain e =
    let both : (flagged b.records ≡ false) × (flagged (going (suc b.number) bs) ≡ false) =
    or_none (flagged b.records) (flagged (going (suc b.number) bs))
    (sym (flagged_append b.records (going (suc b.number) bs)) ∙ rw (going_on f.next b bs n.0) at e) in
    let nothing : open_of (line f b) ≡ [] = none_open (after f b) bs h.2 n.1 (open_unflagged (line f b)) both.1 in
    let plain-all : flagged (f.opened ++ b.records) ≡ false = flagged_append f.opened b.records ∙ rw (plain, both.0) in
    none_left f.opened b.records (sym (open_none (f.opened ++ b.records) plain-all) ∙ rw (line_on f b n.0) at nothing)

-- the blocks stay as they are
same_blocks : (f : Before) (bs : List Block) → Fine f bs → NoGap f.next bs → flagged f.opened ≡ false → mend_from true f.next bs ≡ bs
unfolding mend_from from_first to_last after
same_blocks f [] h n plain = refl
same_blocks f (b ∷ bs) h n plain =
    rw (n.0, same_blocks (after f b) bs h.2 n.1 (open_unflagged (line f b)), same (flagged (going (suc b.number) bs)) refl)
  where
    same : (q : Bool) → flagged (going (suc b.number) bs) ≡ q → to_last (flagged (going (suc b.number) bs)) b.records ≡ b.records
    same true e = rw e
    same false e =
        let nothing : open_of (line f b) ≡ [] = none_open (after f b) bs h.2 n.1 (open_unflagged (line f b)) e in
        rw e (whole_all f.opened b.records plain (rw (line_on f b n.0) at nothing))

-- all of them stay
fates_fine : (f : Before) (bs : List Block) → Fine f bs → fates f (map good bs) ≡ map stays bs
unfolding fates
fates_fine f [] h = refl
fates_fine f (b ∷ bs) h =
    fates_stays f (good b) (map good bs) b (fate_stays f b h.0) ∙ ap (λ (l : List Fate). stays b ∷ l) (fates_fine (after f b) bs h.2)

kept_stays : (bs : List Block) → kept (map stays bs) ≡ bs
unfolding kept
kept_stays [] = refl
kept_stays (b ∷ bs) = ap (λ (l : List Block). b ∷ l) (kept_stays bs)

none_dropped : (bs : List Block) → listing (map stays bs) bs ≡ map (λ (b : Block). kept_less 0) bs
unfolding listing
none_dropped [] = refl
none_dropped (b ∷ bs) =
    let z : length b.records - length b.records ≡ 0 = omega arith in
    rw z (ap (λ (l : List Listed). kept_less 0 ∷ l) (none_dropped bs))

-- such blocks are mended to themselves
same_mended : (bytes : List ℕ) (bs : List Block) → pieces bytes ≡ map good bs → Fine start bs → NoGap 0 bs → mended_blocks (pieces bytes) ≡ bs
unfolding mended_blocks start
same_mended bytes bs p h n = rw (p, fates_fine start bs h, kept_stays bs) (same_blocks start bs h n (unfold flagged in refl))

same_list : (bytes : List ℕ) (bs : List Block) → pieces bytes ≡ map good bs → Fine start bs → NoGap 0 bs
    → list bytes ≡ map (λ (b : Block). kept_less 0) bs
unfolding list listed
same_list bytes bs p h n = rw (same_mended bytes bs p h n, p, fates_fine start bs h) (none_dropped bs)

-- "left alone": one stretch, so no gap
pub left_alone : (bytes : List ℕ) (run : List Moment) → read bytes ≡ taken (run ∷ [])
    → (mended bytes ≡ bytes) × (list bytes ≡ map (λ (b : Block). kept_less 0) (blocks (pieces bytes)))
unfolding mended
left_alone bytes run e =
    let bs : List Block = blocks (pieces bytes) in
    let t : Taken bytes (run ∷ []) bs = taken_only bytes (run ∷ []) e in
    let p : pieces bytes ≡ map good bs = ap pieces t.shown ∙ pieces_card bs t.holds in
    let n : NoGap 0 bs = one_stretch 0 bs (omega (arith, ap length t.said, length-map (stretches 0 bs) moments_of)) in
    (ap card_bytes (same_mended bytes bs p t.unfaulted n) ∙ sym t.shown, same_list bytes bs p t.unfaulted n)

-- The reader's refusal: every block before the one that it names stays, that one goes for the reason given or holds the end of an open moment,
-- and the reason is the first of the three that applies. Assumes nothing.
use Prim.Native.Nat.{ℕ, suc, ◌-◌, ◌≤◌, ◌<◌}
use native.Mathlib.Omega.{arith}
use mathlib.Core.Path.{◌≡◌, refl, sym, ap, ◌∙◌}
use mathlib.Core.Bool.{Bool, true, false, not}
use mathlib.Core.List.{List, [], ◌∷◌, map}
use mathlib.Core.Logic.{◌⊎◌, inl, inr}
use lib.Dec.{eqb, ltb}
use lib.ListN.{length, take, drop}
use borrow.Author.Tests.{eqb-true, eqb-false, ltb-true, ltb-false}
use Rattle.cards.specs.Bytes.{same}
use Rattle.cards.specs.Bytes
use Rattle.cards.specs.Moments.{unbroken}
use Rattle.cards.specs.Blocks.{Block, Reason, check, shape, number, body, block_of, Piece, piece_by, piece_of, pieces}
use Rattle.cards.specs.Reading.{Before, start, line, after, Fate, stays, goes, fate_by, fate, fates, Fault, fine, bad, last_place, some, open_at_gap, fault_from, blocks, stretches, moments_of, refused, read_by, read_pieces, read}
use Rattle.cards.proofs.Tests.{and_left}
use Rattle.cards.proofs.NamedPlace.{held_after, no_record}
use Rattle.cards.proofs.FateLaws.{fates_stays, fates_goes, fault_stays, fault_open, fault_goes}

-- every piece stays
unfoldable pub all_stay : List Fate → Bool
all_stay [] = true
all_stay (stays b ∷ fs) = all_stay fs
all_stay (goes why ∷ fs) = false

-- from place on, the pieces before `at` stay, and the one there goes, or the reason is an open moment's
pub record First (place : ℕ) (fs : List Fate) (at : ℕ) (why : Reason) : Type 0 where
  pub from_here : place ≤ at
  pub before : all_stay (take (at - place) fs) ≡ true
  pub named : ((rest : List Fate) × (drop (at - place) fs ≡ goes why ∷ rest)) ⊎ (why ≡ shape)

-- the block named stands before this place, for an open moment
pub record Behind (place at : ℕ) (why : Reason) : Type 0 where
  pub earlier : at < place
  pub shaped : why ≡ shape

first_here : (place : ℕ) (fs : List Fate) (why : Reason) → ((rest : List Fate) × (fs ≡ goes why ∷ rest)) ⊎ (why ≡ shape) → First place fs place why
unfolding all_stay
first_here place fs why n = let z : place - place ≡ 0 = omega arith in record { from_here = omega arith; before = rw z refl; named = rw z n }

first_more : (place : ℕ) (b : Block) (fs : List Fate) (at : ℕ) (why : Reason) → First (suc place) fs at why → First place (stays b ∷ fs) at why
unfolding all_stay
first_more place b fs at why h =
    let one : at - place ≡ suc (at - suc place) = omega (arith, h.from_here) in
    record { from_here = omega (arith, h.from_here); before = rw one h.before; named = rw one h.named }

first_from : (place held : ℕ) (f : Before) (ps : List Piece) (at : ℕ) (why : Reason) → (some f.opened ≡ true → held < place)
    → fault_from place held f ps ≡ bad at why → Behind place at why ⊎ First place (fates f ps) at why
unfolding fault_from
first_from place held f [] at why h e = go (some f.opened) refl e
  where
    go : (q : Bool) → some f.opened ≡ q → elim q [ true ↦ bad held shape | false ↦ fine ] ≡ bad at why → Behind place at why ⊎ First place (fates f []) at why
    go true s k = let same : held ≡ at = cc in inl (record { earlier = omega (arith, h s); shaped = cc })
    go false s k = absurd (let z : ◌≡◌ {A = ℕ} 0 1 = cc in omega arith)
first_from place held f (p ∷ ps) at why h e = go (fate f p) refl (λ n m g. first_from n m g ps at why)
  where
    on : (b : Block) → fate f p ≡ stays b → Behind (suc place) at why ⊎ First (suc place) (fates (after f b) ps) at why
        → Behind place at why ⊎ First place (fates f (p ∷ ps)) at why
    on b w (inr r) = inr (rw (fates_stays f p ps b w) (first_more place b (fates (after f b) ps) at why r))
    on b w (inl r) = behind (ltb at place) refl
      where
        behind : (q : Bool) → ltb at place ≡ q → Behind place at why ⊎ First place (fates f (p ∷ ps)) at why
        behind true t = inl (record { earlier = ltb-true at place t; shaped = r.shaped })
        behind false t =
            let here : at ≡ place = omega (arith, r.earlier, ltb-false at place t) in
            inr (rw here (first_here place (fates f (p ∷ ps)) why (inr r.shaped)))

    past : (b : Block) → fate f p ≡ stays b → (q : Bool) → open_at_gap f b ≡ q
        → ((n m : ℕ) (g : Before) → (some g.opened ≡ true → m < n) → fault_from n m g ps ≡ bad at why → Behind n at why ⊎ First n (fates g ps) at why)
        → Behind place at why ⊎ First place (fates f (p ∷ ps)) at why
    past b w true g ih =
        let k = sym (fault_open place held f p ps b w g) ∙ e in
        let same : held ≡ at = cc in
        inl (record { earlier = omega (arith, h (unfold open_at_gap in and_left (some f.opened) (not (Rattle.cards.specs.Reading.runs_on f.next b)) g)); shaped = cc })
    past b w false g ih =
        on b w
        (ih (suc place) (last_place held place b.records) (after f b) (held_after place held f b b.records refl h)
        (sym (fault_stays place held f p ps b w g) ∙ e))

    go : (w : Fate) → fate f p ≡ w
        → ((n m : ℕ) (g : Before) → (some g.opened ≡ true → m < n) → fault_from n m g ps ≡ bad at why → Behind n at why ⊎ First n (fates g ps) at why)
        → Behind place at why ⊎ First place (fates f (p ∷ ps)) at why
    go (stays b) w ih = past b w (open_at_gap f b) refl ih
    go (goes reason) w ih =
        let k = sym (fault_goes place held f p ps reason w) ∙ e in
        let here : place ≡ at = cc in
        let same : reason ≡ why = cc in
        rw (sym here) (inr (first_here place (fates f (p ∷ ps)) why (inl (fates f ps, fates_goes f p ps reason w ∙ ap (λ (r : Reason). goes r ∷ fates f ps) same))))

-- "the reader names the first bad block": those before it stay, and it goes for this reason, or a moment is open in it at a gap or the end
pub first_bad : (bytes : List ℕ) (at : ℕ) (why : Reason) → read bytes ≡ refused at why → First 0 (fates start (pieces bytes)) at why
unfolding read read_pieces read_by
first_bad bytes at why e = go (fault_from 0 0 start (pieces bytes)) refl e
  where
    settle : (place : ℕ) (reason : Reason) → Behind 0 place reason ⊎ First 0 (fates start (pieces bytes)) place reason → First 0 (fates start (pieces bytes)) place reason
    settle place reason (inl b) = absurd (omega (arith, b.earlier))
    settle place reason (inr r) = r

    go : (w : Fault) → fault_from 0 0 start (pieces bytes) ≡ w → read_by w (map moments_of (stretches 0 (blocks (pieces bytes)))) ≡ refused at why
        → First 0 (fates start (pieces bytes)) at why
    go fine f h = absurd (let z : ◌≡◌ {A = ℕ} 0 1 = cc in omega arith)
    go (bad place reason) f h =
        let here : place ≡ at = cc in
        let same : reason ≡ why = cc in
        rw (sym here, sym same) (settle place reason (first_from 0 0 start (pieces bytes) place reason no_record f))

-- "one of the three reasons, checked in that order": a later reason is given only where those before it do not apply
abbrev pub FirstReason : Before → List ℕ → Reason → Type 0
FirstReason f bs check = (length bs ≡ 512) × (same (Bytes.check (take 510 bs)) (drop 510 bs) ≡ false)
FirstReason f bs shape = length bs ≡ 512 → same (Bytes.check (take 510 bs)) (drop 510 bs) ≡ true
FirstReason f bs number =
    (same (Bytes.check (take 510 bs)) (drop 510 bs) ≡ true) × (same (body (block_of bs)) (take 510 bs) ≡ true) × (unbroken (line f (block_of bs)) ≡ true)
    × ((block_of bs).number < f.next)

pub first_reason : (f : Before) (bs : List ℕ) (why : Reason) → fate f (piece_of bs) ≡ goes why → FirstReason f bs why
unfolding piece_of piece_by fate fate_by
first_reason f bs why e =
    go (eqb (length bs) 512) refl (same (Bytes.check (take 510 bs)) (drop 510 bs)) refl (same (body (block_of bs)) (take 510 bs)) refl why e
  where
    here : (w : Reason) → goes shape ≡ goes w → (length bs ≡ 512 → same (Bytes.check (take 510 bs)) (drop 510 bs) ≡ true) → FirstReason f bs w
    here shape k h = h
    here check k h = absurd (let z : ◌≡◌ {A = ℕ} 0 1 = cc in omega arith)
    here number k h = absurd (let z : ◌≡◌ {A = ℕ} 0 1 = cc in omega arith)

    last : (u v : Bool) → unbroken (line f (block_of bs)) ≡ u → ltb (block_of bs).number f.next ≡ v → same (Bytes.check (take 510 bs)) (drop 510 bs) ≡ true
        → same (body (block_of bs)) (take 510 bs) ≡ true → (w : Reason) → fate_by u v (block_of bs) ≡ goes w → FirstReason f bs w
    last false v a b c d w k = here w k (λ n. c)
    last true false a b c d w k = absurd (let z : ◌≡◌ {A = ℕ} 0 1 = cc in omega arith)
    last true true a b c d number k = (c, d, a, ltb-true (block_of bs).number f.next b)
    last true true a b c d check k = absurd (let z : ◌≡◌ {A = ℕ} 0 1 = cc in omega arith)
    last true true a b c d shape k = absurd (let z : ◌≡◌ {A = ℕ} 0 1 = cc in omega arith)

    go : (p : Bool) → eqb (length bs) 512 ≡ p → (q : Bool) → same (Bytes.check (take 510 bs)) (drop 510 bs) ≡ q
        → (s : Bool) → same (body (block_of bs)) (take 510 bs) ≡ s → (w : Reason) → fate f (piece_by p q s (block_of bs)) ≡ goes w → FirstReason f bs w
    go false a q b s c w k = here w k (λ n. absurd (eqb-false (length bs) 512 a n))
    go true a false b s c check k = (eqb-true (length bs) 512 a, b)
    go true a false b s c shape k = absurd (let z : ◌≡◌ {A = ℕ} 0 1 = cc in omega arith)
    go true a false b s c number k = absurd (let z : ◌≡◌ {A = ℕ} 0 1 = cc in omega arith)
    go true a true b false c w k = here w k (λ n. b)
    go true a true b true c w k = last (unbroken (line f (block_of bs))) (ltb (block_of bs).number f.next) refl refl b c w k

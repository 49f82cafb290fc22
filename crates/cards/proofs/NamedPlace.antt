-- The block that the reader names is one of the card's pieces. Assumes nothing.
use Prim.Native.Nat.{ℕ, suc, ◌+◌, ◌<◌}
use native.Mathlib.Omega.{arith}
use mathlib.Core.Path.{◌≡◌, refl, sym, ◌∙◌}
use mathlib.Core.Bool.{Bool, true, false}
use mathlib.Core.List.{List, [], ◌∷◌, map, append-nil}
use lib.ListN.{length}
use Rattle.cards.specs.Moments.{Record, open_of}
use Rattle.cards.specs.Blocks.{Block, Reason, shape, Piece, pieces}
use Rattle.cards.specs.Reading.{Before, start, runs_on, after, Fate, stays, goes, fate, Fault, fine, bad, last_place, some, open_at_gap, fault_from, blocks, stretches, moments_of, refused, read_by, read_pieces, read}
use Rattle.cards.proofs.Tests.{clash, and_left}
use Rattle.cards.proofs.MendLaws.{line_on, line_gap}
use Rattle.cards.proofs.FateLaws.{fault_stays, fault_open, fault_goes}

-- an open record is a record
some_open : (rs : List Record) → some (open_of rs) ≡ true → some rs ≡ true
unfolding some open_of
some_open [] e = e
some_open (r ∷ rs) e = refl

-- the last block with a record lies before the next piece, where a moment is open
pub held_after : (place held : ℕ) (f : Before) (b : Block) (rs : List Record) → b.records ≡ rs → (some f.opened ≡ true → held < place)
    → some (after f b).opened ≡ true → last_place held place b.records < suc place
unfolding last_place after
held_after place held f b (r ∷ rs) e h s = rw e (omega arith)
held_after place held f b [] e h s = rw e (go (runs_on f.next b) refl)
  where
    go : (q : Bool) → runs_on f.next b ≡ q → held < suc place
    go true r = omega (arith, h (some_open f.opened (rw (line_on f b r, e, append-nil f.opened) at s)))
    go false r = absurd (clash (sym none ∙ some_open [] (rw (line_gap f b r, e) at s)))
      where
        none : some [] ≡ false
        none = unfold some in refl

named_from : (place held : ℕ) (f : Before) (ps : List Piece) (at : ℕ) (why : Reason) → (some f.opened ≡ true → held < place)
    → fault_from place held f ps ≡ bad at why → at < place + length ps
unfolding fault_from
named_from place held f [] at why h e = go (some f.opened) refl e
  where
    go : (q : Bool) → some f.opened ≡ q → elim q [ true ↦ bad held shape | false ↦ fine ] ≡ bad at why → at < place + 0
    go true s k = let same : held ≡ at = cc in omega (arith, h s)
    go false s k = absurd (let z : ◌≡◌ {A = ℕ} 0 1 = cc in omega arith)
named_from place held f (p ∷ ps) at why h e = go (fate f p) refl (λ n m g. named_from n m g ps at why)
  where
    past : (b : Block) → fate f p ≡ stays b → (q : Bool) → open_at_gap f b ≡ q
        → ((n m : ℕ) (g : Before) → (some g.opened ≡ true → m < n) → fault_from n m g ps ≡ bad at why → at < n + length ps)
        → at < place + suc (length ps)
    past b w true g ih =
        let k = fault_open place held f p ps b w g in
        let same : held ≡ at = cc in
        omega (arith, h (unfold open_at_gap in and_left (some f.opened) (mathlib.Core.Bool.not (runs_on f.next b)) g))
    past b w false g ih =
        omega (
          arith,
          ih (suc place) (last_place held place b.records) (after f b) (held_after place held f b b.records refl h)
              (sym (fault_stays place held f p ps b w g) ∙ e),
        )

    go : (w : Fate) → fate f p ≡ w
        → ((n m : ℕ) (g : Before) → (some g.opened ≡ true → m < n) → fault_from n m g ps ≡ bad at why → at < n + length ps)
        → at < place + suc (length ps)
    go (stays b) w ih = past b w (open_at_gap f b) refl ih
    go (goes reason) w ih =
        let k = fault_goes place held f p ps reason w in
        let same : place ≡ at = cc in
        omega arith

pub no_record : some start.opened ≡ true → 0 < 0
unfolding some start
no_record s = absurd (clash s)

-- "the reader names the first bad block": a piece of the card
pub named_place : (bytes : List ℕ) (at : ℕ) (why : Reason) → read bytes ≡ refused at why → at < length (pieces bytes)
unfolding read read_pieces read_by
named_place bytes at why e = go (fault_from 0 0 start (pieces bytes)) refl e
  where
    go : (w : Fault) → fault_from 0 0 start (pieces bytes) ≡ w → read_by w (map moments_of (stretches 0 (blocks (pieces bytes)))) ≡ refused at why
        → at < length (pieces bytes)
    go fine f h = absurd (let z : ◌≡◌ {A = ℕ} 0 1 = cc in omega arith)
    go (bad place reason) f h =
        let same : place ≡ at = cc in
        omega (arith, named_from 0 0 start (pieces bytes) place reason no_record f)

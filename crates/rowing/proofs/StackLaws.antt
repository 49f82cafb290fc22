-- The stack of frames: filling those with less room, and one more. Assumes nothing.
use Prim.Native.Nat.{ℕ, zero, suc, ◌+◌, ◌-◌, ◌≤◌, ◌<◌}
use native.Mathlib.Omega.{arith}
use native.Mathlib.Numerals.{add-one}
use mathlib.Core.Path.{◌≡◌, refl, sym, ap, ◌∙◌}
use mathlib.Core.List.{List, [], ◌∷◌}
use lib.ListN.{length, get_or, set}
use lib.Seq.{get_or-set_same, get_or-set_other}
use borrow.Author.Tests.{lt-ltb, le-ltb}
use Rattle.text.specs.Held.{Held}
use Rattle.text.specs.Emit.{Rowed}
use Rattle.text.specs.Held.{made, Shut}
use Rattle.rowing.specs.declared.frames.Frame.{Frame}
use Rattle.rowing.specs.declared.frames.Frame.TheVariants.{Parenthesis}
use Rattle.rowing.specs.Framing.{held_of, room_in}
use Rattle.rowing.specs.Stacking.{waiting_in, Closed, fill_rows}
use Rattle.rowing.proofs.LongerLaws.{fill_longer}

pub waiting_none : (frames : List Frame) (n : ℕ) → n ≡ 0 → waiting_in frames n ≡ []
unfolding waiting_in
waiting_none frames n e = rw e refl

pub waiting_length : (frames : List Frame) (n : ℕ) → length (waiting_in frames n) ≡ n
unfolding waiting_in
waiting_length frames zero = refl
waiting_length frames (suc n) = ap suc (waiting_length frames n)

pub waiting_top : (frames : List Frame) (n : ℕ) → (n ≡ 0 → ⊥) → waiting_in frames n ≡ held_of (get_or frames (n - 1) Parenthesis) ∷ waiting_in frames (n - 1)
unfolding waiting_in
waiting_top frames zero h = absurd (h refl)
waiting_top frames (suc n) h =
    let z : suc n - 1 ≡ n = omega arith in
    rw z refl

waiting_below : (frames : List Frame) (n i : ℕ) (x : Frame) → n ≤ i → waiting_in (set frames i x) n ≡ waiting_in frames n
unfolding waiting_in
waiting_below frames zero i x h = refl
waiting_below frames (suc n) i x h = rw (get_or-set_other frames i n x Parenthesis (λ u. omega arith), waiting_below frames n i x (omega arith))

pub waiting_set : (frames : List Frame) (n : ℕ) (x : Frame) → n < length frames → waiting_in (set frames n x) (n + 1) ≡ held_of x ∷ waiting_in frames n
unfolding waiting_in
waiting_set frames n x h = rw (add-one n, get_or-set_same frames n x Parenthesis h, waiting_below frames n n x (omega arith))

pub closed_empty : (limit : ℕ) (stack : List Held) → stack ≡ [] → Closed limit stack
closed_empty limit [] e = tt
closed_empty limit (h ∷ hs) e = absurd cc

pub closed_top : (limit : ℕ) (h : Held) (hs stack : List Held) → stack ≡ h ∷ hs → limit ≤ room_in h → Closed limit stack
closed_top limit h hs stack e l = rw e l

-- filling
pub fill_here : (limit : ℕ) (q : Held) (m : Rowed) (hs : List Held) → room_in q < limit → fill_rows limit m (q ∷ hs) ≡ fill_rows limit (made q m) hs
unfolding fill_rows
fill_here limit q m hs u = rw (lt-ltb (room_in q) limit u, fill_rows)

pub fill_closed : (limit : ℕ) (m : Rowed) (stack : List Held) → Closed limit stack → fill_rows limit m stack ≡ record { last = m; stack = stack }
unfolding fill_rows
fill_closed limit m [] c = refl
fill_closed limit m (q ∷ hs) c = rw (le-ltb (room_in q) limit c, fill_rows)

module _ (limit : ℕ) (s : Shut) (m : Rowed) (stack : List Held) (same : s ≡ fill_rows limit m stack) (q : Held) (stack' : List Held) (e : stack ≡ q ∷ stack') (u : room_in q < limit) where
  pub fill_more : (m' : Rowed) → m' ≡ made q m → s ≡ fill_rows limit m' stack'
  fill_more m' k = same ∙ rw (e, k) (fill_here limit q m stack' u)

  pub fill_over : 64 < length (made q m).rows → 64 < length s.last.rows
  fill_over h = rw (fill_more (made q m) refl) (omega (arith, fill_longer limit (made q m) stack'))

pub fill_ends : (limit : ℕ) (s : Shut) (m : Rowed) (stack stack' : List Held) → s ≡ fill_rows limit m stack → stack' ≡ stack → Closed limit stack → record { last = m; stack = stack' } ≡ s
fill_ends limit s m stack stack' same e c = rw e (sym (same ∙ fill_closed limit m stack c))

-- Where the first line end stands. Assumes nothing.
use Prim.Native.Nat.{ℕ, ◌+◌}
use native.Mathlib.Omega.{arith}
use mathlib.Core.Path.{◌≡◌, refl, sym, ap, ◌∙◌}
use mathlib.Core.Bool.{Bool, true, false, cond}
use mathlib.Core.List.{List, [], ◌∷◌}
use lib.Dec.{eqb, ltb}
use lib.ListN.{length, take}
use lib.Seq.{take_all}
use borrow.Author.Tests.{ltb-false}
use Rattle.std.specs.Prelude.{Option, None, Some, ◌==◌, position}
use Rattle.std.specs.List.{position_or_len}
use Rattle.feed.specs.Feeds.{Held, hold_bytes, before, Passed}

-- the place of the first line end is how many bytes stand before it
place_before : (bytes : List ℕ) → position_or_len (λ b. b == 10) bytes ≡ before bytes
unfolding before
place_before [] = refl
place_before (b ∷ bs) = go (eqb b 10) refl (place_before bs)
  where
    go : (q : Bool) → eqb b 10 ≡ q → position_or_len (λ b. b == 10) bs ≡ before bs → position_or_len (λ b. b == 10) (b ∷ bs) ≡ before (b ∷ bs)
    go true e h = rw e
    go false e h = rw e (omega (arith, h))

place_is : (bytes : List ℕ) → position (λ b. b == 10) bytes ≡ cond (ltb (before bytes) (length bytes)) (Some (before bytes)) None
place_is bytes = ap (λ (n : ℕ). cond (ltb n (length bytes)) (Some n) None) (place_before bytes)

-- a line end is found
pub passed_one : {bytes : List ℕ} {end : ℕ} {h h' : Held} → Some end ≡ position (λ b. b == 10) bytes → h' ≡ hold_bytes h (take end bytes)
    → Passed bytes h (Some (end + 1)) h'
passed_one {bytes} {end} {h} {h'} e g = go (ltb (before bytes) (length bytes)) refl (e ∙ place_is bytes)
  where
    go : (q : Bool) → ltb (before bytes) (length bytes) ≡ q → Some end ≡ cond q (Some (before bytes)) None → Passed bytes h (Some (end + 1)) h'
    go true t f =
        let at : end ≡ before bytes = cc in
        record { next_is = rw t (ap (λ (n : ℕ). Some (n + 1)) at); held_is = g ∙ ap (λ (n : ℕ). hold_bytes h (take n bytes)) at }
    go false t f = absurd (let z : ◌≡◌ {A = ℕ} 0 1 = cc in omega arith)

-- and where none is
pub passed_all : {bytes : List ℕ} {h h' : Held} → None ≡ position (λ b. b == 10) bytes → h' ≡ hold_bytes h bytes → Passed bytes h None h'
passed_all {bytes} {h} {h'} e g = go (ltb (before bytes) (length bytes)) refl (e ∙ place_is bytes)
  where
    go : (q : Bool) → ltb (before bytes) (length bytes) ≡ q → ◌≡◌ {A = Option ℕ} None (cond q (Some (before bytes)) None) → Passed bytes h None h'
    go true t f = absurd (let z : ◌≡◌ {A = ℕ} 0 1 = cc in omega arith)
    go false t f =
        let all : take (before bytes) bytes ≡ bytes = take_all (before bytes) bytes (ltb-false (before bytes) (length bytes) t) in
        record { next_is = rw t; held_is = g ∙ ap (hold_bytes h) (sym all) }

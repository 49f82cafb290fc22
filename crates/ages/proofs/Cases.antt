-- Both sides of a time limit, computed. Assumes nothing.
use Prim.Native.Nat.{ℕ}
use mathlib.Core.Path.{◌≡◌, refl}
use mathlib.Core.Bool.{Bool, true, false}
use Rattle.ages.specs.Ages.{Limit, within, longer, Age, none, aged, or_else, older, next_age, ripe}

-- the age after a step of t, and whether the row holds
abbrev goes : Limit → ℕ → Bool → Bool → Age → Age → Bool → Type 0
goes c t l r x y b = (next_age c t l r x ≡ y) × (ripe c y ≡ b)

pub cases_hold :
    -- within 15: at the limit, past it, confirmed again, left side lost, both lost
    goes (within 15) 1 true false (aged 14) (aged 15) true
    × goes (within 15) 2 true false (aged 14) none false
    × goes (within 15) 2 true true (aged 14) (aged 0) true
    × goes (within 15) 1 false true (aged 14) (aged 0) true
    × goes (within 15) 1 false false (aged 3) none false
    -- within 0: the same moment, and any later one
    × goes (within 0) 0 true false (aged 0) (aged 0) true
    × goes (within 0) 1 true false (aged 0) none false
    -- the greatest limit, and the longest step
    × goes (within 1023) 1 true false (aged 1022) (aged 1023) true
    × goes (within 1023) 1 true false (aged 1023) none false
    × goes (within 1023) 2147483647 true false (aged 0) none false
    -- longer than 15: at the limit, past it, long past it, confirmed again, left side lost
    × goes (longer 15) 1 true false (aged 14) (aged 15) false
    × goes (longer 15) 1 true false (aged 15) (aged 16) true
    × goes (longer 15) 2147483647 true true (aged 16) (aged 16) true
    × goes (longer 15) 1 true true (aged 3) (aged 4) false
    × goes (longer 15) 1 false true (aged 16) (aged 0) false
    × goes (longer 0) 0 true false (aged 0) (aged 0) false
    × goes (longer 0) 1 true false (aged 0) (aged 1) true
unfolding next_age or_else older ripe
cases_hold = ((refl, refl), (refl, refl), (refl, refl), (refl, refl), (refl, refl), (refl, refl), (refl, refl), (refl, refl), (refl, refl), (refl, refl), (refl, refl), (refl, refl), (refl, refl), (refl, refl), (refl, refl), (refl, refl), (refl, refl))

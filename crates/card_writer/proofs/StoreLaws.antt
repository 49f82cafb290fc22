-- What a run of stores leaves. Assumes nothing.
use Prim.Native.Nat.{ℕ, ◌+◌, ◌≤◌}
use native.Mathlib.Omega.{arith}
use mathlib.Core.Path.{◌≡◌, ap, ◌∙◌}
use mathlib.Core.List.{List, ◌++◌}
use lib.ListN.{length, take, drop, length-append}
use lib.Seq.{sets, sets-eq, length-take-le, take_at, drop_at}

-- what a run of stores leaves
pub sets_take : (l : List ℕ) (i : ℕ) (xs : List ℕ) → i + length xs ≤ length l → take (i + length xs) (sets l i xs) ≡ take i l ++ xs
sets_take l i xs h =
    ap (take (i + length xs)) (sets-eq xs l i h)
    ∙ take_at (take i l ++ xs) (drop (i + length xs) l) (i + length xs) (length-append (take i l) xs ∙ ap (λ (n : ℕ). n + length xs) (length-take-le i l (omega arith)))

pub sets_drop : (l : List ℕ) (i : ℕ) (xs : List ℕ) → i + length xs ≤ length l → drop (i + length xs) (sets l i xs) ≡ drop (i + length xs) l
sets_drop l i xs h =
    ap (drop (i + length xs)) (sets-eq xs l i h)
    ∙ drop_at (take i l ++ xs) (drop (i + length xs) l) (i + length xs) (length-append (take i l) xs ∙ ap (λ (n : ℕ). n + length xs) (length-take-le i l (omega arith)))

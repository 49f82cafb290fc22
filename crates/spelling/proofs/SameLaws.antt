-- Runs of bytes that `==` compares are the same as the definitions say. Assumes nothing.
use Prim.Native.Nat.{ℕ}
use mathlib.Core.Path.{◌≡◌, refl, ap}
use mathlib.Core.Bool.{◌&&◌}
use mathlib.Core.List.{List, [], ◌∷◌}
use lib.Dec.{eqb}
use Rattle.std.specs.Str.{bytes_eq}
use Rattle.text.specs.Words.{same}

pub equal_same : (a b : List ℕ) → bytes_eq a b ≡ same a b
unfolding same
equal_same [] [] = refl
equal_same [] (y ∷ b) = refl
equal_same (x ∷ a) [] = refl
equal_same (x ∷ a) (y ∷ b) = ap (λ p. eqb x y && p) (equal_same a b)

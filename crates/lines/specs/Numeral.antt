-- A number as the input writes it: its decimal digits, most significant first, as bytes (`0` is byte 48), with no leading zero.
-- Assumes nothing.
use Rattle.std.specs.Prelude.{ℕ, zero, suc, ◌+◌, ◌/◌, ◌%◌, true, false, List, [], ◌∷◌, ◌++◌, ltb}

-- a number below ten is its one digit; any other is what its tenth part is written as, and then its last digit
unfoldable pub digits : ℕ → ℕ → List ℕ
digits zero n = (48 + n) ∷ []
digits (suc turns) n =
    elim (ltb n 10) [ true ↦ (48 + n) ∷ [] | false ↦ digits turns (n / 10) ++ ((48 + n % 10) ∷ []) ]

-- n has at most n digits past the first, so n turns reach the first one
unfoldable pub numeral : ℕ → List ℕ
unfolding digits
numeral n = digits n n

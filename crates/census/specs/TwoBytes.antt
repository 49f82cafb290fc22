-- A count, or none, as one number. Assumes nothing: these are definitions.
use Rattle.std.specs.Prelude.{ℕ, zero, suc, ◌≡◌, Option, Some, None, refl}

abbrev pub count_below : ℕ → Option ℕ
count_below zero = None
count_below (suc n) = Some n

abbrev pub one_above : Option ℕ → ℕ
one_above None = 0
one_above (Some n) = suc n

pub above_below : (n : ℕ) → one_above (count_below n) ≡ n
above_below zero = refl
above_below (suc n) = refl

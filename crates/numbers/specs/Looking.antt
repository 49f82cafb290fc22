-- What looking a value up tells. Assumes nothing: these are definitions.
use Rattle.std.specs.Prelude.{ℕ, Bool, cond, ◌&&◌, List, Option, Some, None, ltb, leb, length, get_or}
use Rattle.making.specs.declared.Number.{Number}
use Rattle.meaning.specs.Numbering.{place, listed}
use Rattle.meaning.specs.Tables.{most, list_of}
use Rattle.meaning.specs.Outcome.{k_right, values_right}
use Rattle.numbers.specs.declared.Lookup.{Lookup}
use Rattle.numbers.specs.declared.Lookup.TheVariants.{Has, OneLeft, NoneLeft, Misfit}
use Rattle.numbers.specs.Asking.{with_counts}

-- "it has this number; it has none, one is left; it has none, none is left": of the values xs, where m may have numbers
unfoldable pub looked_up : ℕ → List ℕ → ℕ → Lookup
looked_up m xs y = cond (listed xs y) (Has (record { 0 = place xs y })) (cond (ltb (length xs) m) OneLeft NoneLeft)

-- there are values of v to look in: k is 1 to 10, the slice has four parts, v is one of the four variables, and its count is no more than
-- a part has
unfoldable pub readable : ℕ → List ℕ → List ℕ → ℕ → Bool
readable k counts values v = k_right k && (values_right k values && (ltb v 4 && leb (get_or counts v 0) (most k)))

-- "Looking a value up", of any variable, value and tables
unfoldable pub look_up : ℕ → List ℕ → List ℕ → ℕ → ℕ → Lookup
look_up k counts values v y = cond (readable k counts values v) (looked_up (most k) (list_of k (with_counts counts) values v) y) Misfit

-- the number that was told, where there is one
unfoldable pub number_told : Lookup → Option Number
number_told (Has n) = Some n
number_told OneLeft = None
number_told NoneLeft = None
number_told Misfit = None

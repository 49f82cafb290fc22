-- The texts of a few lines, worked out by the definitions: the two sides of a limit, and one line of each kind. Assumes nothing.
use mathlib.Core.Path.{◌≡◌, refl}
use mathlib.Core.List.{[], ◌∷◌}
use Rattle.lines.specs.Numeral.{digits, numeral}
use Rattle.lines.specs.Format.{spaced, text}
use Rattle.lines.specs.declared.Line.TheVariants.{Sizes, Row, Event}

-- `0`
zero_text : numeral 0 ≡ 48 ∷ []
unfolding digits numeral
zero_text = refl

-- `10`
ten_text : numeral 10 ≡ 49 ∷ 48 ∷ []
unfolding digits numeral
ten_text = refl

-- `4294967295`
largest_text : numeral 4294967295 ≡ 52 ∷ 50 ∷ 57 ∷ 52 ∷ 57 ∷ 54 ∷ 55 ∷ 50 ∷ 57 ∷ 53 ∷ []
unfolding digits numeral
largest_text = refl

-- `2 64`
sizes_text : text (Sizes 2 64) ≡ 50 ∷ 32 ∷ 54 ∷ 52 ∷ []
unfolding digits numeral spaced text
sizes_text = refl

-- `r 5 2 3 0 0 0 0 0 0`
row_text : text (Row (5 ∷ 2 ∷ 3 ∷ 0 ∷ 0 ∷ 0 ∷ 0 ∷ 0 ∷ 0 ∷ [])) ≡ 114 ∷ 32 ∷ 53 ∷ 32 ∷ 50 ∷ 32 ∷ 51 ∷ 32 ∷ 48 ∷ 32 ∷ 48 ∷ 32 ∷ 48 ∷ 32 ∷ 48 ∷ 32 ∷ 48 ∷ 32 ∷ 48 ∷ []
unfolding digits numeral spaced text
row_text = refl

-- `e 1 7`
event_text : text (Event 1 1 (7 ∷ 0 ∷ 0 ∷ 0 ∷ [])) ≡ 101 ∷ 32 ∷ 49 ∷ 32 ∷ 55 ∷ []
unfolding digits numeral spaced text
event_text = refl

-- `e 3`
event_alone_text : text (Event 3 0 (0 ∷ 0 ∷ 0 ∷ 0 ∷ [])) ≡ 101 ∷ 32 ∷ 51 ∷ []
unfolding digits numeral spaced text
event_alone_text = refl

-- The line that some bytes are, computed: the one candidate is taken if it is right and the bytes are its text. That this is the reading of the
-- line format (`Reads`) is a theorem. Assumes nothing: these are definitions.
use Rattle.std.specs.Prelude.{ℕ, ◌+◌, ◌-◌, ◌*◌, Bool, true, false, cond, ◌&&◌, Option, None, Some, List, [], ◌∷◌, eqb, ltb, leb, length, drop, get_or}
use Rattle.lines.specs.Format.{text}
use Rattle.lines.specs.declared.Line.{Line}
use Rattle.lines.specs.declared.Line.TheVariants.{Sizes, Row, Event}

-- the numbers of the bytes, after the digits of n: a space ends a number, and any other byte counts as a digit
unfoldable pub numbers_from : ℕ → List ℕ → List ℕ
numbers_from n [] = n ∷ []
numbers_from n (b ∷ bs) = cond (eqb b 32) (n ∷ numbers_from 0 bs) (numbers_from (n * 10 + (b - 48)) bs)

-- the line of each kind that has these numbers; before the first space of a row or an event stands none, which counts as 0
unfoldable pub row_with : List ℕ → Line
row_with ns =
    Row
    (get_or ns 1 0 ∷ get_or ns 2 0 ∷ get_or ns 3 0 ∷ get_or ns 4 0 ∷ get_or ns 5 0 ∷ get_or ns 6 0 ∷ get_or ns 7 0 ∷ get_or ns 8 0 ∷ get_or ns 9 0 ∷ [])

unfoldable pub event_with : List ℕ → Line
event_with ns = Event (get_or ns 1 0) (length ns - 2) (get_or ns 2 0 ∷ get_or ns 3 0 ∷ get_or ns 4 0 ∷ get_or ns 5 0 ∷ [])

unfoldable pub sizes_with : List ℕ → Line
sizes_with ns = Sizes (get_or ns 0 0) (get_or ns 1 0)

-- the only line that the bytes can be: by their first byte, and with their numbers
unfoldable pub candidate : List ℕ → Line
candidate bytes =
    cond
    (eqb (get_or bytes 0 0) 114)
    (row_with (numbers_from 0 (drop 1 bytes)))
    (cond (eqb (get_or bytes 0 0) 101) (event_with (numbers_from 0 (drop 1 bytes))) (sizes_with (numbers_from 0 bytes)))

-- the numbers fit; the numbers are 0
unfoldable pub all_fit : List ℕ → Bool
all_fit [] = true
all_fit (n ∷ ns) = ltb n 4294967296 && all_fit ns

unfoldable pub all_zero : List ℕ → Bool
all_zero [] = true
all_zero (n ∷ ns) = eqb n 0 && all_zero ns

-- the test of `Right`
unfoldable pub right_line : Line → Bool
right_line (Sizes k c) = all_fit (k ∷ []) && leb c 512
right_line (Row numbers) = eqb (length numbers) 9 && all_fit numbers
right_line (Event p n values) = all_fit (p ∷ values) && (eqb (length values) 4 && (leb n 4 && all_zero (drop n values)))

unfoldable pub same_bytes : List ℕ → List ℕ → Bool
same_bytes [] [] = true
same_bytes [] (y ∷ ys) = false
same_bytes (x ∷ xs) [] = false
same_bytes (x ∷ xs) (y ∷ ys) = eqb x y && same_bytes xs ys

-- the line that the bytes are, or none
unfoldable pub line_of : List ℕ → Option Line
line_of bytes = cond (right_line (candidate bytes) && same_bytes (text (candidate bytes)) bytes) (Some (candidate bytes)) None

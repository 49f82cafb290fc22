-- The format of a line: what each line is written as (`text`), which lines there are (`Right`), and what it is to read a line (`Reads`).
-- Bytes are numbers, and a line's bytes stand without its line end. Assumes nothing.
use Rattle.std.specs.Prelude.{ℕ, ◌<◌, ◌≤◌, ◌≡◌, Option, None, Some, List, [], ◌∷◌, ◌++◌, length, take, get_or}
use Rattle.lines.specs.Numeral.{numeral}
use Rattle.lines.specs.declared.Line.{Line}
use Rattle.lines.specs.declared.Line.TheVariants.{Sizes, Row, Event}

-- n is a number of the input: it is below 2^32
abbrev pub Fits : ℕ → Type 0
Fits n = n < 4294967296

-- P holds of each of the numbers
abbrev pub Every : (ℕ → Type 0) → List ℕ → Type 0
Every P [] = Unit {0}
Every P (n ∷ ns) = P n × Every P ns

-- the numbers as they follow one another in a line, each after one space
unfoldable pub spaced : List ℕ → List ℕ
spaced [] = []
spaced (n ∷ ns) = 32 ∷ (numeral n ++ spaced ns)

-- the bytes of a line: `k C`; `r` and nine numbers; `e`, a predicate and the first n of the four values
unfoldable pub text : Line → List ℕ
text (Sizes k c) = numeral k ++ spaced (c ∷ [])
text (Row numbers) = 114 ∷ spaced numbers
text (Event p n values) = 101 ∷ spaced (p ∷ take n values)

-- a row's numbers: there are nine, and all fit
pub record RightRow (numbers : List ℕ) : Type 0 where
  pub nine : length numbers ≡ 9
  pub fit : Every Fits numbers

-- an event's numbers: all fit, there are four places for values, at most four values, and the places past the values hold 0
pub record RightEvent (p n : ℕ) (values : List ℕ) : Type 0 where
  pub fit : Every Fits (p ∷ values)
  pub four : length values ≡ 4
  pub few : n ≤ 4
  pub rest : (i : ℕ) → n ≤ i → get_or values i 0 ≡ 0

-- the lines that may be written: the numbers fit, and C is at most 512
abbrev pub Right : Line → Type 0
Right (Sizes k c) = Fits k × (c ≤ 512)
Right (Row numbers) = RightRow numbers
Right (Event p n values) = RightEvent p n values

-- l is a right line, and the bytes are its text
pub record Written (bytes : List ℕ) (l : Line) : Type 0 where
  pub right : Right l
  pub shown : bytes ≡ text l

-- the bytes are the text of no right line
pub record NoLine (bytes : List ℕ) : Type 0 where
  pub none : (l : Line) → Written bytes l → ⊥

-- what reading the bytes must answer: the line that they are the text of, or none where they are the text of no right line
abbrev pub Reads : List ℕ → Option Line → Type 0
Reads bytes (Some l) = Written bytes l
Reads bytes None = NoLine bytes

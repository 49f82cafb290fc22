-- The lines of the output, as bytes, and what it is to put bytes into a slice. Assumes nothing: these are definitions.
use Rattle.std.specs.Prelude.{ℕ, ◌+◌, ◌≤◌, ◌≡◌, Bool, true, false, Option, None, Some, List, [], ◌∷◌, ◌++◌, length, take, drop}
use Rattle.lines.specs.Numeral.{numeral}
use Rattle.lines.specs.Format.{spaced}
use Rattle.meaning.specs.declared.Answer.{Answer}
use Rattle.meaning.specs.declared.Answer.TheVariants.{Started, Verdict, Refused}
use Rattle.answers.specs.declared.Said.{Said}
use Rattle.answers.specs.declared.Said.TheVariants.{Bad, NoStart, Event}
use Rattle.answers.specs.declared.Told.{Told}

-- the text was put from place `at` on: the bytes before it are as they were, it stands behind them, `next` is the place past it, and the bytes from
-- there on are as they were
pub record Put (before : List ℕ) (at : ℕ) (text after : List ℕ) (next : ℕ) : Type 0 where
  pub past : next ≡ at + length text
  pub inside : next ≤ length after
  pub shown : take next after ≡ take at before ++ text
  pub rest : drop next after ≡ drop next before

-- `event verdict kept room` and a line end
abbrev pub header : List ℕ
header =
    101 ∷ 118 ∷ 101 ∷ 110 ∷ 116 ∷ 32 ∷ 118 ∷ 101 ∷ 114 ∷ 100 ∷ 105 ∷ 99 ∷ 116 ∷ 32 ∷ 107 ∷ 101 ∷ 112 ∷ 116 ∷ 32 ∷ 114 ∷ 111 ∷ 111 ∷ 109 ∷ 10 ∷ []

-- `bad line` and a line end
abbrev pub bad_line : List ℕ
bad_line = 98 ∷ 97 ∷ 100 ∷ 32 ∷ 108 ∷ 105 ∷ 110 ∷ 101 ∷ 10 ∷ []

-- a word, two numbers, each after a space, and a line end
unfoldable pub word_line : List ℕ → ℕ → ℕ → List ℕ
word_line word a b = word ++ (spaced (a ∷ b ∷ []) ++ (10 ∷ []))

-- `no start`, a number and a place
unfoldable pub no_start : ℕ → ℕ → List ℕ
no_start number place = word_line (110 ∷ 111 ∷ 32 ∷ 115 ∷ 116 ∷ 97 ∷ 114 ∷ 116 ∷ []) number place

-- a verdict after a space: ` yes` or ` no`
abbrev pub word : Bool → List ℕ
word true = 32 ∷ 121 ∷ 101 ∷ 115 ∷ []
word false = 32 ∷ 110 ∷ 111 ∷ []

-- what follows the ordinal: a verdict, the kept nodes and the room; or ` refused`, a number and a place. An event is not answered by `Started`.
unfoldable pub answered : Answer → List ℕ
answered (Verdict holds kept room) = word_line (word holds) kept room
answered (Refused number place) = word_line (32 ∷ 114 ∷ 101 ∷ 102 ∷ 117 ∷ 115 ∷ 101 ∷ 100 ∷ []) number place
answered Started = 10 ∷ []

-- the line of an event: its ordinal and its answer
unfoldable pub answer_line : ℕ → Answer → List ℕ
answer_line ordinal answer = numeral ordinal ++ answered answer

-- the header, where it is asked for
abbrev pub headed : Bool → List ℕ
headed true = header
headed false = []

-- what is said of a line of the input
unfoldable pub said_line : Option Said → List ℕ
said_line None = []
said_line (Some Bad) = bad_line
said_line (Some (NoStart number place)) = no_start number place
said_line (Some (Event ordinal answer)) = answer_line ordinal answer

-- all that is put out for a line of the input
unfoldable pub told_lines : Told → List ℕ
told_lines t = headed t.header ++ said_line t.said

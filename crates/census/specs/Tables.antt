-- Names by where they stand in the text. Assumes nothing: these are definitions.
use Rattle.std.specs.Prelude.{ℕ, ◌+◌, ◌≤◌, ◌<◌, ◌≡◌, Bool, true, false, ◌&&◌, ◌||◌, List, [], ◌∷◌, eqb, length, take, drop, get_or, Option, Some, None}
use Rattle.text.specs.Unfold.{number_in}
use Rattle.census.specs.declared.spans.Span.{Span}

-- the names at the spans
unfoldable pub names_at : List ℕ → List Span → List (List ℕ)
names_at text [] = []
names_at text (s ∷ ss) = take s.length (drop s.start text) ∷ names_at text ss

-- the span past the end of a table
abbrev pub nowhere : Span
nowhere = record { start = 0; length = 0 }

-- the spans are in the text
pub record Table (text : List ℕ) (spans : List Span) : Type 0 where
  pub inside : (k : ℕ) → k < length spans → (get_or spans k nowhere).start + (get_or spans k nowhere).length ≤ length text

-- a run of bytes of the text
pub record Within (text : List ℕ) (from past : ℕ) : Type 0 where
  pub order : from ≤ past
  pub inside : past ≤ length text

-- the number of a name among names, or none where it is none of them
abbrev pub Found : List (List ℕ) → List ℕ → Option ℕ → Type 0
Found ns x None = number_in ns x ≡ length ns
Found ns x (Some i) = (i ≡ number_in ns x) × (i < length ns)

-- a name where it is asked for
unfoldable pub asked_for : Bool → List ℕ → List (List ℕ)
asked_for true x = x ∷ []
asked_for false x = []

-- a word by number is a predicate, or a variable
unfoldable pub name_code : Bool → ℕ → ℕ → Bool
name_code true mode word = eqb word 0 && eqb mode 0
name_code false mode word = eqb word 0 && (eqb mode 3 || eqb mode 5)

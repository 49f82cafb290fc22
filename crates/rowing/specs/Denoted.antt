-- The rows of a table, and the rows that they denote: at most 64, or more. Assumes nothing: these are definitions.
use Rattle.std.specs.Prelude.{ℕ, ◌<◌, ◌≡◌, List, length, Option, Some, None}
use Rattle.meaning.specs.Rows.{Row}
use Rattle.text.specs.Parts.{nine}
use Rattle.text.specs.Emit.{Rowed, make_row, negated}

-- the table denotes rows: these; or, where there is no answer, more than 64
abbrev pub Holds : {A : Type 0} → List (List ℕ) → Option A → List (List ℕ) → Type 0
Holds table (Some x) rows = table ≡ rows
Holds table None rows = 64 < length rows

-- with a row
abbrev pub Denotes : List (List ℕ) → Option ℕ → Rowed → Type 0
Denotes table (Some row) m = record { rows = table; row = row } ≡ m
Denotes table None m = 64 < length m.rows

-- a row is found or made
abbrev pub Makes : List (List ℕ) → List ℕ → List (List ℕ) → Option ℕ → Type 0
Makes table nine table' row = Denotes table' row (make_row table nine)

-- rows and a row are turned into others
abbrev pub Turns : (Rowed → Rowed) → List (List ℕ) → ℕ → List (List ℕ) → Option ℕ → Type 0
Turns turn table row table' row' = Denotes table' row' (turn (record { rows = table; row = row }))

-- the negation of a row that is found or made
abbrev pub Denies : List (List ℕ) → Row → List (List ℕ) → Option ℕ → Type 0
Denies table row table' row' = Denotes table' row' (negated (make_row table (nine row)))

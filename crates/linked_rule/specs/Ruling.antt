-- The answer as numbers, and what the call gives back and leaves, for all input. Assumes nothing: these are definitions.
use Rattle.std.specs.Prelude.{ℕ, ◌≤◌, ◌≡◌, Bool, true, false, List, [], ◌∷◌, ◌++◌, length, map, replicate, Result, Ok, Err}
use Rattle.census.specs.declared.spans.Span.{Span}
use Rattle.translate.specs.declared.Translation.{Translation}
use Rattle.translate.specs.declared.refusals.Refusal.{Refusal}
use Rattle.translate.specs.Refusals.{number_of, place_of}
use Rattle.translate.specs.Translated.{Translated}

-- places, and behind them lengths
unfoldable pub places : List Span → List ℕ
places spans = map (λ s. s.start) spans ++ map (λ s. s.length) spans

-- a refusal's number and place, or the counts of rows, predicates and variables
unfoldable pub packed_told : Result Translation Refusal → List ℕ
packed_told (Err r) = number_of r ∷ place_of r ∷ 0 ∷ 0 ∷ 0 ∷ []
packed_told (Ok t) = 0 ∷ 0 ∷ t.rows ∷ t.predicates ∷ t.variables ∷ []

-- the places and lengths of predicates, and of variables; zeros after a refusal
unfoldable pub packed_names : Result Translation Refusal → List ℕ
packed_names (Err r) = replicate 136 0
packed_names (Ok t) = places t.predicate_names ++ places t.variable_names

-- 141 numbers: five, then the names
unfoldable pub packed : Result Translation Refusal → List ℕ
packed told = packed_told told ++ packed_names told

-- what is told fits into 32 bits, and the names into their places
abbrev pub Small : Result Translation Refusal → Type 0
Small (Err r) = place_of r ≤ 4096
Small (Ok t) = (t.rows ≤ 64) × (t.predicates ≤ 64) × (t.variables ≤ 4) × (length t.predicate_names ≡ 64) × (length t.variable_names ≡ 4)

-- what a call that is made leaves: an outcome of the call on slices, as numbers
pub record Ruled (text rows rows' answer' : List ℕ) : Type 0 where
  pub told : Result Translation Refusal
  pub translated : Translated text rows rows' told
  pub answer_is : answer' ≡ packed told

pub record LinkedRule (text rows answer : List ℕ) (r : Bool) (rows' answer' : List ℕ) : Type 0 where
  pub made : length answer ≡ 141 → (r ≡ true) × Ruled text rows rows' answer'
  pub unmade : (length answer ≡ 141 → ⊥) → (r ≡ false) × (rows' ≡ rows) × (answer' ≡ answer)

-- What the call promises, in the words of the crate text. Assumes nothing: these are definitions.
use Rattle.std.specs.Prelude.{ℕ, ◌-◌, ◌≤◌, ◌≡◌, true, false, List, ◌++◌, length, take, drop, replicate, Result, Ok, Err}
use Rattle.text.specs.Grammar.{Reading, RuleText}
use Rattle.text.specs.Unfold.{atoms}
use Rattle.text.specs.Translate.{refuses, makes, any_atom, too_large, too_many, Says}
use Rattle.census.specs.declared.spans.Span.{Span}
use Rattle.census.specs.Tables.{nowhere, names_at, Table}
use Rattle.drive.specs.Driving.{Passed}
use Rattle.translate.specs.declared.Translation.{Translation}
use Rattle.translate.specs.declared.refusals.Refusal.{Refusal}
use Rattle.translate.specs.declared.refusals.Refusal.TheVariants.{LargeConstant, ManyArguments}
use Rattle.translate.specs.Refusals.{number_of, place_of}

-- what is at the start of a slice of n, and the rest
unfoldable pub laid : {A : Type 0} → A → ℕ → List A → List A
laid rest n xs = xs ++ replicate (n - length xs) rest

-- the first n of m spans are in the text, and the others are nowhere
pub record Named (text : List ℕ) (spans : List Span) (n m : ℕ) : Type 0 where
  pub here : n ≤ length spans
  pub table : Table text (take n spans)
  pub rest : drop n spans ≡ replicate (m - n) nowhere

-- the answer, and the row slice: as it was after a refusal; else the answer's, with the names where the places say
abbrev pub Translated : List ℕ → List ℕ → List ℕ → Result Translation Refusal → Type 0
Translated text before after (Err r) = Says (length before) text (refuses (number_of r) (place_of r)) × (after ≡ before)
Translated text before after (Ok t) =
    Says (length before) text (makes after t.rows (names_at text (take t.predicates t.predicate_names)) (names_at text (take t.variables t.variable_names)))
    × Named text t.predicate_names t.predicates 64 × Named text t.variable_names t.variables 4

-- refusals 4 and 5, or neither
abbrev pub Limits : {A : Type 0} → List ℕ → Result A Refusal → Type 0
Limits text (Ok x) = Passed text
Limits text (Err LargeConstant) = (f : Reading) → RuleText text f → any_atom (λ a. too_large a.terms) (atoms f) ≡ true
Limits text (Err ManyArguments) =
    ((f : Reading) → RuleText text f → any_atom (λ a. too_large a.terms) (atoms f) ≡ false)
    × ((f : Reading) → RuleText text f → any_atom (λ a. too_many a.terms) (atoms f) ≡ true)
Limits text (Err r) = ⊥

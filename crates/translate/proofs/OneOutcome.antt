-- Two outcomes that keep the call's promise are the same: the answer, the row slice and the names. Assumes nothing.
use Prim.Native.Nat.{ℕ}
use native.Mathlib.Omega.{arith}
use mathlib.Core.Path.{◌≡◌, refl, sym, ap, ◌∙◌}
use mathlib.Core.List.{List, [], ◌∷◌}
use lib.ListN.{length, take, get_or}
use lib.Seq.{length-take-le}
use Rattle.std.specs.Prelude.{Result, Ok, Err}
use Rattle.text.specs.Translate.{refuses, makes}
use Rattle.text.proofs.Theorems.{one_answer}
use Rattle.census.specs.declared.spans.Span.{Span}
use Rattle.census.specs.Tables.{names_at}
use Rattle.census.proofs.TableLaws.{table_length}
use Rattle.translate.specs.declared.Translation.{Translation}
use Rattle.translate.specs.declared.refusals.Refusal.{Refusal}
use Rattle.translate.specs.declared.refusals.Refusal.TheVariants.{WrongSlice, TooLong, NoText, LargeConstant, ManyArguments, ManyVariables, TwoCounts, FreeVariable, ManyRows}
use Rattle.translate.specs.Refusals.{number_of, place_of}
use Rattle.translate.specs.Translated.{Named, Translated}

-- what an outcome tells: its refusal, or how many rows, predicates and variables there are
abbrev pub told_in : Result Translation Refusal → Result (ℕ × ℕ × ℕ) Refusal
told_in (Err r) = Err r
told_in (Ok t) = Ok (t.rows, t.predicates, t.variables)

-- the names that an outcome tells
abbrev predicates_in : List ℕ → Result Translation Refusal → List (List ℕ)
predicates_in text (Err r) = []
predicates_in text (Ok t) = names_at text (take t.predicates t.predicate_names)

abbrev variables_in : List ℕ → Result Translation Refusal → List (List ℕ)
variables_in text (Err r) = []
variables_in text (Ok t) = names_at text (take t.variables t.variable_names)

pub record Same (text after after' : List ℕ) (o o' : Result Translation Refusal) : Type 0 where
  pub told : told_in o ≡ told_in o'
  pub rows : after ≡ after'
  pub predicates : predicates_in text o ≡ predicates_in text o'
  pub variables : variables_in text o ≡ variables_in text o'

-- a refusal is known by its number and place
refusal_at : ℕ → ℕ → Refusal
refusal_at n i = get_or (WrongSlice ∷ WrongSlice ∷ TooLong ∷ NoText i ∷ LargeConstant ∷ ManyArguments ∷ ManyVariables ∷ TwoCounts ∷ FreeVariable ∷ ManyRows ∷ []) n WrongSlice

back : (r : Refusal) → refusal_at (number_of r) (place_of r) ≡ r
unfolding refusal_at
back WrongSlice = refl
back TooLong = refl
back (NoText i) = refl
back LargeConstant = refl
back ManyArguments = refl
back ManyVariables = refl
back TwoCounts = refl
back FreeVariable = refl
back ManyRows = refl

same_refusal : (r s : Refusal) → number_of r ≡ number_of s → place_of r ≡ place_of s → r ≡ s
same_refusal r s e f = sym (back r) ∙ ap (λ (n : ℕ). refusal_at n (place_of r)) e ∙ ap (refusal_at (number_of s)) f ∙ back s

count_same : (text : List ℕ) (ss ss' : List Span) (p p' m : ℕ) → Named text ss p m → Named text ss' p' m → names_at text (take p ss) ≡ names_at text (take p' ss') → p ≡ p'
count_same text ss ss' p p' m n n' e =
    omega (arith, ap length e, table_length text (take p ss), table_length text (take p' ss'), length-take-le p ss n.here, length-take-le p' ss' n'.here)

pub one_outcome : (text before after after' : List ℕ) (o o' : Result Translation Refusal) → Translated text before after o → Translated text before after' o' → Same text after after' o o'
one_outcome text before after after' (Err r) (Err s) x y =
    let e : refuses (number_of r) (place_of r) ≡ refuses (number_of s) (place_of s) = one_answer x.0 y.0 in
    let a : number_of r ≡ number_of s = cc in
    let b : place_of r ≡ place_of s = cc in
    record { told = ap Err (same_refusal r s a b); rows = x.1 ∙ sym y.1; predicates = refl; variables = refl }
one_outcome text before after after' (Err r) (Ok t) x y =
    let e : refuses (number_of r) (place_of r) ≡ makes after' t.rows (names_at text (take t.predicates t.predicate_names)) (names_at text (take t.variables t.variable_names)) = one_answer x.0 y.0 in
    let z : ◌≡◌ {A = ℕ} 0 1 = cc in
    absurd (omega arith)
one_outcome text before after after' (Ok t) (Err r) x y =
    let e : makes after t.rows (names_at text (take t.predicates t.predicate_names)) (names_at text (take t.variables t.variable_names)) ≡ refuses (number_of r) (place_of r) = one_answer x.0 y.0 in
    let z : ◌≡◌ {A = ℕ} 0 1 = cc in
    absurd (omega arith)
one_outcome text before after after' (Ok t) (Ok u) x y =
    let e : makes after t.rows (names_at text (take t.predicates t.predicate_names)) (names_at text (take t.variables t.variable_names))
    ≡ makes after' u.rows (names_at text (take u.predicates u.predicate_names)) (names_at text (take u.variables u.variable_names)) = one_answer x.0 y.0 in
    let a : after ≡ after' = cc in
    let b : t.rows ≡ u.rows = cc in
    let c : names_at text (take t.predicates t.predicate_names) ≡ names_at text (take u.predicates u.predicate_names) = cc in
    let d : names_at text (take t.variables t.variable_names) ≡ names_at text (take u.variables u.variable_names) = cc in
    let f : t.predicates ≡ u.predicates = count_same text t.predicate_names u.predicate_names t.predicates u.predicates 64 x.1 y.1 c in
    let g : t.variables ≡ u.variables = count_same text t.variable_names u.variable_names t.variables u.variables 4 x.2 y.2 d in
    record { told = rw (b, f, g) refl; rows = a; predicates = c; variables = d }

-- What a text translates to: the rows, or a refusal with its place. Part of the meaning: no machine reads here.
-- Assumes nothing: these are definitions.
use Rattle.std.specs.Prelude.{ℕ, ◌-◌, ◌≤◌, ◌<◌, ◌≡◌, Bool, true, false, not, ◌||◌, List, [], ◌∷◌, ◌++◌, eqb, ltb, leb, length, replicate}
use Rattle.trees.specs.Kept.{all_below}
use Rattle.meaning.specs.Qtl.{Formula, free}
use Rattle.text.specs.Words.{same}
use Rattle.text.specs.Grammar.{Term, variable, digits, Reading, RuleText, Place}
use Rattle.text.specs.Unfold.{Atom, value_after, atoms, predicate_names, variable_names, formula_of}
use Rattle.text.specs.Parts.{rows_of, numbers}

-- the test holds of some atom
unfoldable pub any_atom : (Atom → Bool) → List Atom → Bool
any_atom t [] = false
any_atom t (a ∷ more) = t a || any_atom t more

-- refusal 4: "a constant over 2^32 − 1"
unfoldable pub too_large : List Term → Bool
too_large [] = false
too_large (variable x ∷ gs) = too_large gs
too_large (digits ds ∷ gs) = ltb 4294967295 (value_after 0 ds) || too_large gs

-- refusal 5: "an atom of more than 3 arguments"
unfoldable pub too_many : List Term → Bool
too_many gs = ltb 3 (length gs)

-- the count of arguments of the first atom with the name
unfoldable pub count_of : List Atom → List ℕ → ℕ
count_of [] p = 0
count_of (a ∷ more) p = elim (same a.called p) [ true ↦ length a.terms | false ↦ count_of more p ]

-- refusal 7: "one name with two counts"
unfoldable pub clashes : List Atom → Bool
clashes all = any_atom (λ a. not (eqb (length a.terms) (count_of all a.called))) all

-- refusal 8: "a free variable"
unfoldable pub sentence : Formula → Bool
sentence f = all_below 4 (λ v. not (free f v))

-- the rows in a slice of 576 numbers: "The rest of the row slice is 0"
unfoldable pub padded : List ℕ → List ℕ
padded ns = ns ++ replicate (576 - length ns) 0

-- what comes back: a refusal with its number and place; or the numbers of the row slice, how many rows there are, and the names
-- of predicates and of variables in order of their numbers
pub data Answer : Type 0 where
  refuses : ℕ → ℕ → Answer
  makes : List ℕ → ℕ → List (List ℕ) → List (List ℕ) → Answer

-- "Refusals 1 to 9, place 0 but in 3 .. in this order"
unfoldable pub judge_reading : Bool → Bool → Bool → Bool → Bool → Bool → Reading → Answer
judge_reading true many vars clash closed few f = refuses 4 0
judge_reading false true vars clash closed few f = refuses 5 0
judge_reading false false false clash closed few f = refuses 6 0
judge_reading false false true true closed few f = refuses 7 0
judge_reading false false true false false few f = refuses 8 0
judge_reading false false true false true false f = refuses 9 0
judge_reading false false true false true true f =
    makes (padded (numbers (rows_of (formula_of f)))) (length (rows_of (formula_of f))) (predicate_names f) (variable_names f)

unfoldable pub answer_of : Reading → Answer
answer_of f =
    judge_reading (any_atom (λ a. too_large a.terms) (atoms f)) (any_atom (λ a. too_many a.terms) (atoms f))
    (leb (length (variable_names f)) 4) (clashes (atoms f)) (sentence (formula_of f)) (leb (length (rows_of (formula_of f))) 64) f

-- "Refusals 1 to 9 .. in this order: row slice not of 576 numbers; text over 4,096 bytes; the place of the first byte (or the end) at
-- which no rule text can go on; ..": what a row slice of so many numbers and a text are answered with
pub data Says (size : ℕ) (bytes : List ℕ) : Answer → Type 0 where
  wrong_slice : (size ≡ 576 → ⊥) → Says size bytes (refuses 1 0)
  too_long : size ≡ 576 → 4096 < length bytes → Says size bytes (refuses 2 0)
  no_text : size ≡ 576 → length bytes ≤ 4096 → ((f : Reading) → RuleText bytes f → ⊥) → (i : ℕ) → Place bytes i → Says size bytes (refuses 3 i)
  a_text : size ≡ 576 → length bytes ≤ 4096 → (f : Reading) → RuleText bytes f → Says size bytes (answer_of f)

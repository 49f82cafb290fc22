-- What the check of a rule and the question about an event's counts promise, for all input. Assumes nothing: these are definitions.
use Rattle.std.specs.Prelude.{ℕ, min, ◌+◌, ◌*◌, ◌≤◌, ◌<◌, ◌≡◌, Bool, not, ◌&&◌, List, Result, Ok, Err, eqb, ltb, length, get_or}
use Rattle.trees.specs.Kept.{all_below}
use Rattle.meaning.specs.declared.Event.{Event}
use Rattle.meaning.specs.declared.Fact.{Fact as Given}
use Rattle.meaning.specs.Qtl.{free}
use Rattle.meaning.specs.Rows.{field, pair_right, disagree, count_of_rows, rule_of, formula_at, Found, right, fault, check_rows}
use Rattle.meaning.specs.Outcome.{fact_right, count_right}
use Rattle.rule.specs.declared.Fault.{Fault}
use Rattle.rule.specs.Masks.{has_bit}

-- the three pairs of the row at place i, of which the first n are used
unfoldable pub pairs_right : List ℕ → ℕ → ℕ → Bool
pairs_right raw i n = all_below 3 (λ j. pair_right (ltb j n) (field raw i (3 + 2 * j)) (field raw i (4 + 2 * j)))

-- the row at place i disagrees with no earlier one
unfoldable pub agrees_before : List ℕ → ℕ → Bool
agrees_before raw i = all_below i (λ j. not (disagree raw i j))

-- the row at place i is an atom of the predicate p
unfoldable pub atom_of : List ℕ → ℕ → ℕ → Bool
atom_of raw i p = eqb (field raw i 0) 2 && eqb p (field raw i 1)

-- the row at place i is an atom of the predicate p, and has not n arguments
unfoldable pub other_count : List ℕ → ℕ → ℕ → ℕ → Bool
other_count raw i p n = atom_of raw i p && not (eqb (min (field raw i 2) 3) n)

-- what the check found
unfoldable pub found_of : Result (List ℕ) Fault → Found
found_of (Ok masks) = right
found_of (Err f) = fault f.row

-- the free variables of each row of a right rule
pub record Free (raw masks : List ℕ) : Type 0 where
  pub small : (i : ℕ) → get_or masks i 0 < 16
  pub bits : (i v : ℕ) → i < count_of_rows raw → v < 4 → has_bit (get_or masks i 0) v ≡ free (formula_at (rule_of raw) i) v
  pub rest : (i : ℕ) → count_of_rows raw ≤ i → get_or masks i 0 ≡ 0

-- the check of a rule: of a right one the free variables of each row, and of a faulty one the row of its first fault and no masks
abbrev pub Checks : List ℕ → Result (List ℕ) Fault → Type 0
Checks raw (Ok masks) = (check_rows raw ≡ right) × (length masks ≡ 64) × Free raw masks
Checks raw (Err f) = check_rows raw ≡ fault f.row

-- the answer for a fact of this predicate and count
pub record FactAgrees (raw : List ℕ) (predicate count : ℕ) (r : Bool) : Type 0 where
  pub each : (f : Given) → f.predicate ≡ predicate → f.count ≡ count → r ≡ fact_right (rule_of raw) f

-- the answer for an event
abbrev pub Agrees : List ℕ → Event → Bool → Type 0
Agrees raw e r = r ≡ count_right (rule_of raw) e

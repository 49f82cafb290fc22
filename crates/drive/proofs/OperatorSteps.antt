-- A word where an operator must come, by its kind. Assumes nothing.
use Prim.Native.Nat.{ℕ, ◌<◌}
use lib.ListN.{length}
use mathlib.Core.Path.{◌≡◌, refl}
use mathlib.Core.List.{List}
use Rattle.std.specs.Prelude.{Option, Some}
use Rattle.text.specs.Words.{Binary, sinces, ands, ors, implies, bytes_of}
use Rattle.text.specs.Held.{Held, Waiting}
use Rattle.spelling.specs.declared.kinds.Kind.{Kind}
use Rattle.spelling.specs.declared.kinds.Kind.TheVariants.{Name, Constant, True, False, Once, Historically, Before, Not, Since, And, Or, Implies, Forall, Exists, Open, Close, Comma, Dot}
use Rattle.spelling.specs.Kinds.{kind_code}
use Rattle.rowing.specs.Stacking.{Leaves, Pushes, Shuts}
use Rattle.drive.specs.Drives.{waiting, at_operator}
use Rattle.drive.specs.Driving.{state, Operates, Joins}
use Rattle.drive.proofs.CodedLaws.{coded, word_is}

-- an operator waits, and there is no last row
pub joins_over : (w : Waiting) → 64 < length w.rows → 64 < length (waiting w).last.rows
unfolding waiting
joins_over w h = h

pub joins_made : (o : Binary) (table : List (List ℕ)) (row : ℕ) (stack : List Held) (table' : List (List ℕ)) (stack' : List Held) (x : Unit {0})
    → Pushes o table row stack table' (Some x) stack' → Joins o table row stack table' (Some 0) stack'
unfolding waiting
joins_made o table row stack table' stack' x p = rw (← p) refl

module _ (table : List (List ℕ)) (row : ℕ) (stack : List Held) where
  -- the word with the number
  by_code : (code : ℕ) (table' : List (List ℕ)) (row' : Option ℕ) (stack' : List Held) → ((bs : List ℕ) → Leaves table' row' stack' (at_operator (coded code bs) (state table row stack)))
      → Operates code table row stack table' row' stack'
  by_code code table' row' stack' k w e = rw (word_is w code code e refl) (k (bytes_of w))

  module _ (table' : List (List ℕ)) (row' : Option ℕ) (stack' : List Held) where
    pub operator_since : Joins sinces table row stack table' row' stack' → Operates 8 table row stack table' row' stack'
    unfolding coded at_operator
    operator_since j = by_code 8 table' row' stack' (λ bs. j)

    pub operator_and : Joins ands table row stack table' row' stack' → Operates 9 table row stack table' row' stack'
    unfolding coded at_operator
    operator_and j = by_code 9 table' row' stack' (λ bs. j)

    pub operator_or : Joins ors table row stack table' row' stack' → Operates 10 table row stack table' row' stack'
    unfolding coded at_operator
    operator_or j = by_code 10 table' row' stack' (λ bs. j)

    pub operator_implies : Joins implies table row stack table' row' stack' → Operates 11 table row stack table' row' stack'
    unfolding coded at_operator
    operator_implies j = by_code 11 table' row' stack' (λ bs. j)

    pub operator_shut : Shuts table row stack table' row' stack' → Operates 15 table row stack table' row' stack'
    unfolding coded at_operator
    operator_shut j = by_code 15 table' row' stack' (λ bs. j)

  -- any other word
  pub operator_other : (k : Kind) → (k ≡ Since → ⊥) → (k ≡ And → ⊥) → (k ≡ Or → ⊥) → (k ≡ Implies → ⊥) → (k ≡ Close → ⊥) → Operates (kind_code k) table row stack table (Some row) stack
  unfolding coded at_operator
  operator_other Name a b c d e = by_code 0 table (Some row) stack (λ bs. refl)
  operator_other Constant a b c d e = by_code 1 table (Some row) stack (λ bs. refl)
  operator_other True a b c d e = by_code 2 table (Some row) stack (λ bs. refl)
  operator_other False a b c d e = by_code 3 table (Some row) stack (λ bs. refl)
  operator_other Once a b c d e = by_code 4 table (Some row) stack (λ bs. refl)
  operator_other Historically a b c d e = by_code 5 table (Some row) stack (λ bs. refl)
  operator_other Before a b c d e = by_code 6 table (Some row) stack (λ bs. refl)
  operator_other Not a b c d e = by_code 7 table (Some row) stack (λ bs. refl)
  operator_other Since a b c d e = absurd (a refl)
  operator_other And a b c d e = absurd (b refl)
  operator_other Or a b c d e = absurd (c refl)
  operator_other Implies a b c d e = absurd (d refl)
  operator_other Forall a b c d e = by_code 12 table (Some row) stack (λ bs. refl)
  operator_other Exists a b c d e = by_code 13 table (Some row) stack (λ bs. refl)
  operator_other Open a b c d e = by_code 14 table (Some row) stack (λ bs. refl)
  operator_other Close a b c d e = absurd (e refl)
  operator_other Comma a b c d e = by_code 16 table (Some row) stack (λ bs. refl)
  operator_other Dot a b c d e = by_code 17 table (Some row) stack (λ bs. refl)

-- A word where an operand must come, by its kind. Assumes nothing.
use Prim.Native.Nat.{ℕ, ◌-◌, ◌<◌}
use mathlib.Core.Path.{◌≡◌, refl, sym}
use mathlib.Core.List.{List, ◌∷◌}
use lib.ListN.{length, take, drop}
use Rattle.std.specs.Prelude.{Option, Some, None}
use Rattle.meaning.specs.Rows
use Rattle.text.specs.Words.{Word, once, historically, previously, negation, universal, existential, bytes_of}
use Rattle.text.specs.Parts.{nine}
use Rattle.text.specs.Emit.{Rowed, make_row, negated}
use Rattle.text.specs.Held.{Held, mark, applies, quantifies}
use Rattle.spelling.specs.declared.kinds.Kind.{Kind}
use Rattle.spelling.specs.declared.kinds.Kind.TheVariants.{Name, Constant, True, False, Once, Historically, Before, Not, Since, And, Or, Implies, Forall, Exists, Open, Close, Comma, Dot}
use Rattle.spelling.specs.Kinds.{kind_code}
use Rattle.rowing.specs.Denoted.{Denotes, Makes, Turns}
use Rattle.rowing.specs.Stacking.{Leaves}
use Rattle.rowing.proofs.FrameLaws.{denied_over}
use Rattle.drive.specs.Drives.{stacked, rowed, with_true, at_operand}
use Rattle.drive.specs.Driving.{state, SlotAt, Atomic, Coming, Moves}
use Rattle.drive.proofs.CodedLaws.{coded, word_is}

-- a row is made, and the frames stay as they are
rowed_leaves : (table : List (List ℕ)) (row : ℕ) (stack : List Held) (table' : List (List ℕ)) (row' : Option ℕ) (m : Rowed) → Denotes table' row' m
    → Leaves table' row' stack (rowed m (state table row stack))
unfolding rowed
rowed_leaves table row stack table' (Some r) m d = rw d refl
rowed_leaves table row stack table' None m d = d

module _ (ps vs : List (List ℕ)) (text : List ℕ) (from past : ℕ) (table : List (List ℕ)) (row : ℕ) (stack : List Held) where
  -- the word with the number
  by_code : (code : ℕ) (table' : List (List ℕ)) (row' : Option ℕ) (stack' : List Held)
      → ((w : Word) (ws : List Word) → Coming vs text 0 code from past w ws → Leaves table' row' stack' (at_operand ps vs (coded code (bytes_of w)) ws (state table row stack)))
      → Moves vs (at_operand ps vs) text 0 code from past table row stack table' row' stack'
  by_code code table' row' stack' k w ws c = rw (word_is w code code c.code_is refl) (k w ws c)

  module _ (table' : List (List ℕ)) (row' : Option ℕ) where
    pub operand_name : Atomic ps vs text (take (past - from) (drop from text)) past table table' row' → Moves vs (at_operand ps vs) text 0 0 from past table row stack table' row' stack
    unfolding coded at_operand
    operand_name a = by_code 0 table' row' stack (λ w ws c. rowed_leaves table row stack table' row' _ (rw c.bytes_are at (a ws c.rest c.small (c.few refl (sym c.code_is)))))

    pub operand_true : Makes table (nine Rows.truth) table' row' → Moves vs (at_operand ps vs) text 0 2 from past table row stack table' row' stack
    unfolding coded at_operand with_true
    operand_true m = by_code 2 table' row' stack (λ w ws c. rowed_leaves table row stack table' row' (make_row table (nine Rows.truth)) m)

    pub operand_false : (table₁ : List (List ℕ)) (row₁ : ℕ) → Makes table (nine Rows.truth) table₁ (Some row₁) → Turns negated table₁ row₁ table' row'
        → Moves vs (at_operand ps vs) text 0 3 from past table row stack table' row' stack
    unfolding coded at_operand with_true rowed
    operand_false table₁ row₁ m t = by_code 3 table' row' stack (λ w ws c. unfold rowed in rowed_leaves table row stack table' row' (negated (make_row table (nine Rows.truth))) (rw m at t))

  module _ (table' : List (List ℕ)) where
    -- true has no row
    module _ (stack' : List Held) (h : 64 < length (make_row table (nine Rows.truth)).rows) where
      pub false_over : Moves vs (at_operand ps vs) text 0 3 from past table row stack table' None stack'
      unfolding coded at_operand with_true rowed
      false_over = by_code 3 table' None stack' (λ w ws c. denied_over (make_row table (nine Rows.truth)) h)

      pub once_over : Moves vs (at_operand ps vs) text 0 4 from past table row stack table' None stack'
      unfolding coded at_operand with_true rowed stacked
      once_over = by_code 4 table' None stack' (λ w ws c. h)

      pub historically_over : Moves vs (at_operand ps vs) text 0 5 from past table row stack table' None stack'
      unfolding coded at_operand with_true rowed stacked
      historically_over = by_code 5 table' None stack' (λ w ws c. h)

    module _ (row₁ : ℕ) (m : Makes table (nine Rows.truth) table' (Some row₁)) (q : Held) (stack' : List Held) (e : stack' ≡ q ∷ stack) where
      pub operand_once : q ≡ applies once row₁ → Moves vs (at_operand ps vs) text 0 4 from past table row stack table' (Some row₁) stack'
      unfolding coded at_operand with_true rowed stacked
      operand_once z = by_code 4 table' (Some row₁) stack' (λ w ws c. rw (← m, e, z) refl)

      pub operand_historically : q ≡ applies historically row₁ → Moves vs (at_operand ps vs) text 0 5 from past table row stack table' (Some row₁) stack'
      unfolding coded at_operand with_true rowed stacked
      operand_historically z = by_code 5 table' (Some row₁) stack' (λ w ws c. rw (← m, e, z) refl)

  module _ (q : Held) (stack' : List Held) (e : stack' ≡ q ∷ stack) where
    pub operand_before : q ≡ applies previously 0 → Moves vs (at_operand ps vs) text 0 6 from past table row stack table (Some row) stack'
    unfolding coded at_operand stacked
    operand_before z = by_code 6 table (Some row) stack' (λ w ws c. rw (e, z) refl)

    pub operand_not : q ≡ applies negation 0 → Moves vs (at_operand ps vs) text 0 7 from past table row stack table (Some row) stack'
    unfolding coded at_operand stacked
    operand_not z = by_code 7 table (Some row) stack' (λ w ws c. rw (e, z) refl)

    pub operand_open : q ≡ mark → Moves vs (at_operand ps vs) text 0 14 from past table row stack table (Some row) stack'
    unfolding coded at_operand stacked
    operand_open z = by_code 14 table (Some row) stack' (λ w ws c. rw (e, z) refl)

    module _ (v : ℕ) (a : SlotAt vs text past v) where
      pub operand_forall : q ≡ quantifies universal v → Moves vs (at_operand ps vs) text 0 12 from past table row stack table (Some row) stack'
      unfolding coded at_operand stacked
      operand_forall z = by_code 12 table (Some row) stack' (λ w ws c. rw (e, z, a.slot ws c.rest) refl)

      pub operand_exists : q ≡ quantifies existential v → Moves vs (at_operand ps vs) text 0 13 from past table row stack table (Some row) stack'
      unfolding coded at_operand stacked
      operand_exists z = by_code 13 table (Some row) stack' (λ w ws c. rw (e, z, a.slot ws c.rest) refl)

  -- no other word stands there
  pub operand_other : (k : Kind) → (k ≡ Name → ⊥) → (k ≡ True → ⊥) → (k ≡ False → ⊥) → (k ≡ Once → ⊥) → (k ≡ Historically → ⊥) → (k ≡ Before → ⊥) → (k ≡ Not → ⊥)
      → (k ≡ Forall → ⊥) → (k ≡ Exists → ⊥) → (k ≡ Open → ⊥) → Moves vs (at_operand ps vs) text 0 (kind_code k) from past table row stack table (Some row) stack
  unfolding coded at_operand
  operand_other Name a b c d e f g h i j = absurd (a refl)
  operand_other Constant a b c d e f g h i j = by_code 1 table (Some row) stack (λ w ws c. refl)
  operand_other True a b c d e f g h i j = absurd (b refl)
  operand_other False a b c d e f g h i j = absurd (c refl)
  operand_other Once a b c d e f g h i j = absurd (d refl)
  operand_other Historically a b c d e f g h i j = absurd (e refl)
  operand_other Before a b c d e f g h i j = absurd (f refl)
  operand_other Not a b c d e f g h i j = absurd (g refl)
  operand_other Since a b c d e f g h i j = by_code 8 table (Some row) stack (λ w ws c. refl)
  operand_other And a b c d e f g h i j = by_code 9 table (Some row) stack (λ w ws c. refl)
  operand_other Or a b c d e f g h i j = by_code 10 table (Some row) stack (λ w ws c. refl)
  operand_other Implies a b c d e f g h i j = by_code 11 table (Some row) stack (λ w ws c. refl)
  operand_other Forall a b c d e f g h i j = absurd (h refl)
  operand_other Exists a b c d e f g h i j = absurd (i refl)
  operand_other Open a b c d e f g h i j = absurd (j refl)
  operand_other Close a b c d e f g h i j = by_code 15 table (Some row) stack (λ w ws c. refl)
  operand_other Comma a b c d e f g h i j = by_code 16 table (Some row) stack (λ w ws c. refl)
  operand_other Dot a b c d e f g h i j = by_code 17 table (Some row) stack (λ w ws c. refl)

-- Where a word leads, by the table of modes: mode by mode and kind by kind. Assumes nothing.
use Prim.Native.Nat.{ℕ, suc, ◌<◌}
use native.Mathlib.Omega.{arith}
use mathlib.Core.Path.{◌≡◌, refl}
use mathlib.Core.Bool.{true, false}
use Rattle.text.specs.Words.{Word, name, number, constant, prefix, binary, quantifier, opening, closing, comma, dot, once, historically, previously, negation, sinces, ands, ors, implies, universal, existential}
use Rattle.text.specs.Shape.{Mode, operand, operator, call, slot, point, argument, separator, nowhere, halt, shut, next}
use Rattle.spelling.specs.Codes.{code_of, mode_number, nexts, next_mode, kind_of, mode_after}
use Rattle.spelling.proofs.KindLaws.{next_is}

-- modes have numbers below 8
pub mode_lt : (m : Mode) → mode_number m < 8
unfolding mode_number
mode_lt operand = omega arith
mode_lt operator = omega arith
mode_lt call = omega arith
mode_lt slot = omega arith
mode_lt point = omega arith
mode_lt argument = omega arith
mode_lt separator = omega arith
mode_lt nowhere = omega arith

-- no parenthesis
abbrev Plain : Word → Type 0
Plain (name x) = Unit {0}
Plain (number ds) = Unit {0}
Plain (constant b) = Unit {0}
Plain (prefix o) = Unit {0}
Plain (binary o) = Unit {0}
Plain (quantifier q) = Unit {0}
Plain opening = ⊥
Plain closing = ⊥
Plain comma = Unit {0}
Plain dot = Unit {0}

pub record Other (w : Word) : Type 0 where
  pub opened : code_of w ≡ 14 → ⊥
  pub closed : code_of w ≡ 15 → ⊥

plain_code : (w : Word) → Plain w → Other w
unfolding code_of
plain_code (name x) p = record { opened = λ e. omega arith; closed = λ e. omega arith }
plain_code (number ds) p = record { opened = λ e. omega arith; closed = λ e. omega arith }
plain_code (constant true) p = record { opened = λ e. omega arith; closed = λ e. omega arith }
plain_code (constant false) p = record { opened = λ e. omega arith; closed = λ e. omega arith }
plain_code (prefix once) p = record { opened = λ e. omega arith; closed = λ e. omega arith }
plain_code (prefix historically) p = record { opened = λ e. omega arith; closed = λ e. omega arith }
plain_code (prefix previously) p = record { opened = λ e. omega arith; closed = λ e. omega arith }
plain_code (prefix negation) p = record { opened = λ e. omega arith; closed = λ e. omega arith }
plain_code (binary sinces) p = record { opened = λ e. omega arith; closed = λ e. omega arith }
plain_code (binary ands) p = record { opened = λ e. omega arith; closed = λ e. omega arith }
plain_code (binary ors) p = record { opened = λ e. omega arith; closed = λ e. omega arith }
plain_code (binary implies) p = record { opened = λ e. omega arith; closed = λ e. omega arith }
plain_code (quantifier universal) p = record { opened = λ e. omega arith; closed = λ e. omega arith }
plain_code (quantifier existential) p = record { opened = λ e. omega arith; closed = λ e. omega arith }
plain_code opening p = absurd p
plain_code closing p = absurd p
plain_code comma p = record { opened = λ e. omega arith; closed = λ e. omega arith }
plain_code dot p = record { opened = λ e. omega arith; closed = λ e. omega arith }

tabled : (m : Mode) (w : Word) → next_mode (mode_number m) (code_of w) ≡ mode_after (mode_number m) w
tabled m w = next_is (mode_number m) w

-- what a word does: it stops; it opens a parenthesis, or arguments; it closes a parenthesis, or arguments; it goes on
pub data Rules (m : Mode) (d : ℕ) (w : Word) : Type 0 where
  stops : next_mode (mode_number m) (code_of w) ≡ 7 → next m d w ≡ halt → Rules m d w
  opens : next_mode (mode_number m) (code_of w) ≡ 0 → code_of w ≡ 14 → next m d w ≡ record { mode = operand; depth = suc d } → Rules m d w
  calls : next_mode (mode_number m) (code_of w) ≡ 5 → code_of w ≡ 14 → next m d w ≡ record { mode = argument; depth = d } → Rules m d w
  closes : next_mode (mode_number m) (code_of w) ≡ 1 → code_of w ≡ 15 → (mode_number m ≡ 6 → ⊥) → next m d w ≡ shut d → Rules m d w
  ends : next_mode (mode_number m) (code_of w) ≡ 1 → code_of w ≡ 15 → mode_number m ≡ 6 → next m d w ≡ record { mode = operator; depth = d } → Rules m d w
  goes : (k : Mode) → next_mode (mode_number m) (code_of w) ≡ mode_number k → (mode_number k ≡ 7 → ⊥) → Other w → next m d w ≡ record { mode = k; depth = d } → Rules m d w

pub rules : (m : Mode) (d : ℕ) (w : Word) → Rules m d w
unfolding next halt mode_number nexts kind_of mode_after code_of
rules operand d (name x) = goes call (tabled operand (name x)) (λ e. omega arith) (plain_code (name x) tt) refl
rules operand d (number ds) = stops (tabled operand (number ds)) refl
rules operand d (constant b) = goes operator (tabled operand (constant b)) (λ e. omega arith) (plain_code (constant b) tt) refl
rules operand d (prefix o) = goes operand (tabled operand (prefix o)) (λ e. omega arith) (plain_code (prefix o) tt) refl
rules operand d (binary o) = stops (tabled operand (binary o)) refl
rules operand d (quantifier q) = goes slot (tabled operand (quantifier q)) (λ e. omega arith) (plain_code (quantifier q) tt) refl
rules operand d opening = opens (tabled operand opening) refl refl
rules operand d closing = stops (tabled operand closing) refl
rules operand d comma = stops (tabled operand comma) refl
rules operand d dot = stops (tabled operand dot) refl
rules operator d (name x) = stops (tabled operator (name x)) refl
rules operator d (number ds) = stops (tabled operator (number ds)) refl
rules operator d (constant b) = stops (tabled operator (constant b)) refl
rules operator d (prefix o) = stops (tabled operator (prefix o)) refl
rules operator d (binary o) = goes operand (tabled operator (binary o)) (λ e. omega arith) (plain_code (binary o) tt) refl
rules operator d (quantifier q) = stops (tabled operator (quantifier q)) refl
rules operator d opening = stops (tabled operator opening) refl
rules operator d closing = closes (tabled operator closing) refl (λ e. omega arith) refl
rules operator d comma = stops (tabled operator comma) refl
rules operator d dot = stops (tabled operator dot) refl
rules call d (name x) = stops (tabled call (name x)) refl
rules call d (number ds) = stops (tabled call (number ds)) refl
rules call d (constant b) = stops (tabled call (constant b)) refl
rules call d (prefix o) = stops (tabled call (prefix o)) refl
rules call d (binary o) = goes operand (tabled call (binary o)) (λ e. omega arith) (plain_code (binary o) tt) refl
rules call d (quantifier q) = stops (tabled call (quantifier q)) refl
rules call d opening = calls (tabled call opening) refl refl
rules call d closing = closes (tabled call closing) refl (λ e. omega arith) refl
rules call d comma = stops (tabled call comma) refl
rules call d dot = stops (tabled call dot) refl
rules slot d (name x) = goes point (tabled slot (name x)) (λ e. omega arith) (plain_code (name x) tt) refl
rules slot d (number ds) = stops (tabled slot (number ds)) refl
rules slot d (constant b) = stops (tabled slot (constant b)) refl
rules slot d (prefix o) = stops (tabled slot (prefix o)) refl
rules slot d (binary o) = stops (tabled slot (binary o)) refl
rules slot d (quantifier q) = stops (tabled slot (quantifier q)) refl
rules slot d opening = stops (tabled slot opening) refl
rules slot d closing = stops (tabled slot closing) refl
rules slot d comma = stops (tabled slot comma) refl
rules slot d dot = stops (tabled slot dot) refl
rules point d (name x) = stops (tabled point (name x)) refl
rules point d (number ds) = stops (tabled point (number ds)) refl
rules point d (constant b) = stops (tabled point (constant b)) refl
rules point d (prefix o) = stops (tabled point (prefix o)) refl
rules point d (binary o) = stops (tabled point (binary o)) refl
rules point d (quantifier q) = stops (tabled point (quantifier q)) refl
rules point d opening = stops (tabled point opening) refl
rules point d closing = stops (tabled point closing) refl
rules point d comma = stops (tabled point comma) refl
rules point d dot = goes operand (tabled point dot) (λ e. omega arith) (plain_code dot tt) refl
rules argument d (name x) = goes separator (tabled argument (name x)) (λ e. omega arith) (plain_code (name x) tt) refl
rules argument d (number ds) = goes separator (tabled argument (number ds)) (λ e. omega arith) (plain_code (number ds) tt) refl
rules argument d (constant b) = stops (tabled argument (constant b)) refl
rules argument d (prefix o) = stops (tabled argument (prefix o)) refl
rules argument d (binary o) = stops (tabled argument (binary o)) refl
rules argument d (quantifier q) = stops (tabled argument (quantifier q)) refl
rules argument d opening = stops (tabled argument opening) refl
rules argument d closing = stops (tabled argument closing) refl
rules argument d comma = stops (tabled argument comma) refl
rules argument d dot = stops (tabled argument dot) refl
rules separator d (name x) = stops (tabled separator (name x)) refl
rules separator d (number ds) = stops (tabled separator (number ds)) refl
rules separator d (constant b) = stops (tabled separator (constant b)) refl
rules separator d (prefix o) = stops (tabled separator (prefix o)) refl
rules separator d (binary o) = stops (tabled separator (binary o)) refl
rules separator d (quantifier q) = stops (tabled separator (quantifier q)) refl
rules separator d opening = stops (tabled separator opening) refl
rules separator d closing = ends (tabled separator closing) refl refl refl
rules separator d comma = goes argument (tabled separator comma) (λ e. omega arith) (plain_code comma tt) refl
rules separator d dot = stops (tabled separator dot) refl
rules nowhere d (name x) = stops (tabled nowhere (name x)) refl
rules nowhere d (number ds) = stops (tabled nowhere (number ds)) refl
rules nowhere d (constant b) = stops (tabled nowhere (constant b)) refl
rules nowhere d (prefix o) = stops (tabled nowhere (prefix o)) refl
rules nowhere d (binary o) = stops (tabled nowhere (binary o)) refl
rules nowhere d (quantifier q) = stops (tabled nowhere (quantifier q)) refl
rules nowhere d opening = stops (tabled nowhere opening) refl
rules nowhere d closing = stops (tabled nowhere closing) refl
rules nowhere d comma = stops (tabled nowhere comma) refl
rules nowhere d dot = stops (tabled nowhere dot) refl

-- Words by number and by kind. Assumes nothing.
use Prim.Native.Nat.{ℕ, ◌+◌, ◌*◌, ◌<◌}
use native.Mathlib.Omega.{arith}
use mathlib.Core.Path.{◌≡◌, refl, ap}
use mathlib.Core.Bool.{true, false}
use lib.Dec.{eqb}
use lib.ListN.{get_or}
use Rattle.text.specs.Words.{Word, name, number, constant, prefix, binary, quantifier, opening, closing, comma, dot, once, historically, previously, negation, sinces, ands, ors, implies, universal, existential}
use Rattle.spelling.specs.Codes.{code_of, kinds, nexts, next_mode, kind_of, mode_after}

pub kind_is : (w : Word) → get_or kinds (code_of w) 0 ≡ kind_of w
unfolding kinds code_of kind_of
kind_is (name x) = refl
kind_is (number ds) = refl
kind_is (constant true) = refl
kind_is (constant false) = refl
kind_is (prefix once) = refl
kind_is (prefix historically) = refl
kind_is (prefix previously) = refl
kind_is (prefix negation) = refl
kind_is (binary sinces) = refl
kind_is (binary ands) = refl
kind_is (binary ors) = refl
kind_is (binary implies) = refl
kind_is (quantifier universal) = refl
kind_is (quantifier existential) = refl
kind_is opening = refl
kind_is closing = refl
kind_is comma = refl
kind_is dot = refl

-- words have numbers below 18
pub code_lt : (w : Word) → code_of w < 18
unfolding code_of
code_lt (name x) = omega arith
code_lt (number ds) = omega arith
code_lt (constant true) = omega arith
code_lt (constant false) = omega arith
code_lt (prefix once) = omega arith
code_lt (prefix historically) = omega arith
code_lt (prefix previously) = omega arith
code_lt (prefix negation) = omega arith
code_lt (binary sinces) = omega arith
code_lt (binary ands) = omega arith
code_lt (binary ors) = omega arith
code_lt (binary implies) = omega arith
code_lt (quantifier universal) = omega arith
code_lt (quantifier existential) = omega arith
code_lt opening = omega arith
code_lt closing = omega arith
code_lt comma = omega arith
code_lt dot = omega arith

-- the table of modes, by kind
pub next_is : (m : ℕ) (w : Word) → next_mode m (code_of w) ≡ mode_after m w
unfolding next_mode mode_after
next_is m w = ap (λ (k : ℕ). get_or nexts (m * 10 + k) 0) (kind_is w)

-- the words that are alone of their kind
pub name_kind : (w : Word) → eqb (code_of w) 0 ≡ eqb (kind_of w) 0
unfolding code_of kind_of
name_kind (name x) = refl
name_kind (number ds) = refl
name_kind (constant true) = refl
name_kind (constant false) = refl
name_kind (prefix once) = refl
name_kind (prefix historically) = refl
name_kind (prefix previously) = refl
name_kind (prefix negation) = refl
name_kind (binary sinces) = refl
name_kind (binary ands) = refl
name_kind (binary ors) = refl
name_kind (binary implies) = refl
name_kind (quantifier universal) = refl
name_kind (quantifier existential) = refl
name_kind opening = refl
name_kind closing = refl
name_kind comma = refl
name_kind dot = refl

pub number_kind : (w : Word) → eqb (code_of w) 1 ≡ eqb (kind_of w) 1
unfolding code_of kind_of
number_kind (name x) = refl
number_kind (number ds) = refl
number_kind (constant true) = refl
number_kind (constant false) = refl
number_kind (prefix once) = refl
number_kind (prefix historically) = refl
number_kind (prefix previously) = refl
number_kind (prefix negation) = refl
number_kind (binary sinces) = refl
number_kind (binary ands) = refl
number_kind (binary ors) = refl
number_kind (binary implies) = refl
number_kind (quantifier universal) = refl
number_kind (quantifier existential) = refl
number_kind opening = refl
number_kind closing = refl
number_kind comma = refl
number_kind dot = refl

pub opening_kind : (w : Word) → eqb (code_of w) 14 ≡ eqb (kind_of w) 6
unfolding code_of kind_of
opening_kind (name x) = refl
opening_kind (number ds) = refl
opening_kind (constant true) = refl
opening_kind (constant false) = refl
opening_kind (prefix once) = refl
opening_kind (prefix historically) = refl
opening_kind (prefix previously) = refl
opening_kind (prefix negation) = refl
opening_kind (binary sinces) = refl
opening_kind (binary ands) = refl
opening_kind (binary ors) = refl
opening_kind (binary implies) = refl
opening_kind (quantifier universal) = refl
opening_kind (quantifier existential) = refl
opening_kind opening = refl
opening_kind closing = refl
opening_kind comma = refl
opening_kind dot = refl

pub closing_kind : (w : Word) → eqb (code_of w) 15 ≡ eqb (kind_of w) 7
unfolding code_of kind_of
closing_kind (name x) = refl
closing_kind (number ds) = refl
closing_kind (constant true) = refl
closing_kind (constant false) = refl
closing_kind (prefix once) = refl
closing_kind (prefix historically) = refl
closing_kind (prefix previously) = refl
closing_kind (prefix negation) = refl
closing_kind (binary sinces) = refl
closing_kind (binary ands) = refl
closing_kind (binary ors) = refl
closing_kind (binary implies) = refl
closing_kind (quantifier universal) = refl
closing_kind (quantifier existential) = refl
closing_kind opening = refl
closing_kind closing = refl
closing_kind comma = refl
closing_kind dot = refl

pub comma_kind : (w : Word) → eqb (code_of w) 16 ≡ eqb (kind_of w) 8
unfolding code_of kind_of
comma_kind (name x) = refl
comma_kind (number ds) = refl
comma_kind (constant true) = refl
comma_kind (constant false) = refl
comma_kind (prefix once) = refl
comma_kind (prefix historically) = refl
comma_kind (prefix previously) = refl
comma_kind (prefix negation) = refl
comma_kind (binary sinces) = refl
comma_kind (binary ands) = refl
comma_kind (binary ors) = refl
comma_kind (binary implies) = refl
comma_kind (quantifier universal) = refl
comma_kind (quantifier existential) = refl
comma_kind opening = refl
comma_kind closing = refl
comma_kind comma = refl
comma_kind dot = refl

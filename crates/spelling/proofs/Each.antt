-- What holds of each kind of word holds of any, kinds with one number are one, and `==` compares numbers. Assumes nothing.
use Prim.Native.Nat.{ℕ, ◌<◌}
use native.Mathlib.Omega.{arith}
use mathlib.Core.Path.{◌≡◌, refl, sym, ap, ◌∙◌}
use mathlib.Core.List.{List, [], ◌∷◌}
use lib.ListN.{get_or}
use mathlib.Core.Bool.{Bool, true, false}
use borrow.Author.Tests.{eqb-true, eqb-false}
use lib.Dec.{eqb}
use denote.Enum.Bare.{sameb}
use denote.Enum.Declared.{tag_of}
use Rattle.spelling.specs.Kinds.{kind_code}
use Rattle.spelling.specs.Modes.{mode_code}
use Rattle.spelling.specs.contracts.kinds.Kind
use Rattle.spelling.specs.contracts.modes.Mode
use Rattle.spelling.specs.declared.modes.Mode.{Mode}
use Rattle.spelling.specs.declared.modes.Mode.TheVariants.{Operand, Operator, AfterName, Variable, AfterVariable, Argument, AfterArgument, Nothing}
use Rattle.spelling.specs.declared.kinds.Kind.{Kind}
use Rattle.spelling.specs.declared.kinds.Kind.TheVariants.{Name, Constant, True, False, Once, Historically, Before, Not, Since, And, Or, Implies, Forall, Exists, Open, Close, Comma, Dot}

pub each : (P : Kind → Type 0) → P Name → P Constant → P True → P False → P Once → P Historically → P Before → P Not → P Since → P And → P Or → P Implies → P Forall → P Exists → P Open → P Close → P Comma → P Dot → (k : Kind) → P k
each P a b c d e f g h i j k l m n o p q r Name = a
each P a b c d e f g h i j k l m n o p q r Constant = b
each P a b c d e f g h i j k l m n o p q r True = c
each P a b c d e f g h i j k l m n o p q r False = d
each P a b c d e f g h i j k l m n o p q r Once = e
each P a b c d e f g h i j k l m n o p q r Historically = f
each P a b c d e f g h i j k l m n o p q r Before = g
each P a b c d e f g h i j k l m n o p q r Not = h
each P a b c d e f g h i j k l m n o p q r Since = i
each P a b c d e f g h i j k l m n o p q r And = j
each P a b c d e f g h i j k l m n o p q r Or = k
each P a b c d e f g h i j k l m n o p q r Implies = l
each P a b c d e f g h i j k l m n o p q r Forall = m
each P a b c d e f g h i j k l m n o p q r Exists = n
each P a b c d e f g h i j k l m n o p q r Open = o
each P a b c d e f g h i j k l m n o p q r Close = p
each P a b c d e f g h i j k l m n o p q r Comma = q
each P a b c d e f g h i j k l m n o p q r Dot = r

in_order : List Kind
in_order = Name ∷ Constant ∷ True ∷ False ∷ Once ∷ Historically ∷ Before ∷ Not ∷ Since ∷ And ∷ Or ∷ Implies ∷ Forall ∷ Exists ∷ Open ∷ Close ∷ Comma ∷ Dot ∷ []

back : (k : Kind) → get_or in_order (kind_code k) Name ≡ k
unfolding in_order
back = each (λ k. get_or in_order (kind_code k) Name ≡ k) refl refl refl refl refl refl refl refl refl refl refl refl refl refl refl refl refl refl

pub kind_same : (j k : Kind) → kind_code j ≡ kind_code k → j ≡ k
kind_same j k e = sym (back j) ∙ ap (λ (n : ℕ). get_or in_order n Name) e ∙ back k

kind_tag : (k : Kind) → tag_of Kind.the_type k ≡ kind_code k
kind_tag = each (λ k. tag_of Kind.the_type k ≡ kind_code k) refl refl refl refl refl refl refl refl refl refl refl refl refl refl refl refl refl refl

pub kind_equal : (j k : Kind) → sameb Kind.the_type j k ≡ eqb (kind_code j) (kind_code k)
kind_equal j k = rw (kind_tag j, kind_tag k)

mode_tag : (m : Mode) → tag_of Mode.the_type m ≡ mode_code m
mode_tag Operand = refl
mode_tag Operator = refl
mode_tag AfterName = refl
mode_tag Variable = refl
mode_tag AfterVariable = refl
mode_tag Argument = refl
mode_tag AfterArgument = refl
mode_tag Nothing = refl

pub mode_equal : (l m : Mode) → sameb Mode.the_type l m ≡ eqb (mode_code l) (mode_code m)
mode_equal l m = rw (mode_tag l, mode_tag m)

-- what a test of a kind by `==` says of the numbers
pub kind_met : (j k : Kind) (r : Bool) → r ≡ sameb Kind.the_type j k → r ≡ true → kind_code j ≡ kind_code k
kind_met j k r e t = eqb-true (kind_code j) (kind_code k) (sym (kind_equal j k) ∙ sym e ∙ t)

pub kind_missed : (j k : Kind) (r : Bool) → r ≡ sameb Kind.the_type j k → r ≡ false → kind_code j ≡ kind_code k → ⊥
kind_missed j k r e t = eqb-false (kind_code j) (kind_code k) (sym (kind_equal j k) ∙ sym e ∙ t)

modes_in_order : List Mode
modes_in_order = Operand ∷ Operator ∷ AfterName ∷ Variable ∷ AfterVariable ∷ Argument ∷ AfterArgument ∷ Nothing ∷ []

mode_back : (m : Mode) → get_or modes_in_order (mode_code m) Operand ≡ m
unfolding modes_in_order
mode_back Operand = refl
mode_back Operator = refl
mode_back AfterName = refl
mode_back Variable = refl
mode_back AfterVariable = refl
mode_back Argument = refl
mode_back AfterArgument = refl
mode_back Nothing = refl

pub mode_same : (l m : Mode) → mode_code l ≡ mode_code m → l ≡ m
mode_same l m e = sym (mode_back l) ∙ ap (λ (n : ℕ). get_or modes_in_order n Operand) e ∙ mode_back m

pub mode_met : (l m : Mode) (r : Bool) → r ≡ sameb Mode.the_type l m → r ≡ true → mode_code l ≡ mode_code m
mode_met l m r e t = eqb-true (mode_code l) (mode_code m) (sym (mode_equal l m) ∙ sym e ∙ t)

pub mode_missed : (l m : Mode) (r : Bool) → r ≡ sameb Mode.the_type l m → r ≡ false → mode_code l ≡ mode_code m → ⊥
mode_missed l m r e t = eqb-false (mode_code l) (mode_code m) (sym (mode_equal l m) ∙ sym e ∙ t)

pub kind_lt : (k : Kind) → kind_code k < 18
kind_lt = each (λ k. kind_code k < 18) (omega arith) (omega arith) (omega arith) (omega arith) (omega arith) (omega arith) (omega arith) (omega arith) (omega arith) (omega arith) (omega arith) (omega arith) (omega arith) (omega arith) (omega arith) (omega arith) (omega arith) (omega arith)

-- `words::next_word` meets its contract, by the class of the first byte. Assumes nothing.
use Prim.Native.Nat.{◌≤◌}
use native.Mathlib.Omega.{arith}
use mathlib.Core.Path.{◌≡◌, refl, ap}
use Rattle.spelling.specs.declared.kinds.Kind.{Kind}
use Rattle.spelling.specs.declared.kinds.Kind.TheVariants.{Name, Constant, Implies}
use Rattle.spelling.specs.declared.bytes.Beginning.{Beginning}
use Rattle.spelling.specs.declared.bytes.Beginning.TheVariants.{Word, Space, Foreign}
use Rattle.spelling.specs.Kinds.{kind_code, beginning_code}
use Rattle.spelling.proofs.Each.{kind_same}
use Rattle.spelling.proofs.NextLaws.{none_left, arrow_next, sign_next, number_next, letters_next, nothing_next}
use Rattle.spelling.proofs.words.next_word.Goals as goal

no_word : (b : Beginning) → ((k : Kind) → b ≡ Word k → ⊥) → 18 ≤ beginning_code b
no_word (Word k) h = absurd (h k refl)
no_word Space h = omega arith
no_word Foreign h = omega arith

sign_code : (k : Kind) → (k ≡ Name → ⊥) → (k ≡ Constant → ⊥) → 2 ≤ kind_code k
sign_code k n m =
    let a : kind_code k ≡ 0 → ⊥ = λ e. n (kind_same k Name e) in
    let b : kind_code k ≡ 1 → ⊥ = λ e. m (kind_same k Constant e) in
    omega arith

pub returns-then-from-text : goal.returns-then-from-text
returns-then-from-text c = none_left _ _ _ c.spaces_end-from.ensures c.if-from-text.true

pub returns-in_default : goal.returns-in_default
returns-in_default c =
    nothing_next _ _ _ c.spaces_end-from.ensures (omega (arith, c.spaces_end-from.ensures)) _ c.class_of.ensures (no_word _ c.in_default.not-Word)

pub returns-in-Name : goal.returns-in-Name
returns-in-Name c =
    letters_next _ _ _ c.spaces_end-from.ensures (omega (arith, c.spaces_end-from.ensures)) _ c.in-Word.ensures (ap kind_code c.in-Name.is) _ _
    c.word_end-past.ensures c.word_of-word.ensures

pub returns-in-Constant : goal.returns-in-Constant
returns-in-Constant c =
    number_next _ _ _ c.spaces_end-from.ensures (omega (arith, c.spaces_end-from.ensures)) _ c.in-Word.ensures _ refl (ap kind_code c.in-Constant.is) _
    c.word_end-past-in-Constant.ensures

pub returns-in-Implies : goal.returns-in-Implies
returns-in-Implies c =
    arrow_next _ _ _ c.spaces_end-from.ensures (omega (arith, c.spaces_end-from.ensures)) _ c.in-Word.ensures _ refl (ap kind_code c.in-Implies.is)

pub returns-in_default-word : goal.returns-in_default-word
returns-in_default-word c =
    sign_next _ _ _ c.spaces_end-from.ensures (omega (arith, c.spaces_end-from.ensures)) _ c.in-Word.ensures _ refl
    (sign_code _ c.in_default-word.not-Name c.in_default-word.not-Constant) (λ e. c.in_default-word.not-Implies (kind_same _ Implies e))

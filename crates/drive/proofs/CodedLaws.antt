-- A word is known by its number and its bytes. Assumes nothing.
use Prim.Native.Nat.{ℕ}
use mathlib.Core.Path.{◌≡◌, refl, sym, ap, ◌∙◌}
use mathlib.Core.Bool.{true, false}
use mathlib.Core.List.{List, [], ◌∷◌}
use lib.ListN.{get_or}
use Rattle.text.specs.Words.{Word, name, number, constant, prefix, binary, quantifier, opening, closing, comma, dot, once, historically, previously, negation, sinces, ands, ors, implies, universal, existential, bytes_of}
use Rattle.spelling.specs.Codes.{code_of}

-- the word with the number
unfoldable pub coded : ℕ → List ℕ → Word
coded code bs =
    get_or
    (name bs ∷ number bs ∷ constant true ∷ constant false ∷ prefix once ∷ prefix historically ∷ prefix previously ∷ prefix negation
    ∷ binary sinces ∷ binary ands ∷ binary ors ∷ binary implies ∷ quantifier universal ∷ quantifier existential ∷ opening ∷ closing ∷ comma ∷ [])
    code dot

coded_is : (w : Word) → w ≡ coded (code_of w) (bytes_of w)
unfolding coded code_of bytes_of
coded_is (name bs) = refl
coded_is (number ds) = refl
coded_is (constant true) = refl
coded_is (constant false) = refl
coded_is (prefix once) = refl
coded_is (prefix historically) = refl
coded_is (prefix previously) = refl
coded_is (prefix negation) = refl
coded_is (binary sinces) = refl
coded_is (binary ands) = refl
coded_is (binary ors) = refl
coded_is (binary implies) = refl
coded_is (quantifier universal) = refl
coded_is (quantifier existential) = refl
coded_is opening = refl
coded_is closing = refl
coded_is comma = refl
coded_is dot = refl

pub word_is : (w : Word) (code n : ℕ) → code ≡ code_of w → code ≡ n → w ≡ coded n (bytes_of w)
word_is w code n e z = coded_is w ∙ ap (λ (i : ℕ). coded i (bytes_of w)) (sym e ∙ z)

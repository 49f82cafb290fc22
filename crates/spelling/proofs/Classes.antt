-- The tables of classes and of the bytes of words: the rule of each, a test at every entry that is computed. Assumes nothing.
use Prim.Native.Nat.{ℕ, ◌<◌}
use mathlib.Core.Path.{◌≡◌, refl}
use mathlib.Core.Bool.{Bool, true, false}
use mathlib.Core.List.{List, [], ◌∷◌}
use lib.Dec.{T, eqb, eqb→eq}
use lib.ListN.{get_or}
use Rattle.text.specs.Words.{is_letter, is_digit, is_word_byte, same, bytes_of}
use Rattle.text.specs.Reader.{class_of, sign_among, signs}
use Rattle.spelling.specs.Codes.{class_number, code_of}
use Rattle.spelling.specs.Kinds.{beginning_code}
use Rattle.spelling.specs.declared.kinds.Kind.TheVariants.{Name, Constant, Before, Not, And, Or, Implies, Open, Close, Comma, Dot}
use Rattle.spelling.specs.declared.bytes.Beginning.{Beginning}
use Rattle.spelling.specs.declared.bytes.Beginning.TheVariants.{Word, Space, Foreign}
use Rattle.spelling.proofs.Tables.{at}

-- the static `CLASS`
unfoldable pub classes : List Beginning
classes =
    Foreign ∷ Foreign ∷ Foreign ∷ Foreign ∷ Foreign ∷ Foreign ∷ Foreign ∷ Foreign ∷ Foreign ∷ Foreign ∷ Foreign ∷ Foreign ∷ Foreign ∷ Foreign ∷ Foreign ∷ Foreign ∷ Foreign ∷ Foreign ∷ Foreign ∷ Foreign ∷ Foreign ∷ Foreign ∷ Foreign ∷ Foreign ∷ Foreign ∷ Foreign ∷ Foreign ∷ Foreign ∷ Foreign ∷ Foreign ∷ Foreign ∷ Foreign ∷
    Space ∷ Word Not ∷ Foreign ∷ Foreign ∷ Foreign ∷ Foreign ∷ Word And ∷ Foreign ∷ Word Open ∷ Word Close ∷ Foreign ∷ Foreign ∷ Word Comma ∷ Word Implies ∷ Word Dot ∷ Foreign ∷ Word Constant ∷ Word Constant ∷ Word Constant ∷ Word Constant ∷ Word Constant ∷ Word Constant ∷ Word Constant ∷ Word Constant ∷ Word Constant ∷ Word Constant ∷ Foreign ∷ Foreign ∷ Foreign ∷ Foreign ∷ Foreign ∷ Foreign ∷
    Word Before ∷ Word Name ∷ Word Name ∷ Word Name ∷ Word Name ∷ Word Name ∷ Word Name ∷ Word Name ∷ Word Name ∷ Word Name ∷ Word Name ∷ Word Name ∷ Word Name ∷ Word Name ∷ Word Name ∷ Word Name ∷ Word Name ∷ Word Name ∷ Word Name ∷ Word Name ∷ Word Name ∷ Word Name ∷ Word Name ∷ Word Name ∷ Word Name ∷ Word Name ∷ Word Name ∷ Foreign ∷ Foreign ∷ Foreign ∷ Foreign ∷ Foreign ∷
    Foreign ∷ Word Name ∷ Word Name ∷ Word Name ∷ Word Name ∷ Word Name ∷ Word Name ∷ Word Name ∷ Word Name ∷ Word Name ∷ Word Name ∷ Word Name ∷ Word Name ∷ Word Name ∷ Word Name ∷ Word Name ∷ Word Name ∷ Word Name ∷ Word Name ∷ Word Name ∷ Word Name ∷ Word Name ∷ Word Name ∷ Word Name ∷ Word Name ∷ Word Name ∷ Word Name ∷ Foreign ∷ Word Or ∷ Foreign ∷ Foreign ∷ Foreign ∷
    Foreign ∷ Foreign ∷ Foreign ∷ Foreign ∷ Foreign ∷ Foreign ∷ Foreign ∷ Foreign ∷ Foreign ∷ Foreign ∷ Foreign ∷ Foreign ∷ Foreign ∷ Foreign ∷ Foreign ∷ Foreign ∷ Foreign ∷ Foreign ∷ Foreign ∷ Foreign ∷ Foreign ∷ Foreign ∷ Foreign ∷ Foreign ∷ Foreign ∷ Foreign ∷ Foreign ∷ Foreign ∷ Foreign ∷ Foreign ∷ Foreign ∷ Foreign ∷
    Foreign ∷ Foreign ∷ Foreign ∷ Foreign ∷ Foreign ∷ Foreign ∷ Foreign ∷ Foreign ∷ Foreign ∷ Foreign ∷ Foreign ∷ Foreign ∷ Foreign ∷ Foreign ∷ Foreign ∷ Foreign ∷ Foreign ∷ Foreign ∷ Foreign ∷ Foreign ∷ Foreign ∷ Foreign ∷ Foreign ∷ Foreign ∷ Foreign ∷ Foreign ∷ Foreign ∷ Foreign ∷ Foreign ∷ Foreign ∷ Foreign ∷ Foreign ∷
    Foreign ∷ Foreign ∷ Foreign ∷ Foreign ∷ Foreign ∷ Foreign ∷ Foreign ∷ Foreign ∷ Foreign ∷ Foreign ∷ Foreign ∷ Foreign ∷ Foreign ∷ Foreign ∷ Foreign ∷ Foreign ∷ Foreign ∷ Foreign ∷ Foreign ∷ Foreign ∷ Foreign ∷ Foreign ∷ Foreign ∷ Foreign ∷ Foreign ∷ Foreign ∷ Foreign ∷ Foreign ∷ Foreign ∷ Foreign ∷ Foreign ∷ Foreign ∷
    Foreign ∷ Foreign ∷ Foreign ∷ Foreign ∷ Foreign ∷ Foreign ∷ Foreign ∷ Foreign ∷ Foreign ∷ Foreign ∷ Foreign ∷ Foreign ∷ Foreign ∷ Foreign ∷ Foreign ∷ Foreign ∷ Foreign ∷ Foreign ∷ Foreign ∷ Foreign ∷ Foreign ∷ Foreign ∷ Foreign ∷ Foreign ∷ Foreign ∷ Foreign ∷ Foreign ∷ Foreign ∷ Foreign ∷ Foreign ∷ Foreign ∷ Foreign ∷ []

right : ℕ → Beginning → Bool
right b x = eqb (beginning_code x) (class_number (class_of b))

-- the table holds what each byte begins
pub class_right : (b : ℕ) → b < 256 → beginning_code (get_or classes b (Word Name)) ≡ class_number (class_of b)
unfolding classes right class_number code_of class_of sign_among signs is_letter is_digit same bytes_of
class_right b h = eqb→eq (beginning_code (get_or classes b (Word Name))) (class_number (class_of b)) (at right classes (Word Name) tt b h)

-- the static `WORDY`
unfoldable pub wordy_bytes : List Bool
wordy_bytes =
    false ∷ false ∷ false ∷ false ∷ false ∷ false ∷ false ∷ false ∷ false ∷ false ∷ false ∷ false ∷ false ∷ false ∷ false ∷ false ∷ false ∷ false ∷ false ∷ false ∷ false ∷ false ∷ false ∷ false ∷ false ∷ false ∷ false ∷ false ∷ false ∷ false ∷ false ∷ false ∷
    false ∷ false ∷ false ∷ false ∷ false ∷ false ∷ false ∷ false ∷ false ∷ false ∷ false ∷ false ∷ false ∷ false ∷ false ∷ false ∷ true ∷ true ∷ true ∷ true ∷ true ∷ true ∷ true ∷ true ∷ true ∷ true ∷ false ∷ false ∷ false ∷ false ∷ false ∷ false ∷
    false ∷ true ∷ true ∷ true ∷ true ∷ true ∷ true ∷ true ∷ true ∷ true ∷ true ∷ true ∷ true ∷ true ∷ true ∷ true ∷ true ∷ true ∷ true ∷ true ∷ true ∷ true ∷ true ∷ true ∷ true ∷ true ∷ true ∷ false ∷ false ∷ false ∷ false ∷ true ∷
    false ∷ true ∷ true ∷ true ∷ true ∷ true ∷ true ∷ true ∷ true ∷ true ∷ true ∷ true ∷ true ∷ true ∷ true ∷ true ∷ true ∷ true ∷ true ∷ true ∷ true ∷ true ∷ true ∷ true ∷ true ∷ true ∷ true ∷ false ∷ false ∷ false ∷ false ∷ false ∷
    false ∷ false ∷ false ∷ false ∷ false ∷ false ∷ false ∷ false ∷ false ∷ false ∷ false ∷ false ∷ false ∷ false ∷ false ∷ false ∷ false ∷ false ∷ false ∷ false ∷ false ∷ false ∷ false ∷ false ∷ false ∷ false ∷ false ∷ false ∷ false ∷ false ∷ false ∷ false ∷
    false ∷ false ∷ false ∷ false ∷ false ∷ false ∷ false ∷ false ∷ false ∷ false ∷ false ∷ false ∷ false ∷ false ∷ false ∷ false ∷ false ∷ false ∷ false ∷ false ∷ false ∷ false ∷ false ∷ false ∷ false ∷ false ∷ false ∷ false ∷ false ∷ false ∷ false ∷ false ∷
    false ∷ false ∷ false ∷ false ∷ false ∷ false ∷ false ∷ false ∷ false ∷ false ∷ false ∷ false ∷ false ∷ false ∷ false ∷ false ∷ false ∷ false ∷ false ∷ false ∷ false ∷ false ∷ false ∷ false ∷ false ∷ false ∷ false ∷ false ∷ false ∷ false ∷ false ∷ false ∷
    false ∷ false ∷ false ∷ false ∷ false ∷ false ∷ false ∷ false ∷ false ∷ false ∷ false ∷ false ∷ false ∷ false ∷ false ∷ false ∷ false ∷ false ∷ false ∷ false ∷ false ∷ false ∷ false ∷ false ∷ false ∷ false ∷ false ∷ false ∷ false ∷ false ∷ false ∷ false ∷ []

alike : Bool → Bool → Bool
alike true b = b
alike false true = false
alike false false = true

alike_same : (a b : Bool) → T (alike a b) → a ≡ b
unfolding alike
alike_same true true t = refl
alike_same true false t = absurd t
alike_same false true t = absurd t
alike_same false false t = refl

wordy_right : ℕ → Bool → Bool
wordy_right b x = alike x (is_word_byte b)

-- the table holds whether each byte is a letter, a digit or `_`
pub word_right : (b : ℕ) → b < 256 → get_or wordy_bytes b false ≡ is_word_byte b
unfolding wordy_bytes wordy_right alike is_word_byte is_letter is_digit
word_right b h = alike_same (get_or wordy_bytes b false) (is_word_byte b) (at wordy_right wordy_bytes false tt b h)

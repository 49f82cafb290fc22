-- Words, classes of bytes and modes by number, as the code has them, and what it is to find the next word of a text. Assumes nothing.
use Rattle.std.specs.Prelude.{ℕ, ◌+◌, ◌-◌, ◌*◌, ◌≤◌, ◌<◌, ◌≡◌, Bool, true, false, List, [], ◌∷◌, length, take, drop, get_or, Option, Some, None}
use Rattle.text.specs.Words.{is_word_byte, all, Word, name, number, constant, prefix, binary, quantifier, opening, closing, comma, dot, once, historically, previously, negation, sinces, ands, ors, implies, universal, existential, bytes_of, wordy, Spelled}
use Rattle.text.specs.Reader.{Class, blank, letter, digit, minus, sign, foreign}
use Rattle.spelling.specs.declared.words.Taken.{Taken}
use Rattle.spelling.specs.Kinds.{kind_code}
use Rattle.text.specs.Shape.{Mode, operand, operator, call, slot, point, argument, separator, nowhere}

-- the number of a word
unfoldable pub code_of : Word → ℕ
code_of (name bs) = 0
code_of (number ds) = 1
code_of (constant true) = 2
code_of (constant false) = 3
code_of (prefix once) = 4
code_of (prefix historically) = 5
code_of (prefix previously) = 6
code_of (prefix negation) = 7
code_of (binary sinces) = 8
code_of (binary ands) = 9
code_of (binary ors) = 10
code_of (binary implies) = 11
code_of (quantifier universal) = 12
code_of (quantifier existential) = 13
code_of opening = 14
code_of closing = 15
code_of comma = 16
code_of dot = 17

-- the number of a class: that of a word that the byte can begin, 18 for a space, 19 for none
unfoldable pub class_number : Class → ℕ
class_number letter = 0
class_number digit = 1
class_number minus = 11
class_number (sign w) = code_of w
class_number blank = 18
class_number foreign = 19

-- the number of a mode
unfoldable pub mode_number : Mode → ℕ
mode_number operand = 0
mode_number operator = 1
mode_number call = 2
mode_number slot = 3
mode_number point = 4
mode_number argument = 5
mode_number separator = 6
mode_number nowhere = 7

-- the kind of each word, and where each kind leads from each mode, a `)` that closes nothing aside
unfoldable pub kinds : List ℕ
kinds = 0 ∷ 1 ∷ 2 ∷ 2 ∷ 3 ∷ 3 ∷ 3 ∷ 3 ∷ 4 ∷ 4 ∷ 4 ∷ 4 ∷ 5 ∷ 5 ∷ 6 ∷ 7 ∷ 8 ∷ 9 ∷ []

unfoldable pub nexts : List ℕ
nexts =
    2 ∷ 7 ∷ 1 ∷ 0 ∷ 7 ∷ 3 ∷ 0 ∷ 7 ∷ 7 ∷ 7
    ∷ 7 ∷ 7 ∷ 7 ∷ 7 ∷ 0 ∷ 7 ∷ 7 ∷ 1 ∷ 7 ∷ 7
    ∷ 7 ∷ 7 ∷ 7 ∷ 7 ∷ 0 ∷ 7 ∷ 5 ∷ 1 ∷ 7 ∷ 7
    ∷ 4 ∷ 7 ∷ 7 ∷ 7 ∷ 7 ∷ 7 ∷ 7 ∷ 7 ∷ 7 ∷ 7
    ∷ 7 ∷ 7 ∷ 7 ∷ 7 ∷ 7 ∷ 7 ∷ 7 ∷ 7 ∷ 7 ∷ 0
    ∷ 6 ∷ 6 ∷ 7 ∷ 7 ∷ 7 ∷ 7 ∷ 7 ∷ 7 ∷ 7 ∷ 7
    ∷ 7 ∷ 7 ∷ 7 ∷ 7 ∷ 7 ∷ 7 ∷ 7 ∷ 1 ∷ 5 ∷ 7
    ∷ 7 ∷ 7 ∷ 7 ∷ 7 ∷ 7 ∷ 7 ∷ 7 ∷ 7 ∷ 7 ∷ 7
    ∷ []

unfoldable pub next_mode : ℕ → ℕ → ℕ
next_mode m w = get_or nexts (m * 10 + get_or kinds w 0) 0

-- the kind of a word, and the mode after it
unfoldable pub kind_of : Word → ℕ
kind_of (name bs) = 0
kind_of (number ds) = 1
kind_of (constant b) = 2
kind_of (prefix o) = 3
kind_of (binary o) = 4
kind_of (quantifier q) = 5
kind_of opening = 6
kind_of closing = 7
kind_of comma = 8
kind_of dot = 9

unfoldable pub mode_after : ℕ → Word → ℕ
mode_after m w = get_or nexts (m * 10 + kind_of w) 0

-- no letter, digit or `_` stands first
abbrev pub Stops : List ℕ → Type 0
Stops [] = Unit {0}
Stops (b ∷ bs) = is_word_byte b ≡ false

-- the letters, digits and `_` from a place on end at another
pub record Ends (text : List ℕ) (at past : ℕ) : Type 0 where
  pub low : at ≤ past
  pub high : past ≤ length text
  pub run : all is_word_byte (take (past - at) (drop at text)) ≡ true
  pub stop : Stops (drop past text)

-- the bytes spell the words
pub record Spells (ws : List Word) (bs : List ℕ) : Type 0 where
  pub after : Bool
  pub spelled : Spelled after ws bs

-- the spaces from a place on end at another: the words stay
pub record Skips (text : List ℕ) (at past : ℕ) : Type 0 where
  pub low : at ≤ past
  pub high : past ≤ length text
  pub words : (ws : List Word) → Spells ws (drop at text) → Spells ws (drop past text)
  pub stop : past < length text → get_or text past 0 ≡ 32 → ⊥

-- the first word from a place on, with its number, its first byte and the place past it
pub record First (text : List ℕ) (at : ℕ) (w : Word) (ws : List Word) (code from past : ℕ) : Type 0 where
  pub code_is : code ≡ code_of w
  pub low : at ≤ from
  pub long : from < past
  pub high : past ≤ length text
  pub bytes_are : take (past - from) (drop from text) ≡ bytes_of w
  pub rest : Spelled (wordy w) ws (drop past text)

-- it, or none where no word is left
abbrev pub Next : List ℕ → ℕ → List Word → Option Taken → Type 0
Next text at [] None = Unit {0}
Next text at [] (Some t) = ⊥
Next text at (w ∷ ws) None = ⊥
Next text at (w ∷ ws) (Some t) = First text at w ws (kind_code t.word) t.from t.past

-- a number as far as 2^32
abbrev pub Valued : ℕ → Option ℕ → Type 0
Valued n None = 4294967296 ≤ n
Valued n (Some v) = (v ≡ n) × (v < 4294967296)

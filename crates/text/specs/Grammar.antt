-- The grammar, said by writing: a reading is a tree, `words` writes it, and `Fine` are the trees that the precedence levels allow.
-- A rule text is the spelling of a fine tree. Part of the meaning. Assumes nothing: these are definitions.
use Rattle.std.specs.Prelude.{ℕ, suc, ◌≤◌, ◌<◌, ◌≡◌, Bool, true, false, List, [], ◌∷◌, ◌++◌, length, take}
use Rattle.text.specs.Words.{Word, name, number, constant, prefix, binary, quantifier, opening, closing, comma, dot, Prefix, Binary, sinces, ands, ors, implies, Quantifier, Spelled}

-- an argument as it is written: a variable's name, or a constant's digits
pub data Term : Type 0 where
  variable digits : List ℕ → Term

-- a reading: `true` or `false`; a name with arguments, or alone; an operator and its operands; a quantifier, its variable and
-- what it reaches over; a reading in parentheses
pub data Reading : Type 0 where
  truth : Bool → Reading
  atom : List ℕ → List Term → Reading
  under : Prefix → Reading → Reading
  joined : Binary → Reading → Reading → Reading
  quantified : Quantifier → List ℕ → Reading → Reading
  grouped : Reading → Reading

-- the word of an argument
unfoldable pub term_word : Term → Word
term_word (variable x) = name x
term_word (digits ds) = number ds

-- the arguments after the first, and the closing parenthesis
unfoldable pub terms_words : List Term → List Word
terms_words [] = closing ∷ []
terms_words (g ∷ gs) = comma ∷ term_word g ∷ terms_words gs

-- "arguments, one or more, in parentheses with commas"; "a name alone has no arguments"
unfoldable pub argument_words : List Term → List Word
argument_words [] = []
argument_words (g ∷ gs) = opening ∷ term_word g ∷ terms_words gs

-- how a reading is written
unfoldable pub words : Reading → List Word
words (truth b) = constant b ∷ []
words (atom p gs) = name p ∷ argument_words gs
words (under o f) = prefix o ∷ words f
words (joined o f g) = words f ++ (binary o ∷ words g)
words (quantified q x f) = quantifier q ∷ name x ∷ dot ∷ words f
words (grouped f) = opening ∷ (words f ++ (closing ∷ []))

-- "Loosest first: .. `->` (right), `|`, `&`, `S` (these three left), then prefix operators": the level of an operator,
-- and the loosest levels that its left and right operands may have
unfoldable pub level : Binary → ℕ
level sinces = 1
level ands = 2
level ors = 3
level implies = 4

unfoldable pub left_level : Binary → ℕ
left_level sinces = 1
left_level ands = 2
left_level ors = 3
left_level implies = 3

unfoldable pub right_level : Binary → ℕ
right_level sinces = 0
right_level ands = 1
right_level ors = 2
right_level implies = 4

-- the level of a reading; a quantifier stands "wherever an operand may stand"
unfoldable pub rank : Reading → ℕ
rank (truth b) = 0
rank (atom p gs) = 0
rank (under o f) = 0
rank (joined o f g) = level o
rank (quantified q x f) = 0
rank (grouped f) = 0

-- the reading ends in what a quantifier reaches over
unfoldable pub open_ended : Reading → Bool
open_ended (truth b) = false
open_ended (atom p gs) = false
open_ended (under o f) = open_ended f
open_ended (joined o f g) = open_ended g
open_ended (quantified q x f) = true
open_ended (grouped f) = false

-- the readings that the levels allow: quantifiers reach "as far right as they can", so that no left operand is open-ended
abbrev pub Fine : Reading → Type 0
Fine (truth b) = Unit {0}
Fine (atom p gs) = Unit {0}
Fine (under o f) = (rank f ≤ 0) × Fine f
Fine (joined o f g) = (rank f ≤ left_level o) × (open_ended f ≡ false) × (rank g ≤ right_level o) × Fine f × Fine g
Fine (quantified q x f) = Fine f
Fine (grouped f) = Fine f

-- the bytes are a rule text, and this is a reading of it
pub record RuleText (bytes : List ℕ) (f : Reading) : Type 0 where
  pub fine : Fine f
  pub spelled : Spelled false (words f) bytes

-- the bytes are a rule text
pub record HasReading (bytes : List ℕ) : Type 0 where
  pub reading : Reading
  pub text : RuleText bytes reading

-- some rule text begins with the bytes
pub record Viable (bytes : List ℕ) : Type 0 where
  pub rest : List ℕ
  pub reading : Reading
  pub text : RuleText (bytes ++ rest) reading

-- "the place of the first byte (or the end) at which no rule text can go on": a rule text begins with the bytes before it, and
-- none begins with these and the byte at it
pub record Place (bytes : List ℕ) (i : ℕ) : Type 0 where
  pub inside : i ≤ length bytes
  pub before : Viable (take i bytes)
  pub at : i < length bytes → Viable (take (suc i) bytes) → ⊥

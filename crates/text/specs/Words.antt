-- The words of a rule text and how they are spelled: bytes, names, constants, spaces between words. Bytes are numbers.
-- Part of the meaning. Assumes nothing: these are definitions.
use Rattle.std.specs.Prelude.{ℕ, ◌≡◌, Bool, true, false, ◌&&◌, ◌||◌, List, [], ◌∷◌, ◌++◌, eqb, leb}

-- letters are A to Z and a to z
unfoldable pub is_letter : ℕ → Bool
is_letter b = (leb 65 b && leb b 90) || (leb 97 b && leb b 122)

-- digits are 0 to 9
unfoldable pub is_digit : ℕ → Bool
is_digit b = leb 48 b && leb b 57

-- "letters, digits and `_`"
unfoldable pub is_word_byte : ℕ → Bool
is_word_byte b = is_letter b || (is_digit b || eqb b 95)

-- the test holds of each byte
unfoldable pub all : (ℕ → Bool) → List ℕ → Bool
all f [] = true
all f (b ∷ bs) = f b && all f bs

-- two runs of bytes are the same
unfoldable pub same : List ℕ → List ℕ → Bool
same [] [] = true
same [] (y ∷ ys) = false
same (x ∷ xs) [] = false
same (x ∷ xs) (y ∷ ys) = eqb x y && same xs ys

-- `P`, `H`, `@`, `!`
pub data Prefix : Type 0 where
  once historically previously negation : Prefix

-- `S`, `&`, `|`, `->`
pub data Binary : Type 0 where
  sinces ands ors implies : Binary

-- `forall`, `exists`
pub data Quantifier : Type 0 where
  universal existential : Quantifier

-- a word: a name, a constant's digits, `true` or `false`, an operator, a quantifier, `(`, `)`, `,` or `.`
pub data Word : Type 0 where
  name number : List ℕ → Word
  constant : Bool → Word
  prefix : Prefix → Word
  binary : Binary → Word
  quantifier : Quantifier → Word
  opening closing comma dot : Word

-- how a word is spelled
unfoldable pub bytes_of : Word → List ℕ
bytes_of (name bs) = bs
bytes_of (number ds) = ds
bytes_of (constant true) = 116 ∷ 114 ∷ 117 ∷ 101 ∷ []
bytes_of (constant false) = 102 ∷ 97 ∷ 108 ∷ 115 ∷ 101 ∷ []
bytes_of (prefix once) = 80 ∷ []
bytes_of (prefix historically) = 72 ∷ []
bytes_of (prefix previously) = 64 ∷ []
bytes_of (prefix negation) = 33 ∷ []
bytes_of (binary sinces) = 83 ∷ []
bytes_of (binary ands) = 38 ∷ []
bytes_of (binary ors) = 124 ∷ []
bytes_of (binary implies) = 45 ∷ 62 ∷ []
bytes_of (quantifier universal) = 102 ∷ 111 ∷ 114 ∷ 97 ∷ 108 ∷ 108 ∷ []
bytes_of (quantifier existential) = 101 ∷ 120 ∷ 105 ∷ 115 ∷ 116 ∷ 115 ∷ []
bytes_of opening = 40 ∷ []
bytes_of closing = 41 ∷ []
bytes_of comma = 44 ∷ []
bytes_of dot = 46 ∷ []

-- the words that are spelled with letters and are no names
unfoldable pub reserved : List Word
reserved =
    quantifier universal ∷ quantifier existential ∷ prefix once ∷ prefix historically ∷ binary sinces
    ∷ constant true ∷ constant false ∷ []

-- the word of the list that the bytes spell, and else a name
unfoldable pub pick : List Word → List ℕ → Word
pick [] bs = name bs
pick (w ∷ ws) bs = elim (same bs (bytes_of w)) [ true ↦ w | false ↦ pick ws bs ]

-- the word that a run of letters, digits and `_` spells
unfoldable pub word_of : List ℕ → Word
unfolding pick reserved
word_of bs = pick reserved bs

-- the first byte is a letter
unfoldable pub led : List ℕ → Bool
led [] = false
led (b ∷ bs) = is_letter b

-- "A name is a letter with all letters, digits and `_` after it, and no word above"
pub record Name (bs : List ℕ) : Type 0 where
  pub letter : led bs ≡ true
  pub rest : all is_word_byte bs ≡ true
  pub unreserved : word_of bs ≡ name bs

-- there is a byte
unfoldable pub some : List ℕ → Bool
some [] = false
some (b ∷ bs) = true

-- "decimal constants (zeros may lead)": one digit or more
pub record Digits (ds : List ℕ) : Type 0 where
  pub one : some ds ≡ true
  pub digits : all is_digit ds ≡ true

-- the words that there are
abbrev pub Proper : Word → Type 0
Proper (name bs) = Name bs
Proper (number ds) = Digits ds
Proper (constant b) = Unit {0}
Proper (prefix o) = Unit {0}
Proper (binary o) = Unit {0}
Proper (quantifier q) = Unit {0}
Proper opening = Unit {0}
Proper closing = Unit {0}
Proper comma = Unit {0}
Proper dot = Unit {0}

-- the word is made of letters, digits and `_`, and takes all of them after it
unfoldable pub wordy : Word → Bool
wordy (name bs) = true
wordy (number ds) = true
wordy (constant b) = true
wordy (prefix once) = true
wordy (prefix historically) = true
wordy (prefix previously) = false
wordy (prefix negation) = false
wordy (binary sinces) = true
wordy (binary ands) = false
wordy (binary ors) = false
wordy (binary implies) = false
wordy (quantifier q) = true
wordy opening = false
wordy closing = false
wordy comma = false
wordy dot = false

-- "spaces may stand between words": the bytes are the words one after the other, with spaces before, between and after them;
-- two words of letters, digits and `_` don't touch. The Bool says that such a word stands right before the bytes.
pub data Spelled : Bool → List Word → List ℕ → Type 0 where
  nothing : {v : Bool} → Spelled v [] []
  space : {v : Bool} {ws : List Word} {bs : List ℕ} → Spelled false ws bs → Spelled v ws (32 ∷ bs)
  word : {v : Bool} (w : Word) {ws : List Word} {bs : List ℕ} → Proper w → (v && wordy w) ≡ false → Spelled (wordy w) ws bs
      → Spelled v (w ∷ ws) (bytes_of w ++ bs)

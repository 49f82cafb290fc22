-- The next word: its first byte says what it is, and where it ends. Assumes nothing.
use Prim.Native.Nat.{ℕ, suc, ◌+◌, ◌-◌, ◌≤◌, ◌<◌}
use native.Mathlib.Omega.{arith}
use mathlib.Core.Path.{◌≡◌, refl, sym, ap, ◌∙◌}
use mathlib.Core.Bool.{Bool, true, false}
use mathlib.Core.List.{List, [], ◌∷◌, ◌++◌}
use lib.ListN.{length, take, drop, get_or, length-append, length-drop}
use lib.Seq.{drop-cons, drop-length, drop-drop, take-append_seam, drop-append_seam}
use Rattle.trees.proofs.Tests.{false_true, and_true_l, and_true_r}
use Rattle.text.specs.Words.{is_letter, is_digit, is_word_byte, all, same, Word, name, number, constant, prefix, binary, quantifier, opening, closing, comma, dot, once, historically, previously, negation, sinces, ands, ors, implies, universal, existential, bytes_of, pick, reserved, word_of, led, some, Proper, wordy, Spelled, nothing, space, word}
use Rattle.text.specs.Reader.{class_of, sign_among, signs}
use Rattle.text.proofs.ClassLaws.{class_letter, class_digit, digit_in_word}
use Rattle.text.proofs.LexLaws
use Rattle.std.specs.Prelude.{Some, None}
use Rattle.spelling.specs.declared.kinds.Kind.{Kind}
use Rattle.spelling.specs.Kinds.{kind_code}
use Rattle.spelling.proofs.KindLaws.{code_lt}
use Rattle.spelling.specs.Codes.{code_of, class_number, Stops, Ends, Spells, Skips, Next}
use Rattle.spelling.proofs.RunLaws.{run_same}

-- what the first byte says: a word of letters, a constant, `->`, a word of one sign
pub data Begins (w : Word) (b : ℕ) : Type 0 where
  lettered : class_number (class_of b) ≡ 0 → wordy w ≡ true → all is_word_byte (bytes_of w) ≡ true → word_of (bytes_of w) ≡ w → Begins w b
  numeral : class_number (class_of b) ≡ 1 → code_of w ≡ 1 → wordy w ≡ true → all is_word_byte (bytes_of w) ≡ true → Begins w b
  arrow : class_number (class_of b) ≡ 11 → code_of w ≡ 11 → length (bytes_of w) ≡ 2 → Begins w b
  single : class_number (class_of b) ≡ code_of w → 2 ≤ code_of w → (code_of w ≡ 11 → ⊥) → length (bytes_of w) ≡ 1 → Begins w b

all_digits : (ds : List ℕ) → all is_digit ds ≡ true → all is_word_byte ds ≡ true
unfolding all
all_digits [] h = refl
all_digits (d ∷ ds) h =
    rw (digit_in_word d (and_true_l (is_digit d) (all is_digit ds) h)) (all_digits ds (and_true_r (is_digit d) (all is_digit ds) h))

begins : (w : Word) (rest : List ℕ) (b : ℕ) (bs : List ℕ) → Proper w → bytes_of w ++ rest ≡ b ∷ bs → Begins w b
unfolding bytes_of led all is_letter is_digit is_word_byte some class_of sign_among signs same class_number code_of word_of pick reserved wordy
begins (name []) rest b bs p e = absurd (false_true refl p.letter)
begins (name (x ∷ xs)) rest b bs p e =
    let z : x ≡ b = cc in
    rw (← z) (lettered (ap class_number (class_letter x p.letter)) refl p.rest p.unreserved)
begins (number []) rest b bs p e = absurd (false_true refl p.one)
begins (number (x ∷ xs)) rest b bs p e =
    let z : x ≡ b = cc in
    rw (← z) (numeral (ap class_number (class_digit x (and_true_l (is_digit x) (all is_digit xs) p.digits))) refl refl (all_digits (x ∷ xs) p.digits))
begins (constant true) rest b bs p e = let z : 116 ≡ b = cc in rw (← z) (lettered refl refl refl refl)
begins (constant false) rest b bs p e = let z : 102 ≡ b = cc in rw (← z) (lettered refl refl refl refl)
begins (prefix once) rest b bs p e = let z : 80 ≡ b = cc in rw (← z) (lettered refl refl refl refl)
begins (prefix historically) rest b bs p e = let z : 72 ≡ b = cc in rw (← z) (lettered refl refl refl refl)
begins (prefix previously) rest b bs p e = let z : 64 ≡ b = cc in rw (← z) (single refl (omega arith) (λ y. omega arith) refl)
begins (prefix negation) rest b bs p e = let z : 33 ≡ b = cc in rw (← z) (single refl (omega arith) (λ y. omega arith) refl)
begins (binary sinces) rest b bs p e = let z : 83 ≡ b = cc in rw (← z) (lettered refl refl refl refl)
begins (binary ands) rest b bs p e = let z : 38 ≡ b = cc in rw (← z) (single refl (omega arith) (λ y. omega arith) refl)
begins (binary ors) rest b bs p e = let z : 124 ≡ b = cc in rw (← z) (single refl (omega arith) (λ y. omega arith) refl)
begins (binary implies) rest b bs p e = let z : 45 ≡ b = cc in rw (← z) (arrow refl refl refl)
begins (quantifier universal) rest b bs p e = let z : 102 ≡ b = cc in rw (← z) (lettered refl refl refl refl)
begins (quantifier existential) rest b bs p e = let z : 101 ≡ b = cc in rw (← z) (lettered refl refl refl refl)
begins opening rest b bs p e = let z : 40 ≡ b = cc in rw (← z) (single refl (omega arith) (λ y. omega arith) refl)
begins closing rest b bs p e = let z : 41 ≡ b = cc in rw (← z) (single refl (omega arith) (λ y. omega arith) refl)
begins comma rest b bs p e = let z : 44 ≡ b = cc in rw (← z) (single refl (omega arith) (λ y. omega arith) refl)
begins dot rest b bs p e = let z : 46 ≡ b = cc in rw (← z) (single refl (omega arith) (λ y. omega arith) refl)

long_word : (w : Word) → Proper w → 1 ≤ length (bytes_of w)
unfolding bytes_of led some
long_word (name []) p = absurd (false_true refl p.letter)
long_word (name (x ∷ xs)) p = omega arith
long_word (number []) p = absurd (false_true refl p.one)
long_word (number (x ∷ xs)) p = omega arith
long_word (constant true) p = omega arith
long_word (constant false) p = omega arith
long_word (prefix once) p = omega arith
long_word (prefix historically) p = omega arith
long_word (prefix previously) p = omega arith
long_word (prefix negation) p = omega arith
long_word (binary sinces) p = omega arith
long_word (binary ands) p = omega arith
long_word (binary ors) p = omega arith
long_word (binary implies) p = omega arith
long_word (quantifier universal) p = omega arith
long_word (quantifier existential) p = omega arith
long_word opening p = omega arith
long_word closing p = omega arith
long_word comma p = omega arith
long_word dot p = omega arith

-- the first word of the bytes, and the rest
pub record Head (ws : List Word) (l : List ℕ) (b : ℕ) : Type 0 where
  pub first : Word
  pub others : List Word
  pub rest : List ℕ
  pub words_are : ws ≡ first ∷ others
  pub bytes_are : l ≡ bytes_of first ++ rest
  pub long : 1 ≤ length (bytes_of first)
  pub begun : Begins first b
  pub spelled : Spelled (wordy first) others rest

pub head : {v : Bool} {ws : List Word} {l : List ℕ} → Spelled v ws l → (b : ℕ) (bs : List ℕ) → l ≡ b ∷ bs → (b ≡ 32 → ⊥) → Head ws l b
head nothing b bs e n = let z : ◌≡◌ {A = ℕ} 0 1 = cc in absurd (omega arith)
head (space s) b bs e n = let z : 32 ≡ b = cc in absurd (n (sym z))
head (word w {ws = ws} {bs = rest} p a s) b bs e n = record {
  first = w;
  others = ws;
  rest = rest;
  words_are = refl;
  bytes_are = refl;
  long = long_word w p;
  begun = begins w rest b bs p e;
  spelled = s;
}

-- no bytes, no words
pub no_words : {v : Bool} {ws : List Word} {l : List ℕ} → Spelled v ws l → l ≡ [] → ws ≡ []
no_words nothing e = refl
no_words (space s) e = let z : ◌≡◌ {A = ℕ} 0 1 = cc in absurd (omega arith)
no_words (word w {bs = rest} p a s) e =
    absurd (omega (arith, long_word w p, sym (length-append (bytes_of w) rest) ∙ ap length e))

module _ (text : List ℕ) (at from : ℕ) (k : Skips text at from) where
  -- nothing is left
  pub none_left : from ≡ length text → (v : Bool) (ws : List Word) → Spelled v ws (drop at text) → Next text at ws None
  none_left e v ws s =
      let t : Spells ws (drop from text) = k.words ws (record { after = v; spelled = s }) in
      rw (no_words t.spelled (rw e (drop-length text))) tt

  -- the head of what is left
  headed : from < length text → (v : Bool) (ws : List Word) → Spelled v ws (drop at text) → Head ws (drop from text) (get_or text from 0)
  headed h v ws s =
      let t : Spells ws (drop from text) = k.words ws (record { after = v; spelled = s }) in
      head t.spelled (get_or text from 0) (drop (suc from) text) (drop-cons text from 0 h) (k.stop h)

  -- a word that ends where its bytes do
  found : (ws : List Word) (kind : Kind) (past : ℕ) (d : Head ws (drop from text) (get_or text from 0)) → kind_code kind ≡ code_of d.first
      → past ≡ from + length (bytes_of d.first) → Next text at ws (Some (record { word = kind; from = from; past = past }))
  found ws kind past d e z =
      let n : past - from ≡ length (bytes_of d.first) = omega arith in
      let l : length text - from ≡ length (bytes_of d.first) + length d.rest =
      sym (length-drop from text) ∙ ap length d.bytes_are ∙ length-append (bytes_of d.first) d.rest in
      let r : drop past text ≡ d.rest =
      rw (z, ← (drop-drop (length (bytes_of d.first)) from text), d.bytes_are) (drop-append_seam (bytes_of d.first) d.rest) in
      rw d.words_are (record {
        code_is = e;
        low = k.low;
        long = omega (arith, d.long);
        high = omega (arith, d.long);
        bytes_are = rw (n, d.bytes_are) (take-append_seam (bytes_of d.first) d.rest);
        rest = rw r d.spelled;
      })

  module _ (h : from < length text) (class : ℕ) (cl : class ≡ class_number (class_of (get_or text from 0))) where
    pub arrow_next : (kind : Kind) → kind_code kind ≡ class → class ≡ 11 → (v : Bool) (ws : List Word) → Spelled v ws (drop at text) → Next text at ws (Some (record { word = kind; from = from; past = from + 2 }))
    arrow_next kind same e v ws s = go (headed h v ws s)
      where
        go : Head ws (drop from text) (get_or text from 0) → Next text at ws (Some (record { word = kind; from = from; past = from + 2 }))
        go d = by d d.begun
          where
            by : (d : Head ws (drop from text) (get_or text from 0)) → Begins d.first (get_or text from 0) → Next text at ws (Some (record { word = kind; from = from; past = from + 2 }))
            by d (lettered a b x y) = absurd (omega arith)
            by d (numeral a b x y) = absurd (omega arith)
            by d (arrow a b x) = found ws kind (from + 2) d (same ∙ e ∙ sym b) (omega arith)
            by d (single a b x y) = absurd (x (sym a ∙ sym cl ∙ e))

    pub sign_next : (kind : Kind) → kind_code kind ≡ class → 2 ≤ class → (class ≡ 11 → ⊥) → (v : Bool) (ws : List Word) → Spelled v ws (drop at text) → Next text at ws (Some (record { word = kind; from = from; past = from + 1 }))
    sign_next kind e l n v ws s = by (headed h v ws s) (headed h v ws s).begun
      where
        by : (d : Head ws (drop from text) (get_or text from 0)) → Begins d.first (get_or text from 0) → Next text at ws (Some (record { word = kind; from = from; past = from + 1 }))
        by d (lettered a b x y) = absurd (omega arith)
        by d (numeral a b x y) = absurd (omega arith)
        by d (arrow a b x) = absurd (n (cl ∙ a))
        by d (single a b x y) = found ws kind (from + 1) d (e ∙ cl ∙ a) (omega arith)

    -- a word of letters or digits ends where they do
    ends_there : (past : ℕ) → Ends text from past → (ws : List Word) (d : Head ws (drop from text) (get_or text from 0)) → wordy d.first ≡ true
        → all is_word_byte (bytes_of d.first) ≡ true → past ≡ from + length (bytes_of d.first)
    ends_there past t ws d w a =
        let stops : Stops d.rest = stopping d.rest (LexLaws.word_ends d.spelled w) in
        let m : from + (past - from) ≡ past = omega (arith, t.low) in
        let l : length text - from ≡ length (bytes_of d.first ++ d.rest) = sym (length-drop from text) ∙ ap length d.bytes_are in
        let z : past - from ≡ length (bytes_of d.first) =
        run_same (bytes_of d.first) d.rest (past - from) a stops (omega (arith, t.high)) (rw d.bytes_are at t.run)
        (rw (← d.bytes_are, drop-drop (past - from) from text, m) t.stop) in
        omega (arith, t.low)
      where
        stopping : (bs : List ℕ) → LexLaws.Stops bs → Stops bs
        stopping [] u = tt
        stopping (b ∷ bs) u = u

    pub number_next : (kind : Kind) → kind_code kind ≡ class → class ≡ 1 → (past : ℕ) → Ends text from past → (v : Bool) (ws : List Word) → Spelled v ws (drop at text) → Next text at ws (Some (record { word = kind; from = from; past = past }))
    number_next kind same e past t v ws s = by (headed h v ws s) (headed h v ws s).begun
      where
        by : (d : Head ws (drop from text) (get_or text from 0)) → Begins d.first (get_or text from 0) → Next text at ws (Some (record { word = kind; from = from; past = past }))
        by d (lettered a b x y) = absurd (omega arith)
        by d (numeral a b x y) = found ws kind past d (same ∙ e ∙ sym b) (ends_there past t ws d x y)
        by d (arrow a b x) = absurd (omega arith)
        by d (single a b x y) = absurd (omega arith)

    pub letters_next : class ≡ 0 → (past : ℕ) (kind : Kind) → Ends text from past → kind_code kind ≡ code_of (word_of (take (past - from) (drop from text)))
        → (v : Bool) (ws : List Word) → Spelled v ws (drop at text) → Next text at ws (Some (record { word = kind; from = from; past = past }))
    letters_next e past kind t c v ws s = by (headed h v ws s) (headed h v ws s).begun
      where
        by : (d : Head ws (drop from text) (get_or text from 0)) → Begins d.first (get_or text from 0) → Next text at ws (Some (record { word = kind; from = from; past = past }))
        by d (lettered a b x y) =
            let q : past ≡ from + length (bytes_of d.first) = ends_there past t ws d b x in
            let m : past - from ≡ length (bytes_of d.first) = omega arith in
            let u : take (past - from) (drop from text) ≡ bytes_of d.first = rw (m, d.bytes_are) (take-append_seam (bytes_of d.first) d.rest) in
            found ws kind past d (c ∙ rw u (ap code_of y)) q
        by d (numeral a b x y) = absurd (omega arith)
        by d (arrow a b x) = absurd (omega arith)
        by d (single a b x y) = absurd (omega arith)

    -- a space is passed before, and what begins no word begins no text that spells words
    pub nothing_next : 18 ≤ class → (v : Bool) (ws : List Word) → Spelled v ws (drop at text) → Next text at ws None
    nothing_next e v ws s = by (headed h v ws s) (headed h v ws s).begun
      where
        by : (d : Head ws (drop from text) (get_or text from 0)) → Begins d.first (get_or text from 0) → Next text at ws None
        by d (lettered a b x y) = absurd (omega arith)
        by d (numeral a b x y) = absurd (omega arith)
        by d (arrow a b x) = absurd (omega arith)
        by d (single a b x y) = absurd (omega (arith, code_lt d.first))

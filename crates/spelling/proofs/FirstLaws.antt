-- The first word of a text that spells words: its first byte says what it is, and where it ends. Assumes nothing.
use Prim.Native.Nat.{ℕ, suc, ◌+◌, ◌≤◌, ◌<◌}
use native.Mathlib.Omega.{arith}
use native.Mathlib.Numerals.{add-one}
use mathlib.Core.Path.{◌≡◌, refl}
use mathlib.Core.Bool.{Bool, true, false}
use mathlib.Core.List.{List, [], ◌∷◌, ◌++◌}
use lib.ListN.{length, drop, get_or}
use lib.Seq.{drop-cons}
use Rattle.trees.proofs.Tests.{false_true, and_true_l}
use Rattle.text.specs.Words.{is_letter, is_digit, all, Word, name, number, constant, prefix, binary, quantifier, opening, closing, comma, dot, once, historically, previously, negation, sinces, ands, ors, implies, universal, existential, bytes_of, led, some, Proper, Spelled, nothing, space, word}
use Rattle.spelling.specs.Codes.{Spells, Skips}

-- no word begins with a space
no_space : (w : Word) (rest bs : List ℕ) → Proper w → bytes_of w ++ rest ≡ 32 ∷ bs → ⊥
unfolding bytes_of led all is_letter is_digit some
no_space (name []) rest bs p e = false_true refl p.letter
no_space (name (x ∷ xs)) rest bs p e = let z : x ≡ 32 = cc in false_true refl (rw z at p.letter)
no_space (number []) rest bs p e = false_true refl p.one
no_space (number (x ∷ xs)) rest bs p e = let z : x ≡ 32 = cc in false_true refl (and_true_l (is_digit 32) (all is_digit xs) (rw z at p.digits))
no_space (constant true) rest bs p e = let z : ◌≡◌ {A = ℕ} 116 32 = cc in omega arith
no_space (constant false) rest bs p e = let z : ◌≡◌ {A = ℕ} 102 32 = cc in omega arith
no_space (prefix once) rest bs p e = let z : ◌≡◌ {A = ℕ} 80 32 = cc in omega arith
no_space (prefix historically) rest bs p e = let z : ◌≡◌ {A = ℕ} 72 32 = cc in omega arith
no_space (prefix previously) rest bs p e = let z : ◌≡◌ {A = ℕ} 64 32 = cc in omega arith
no_space (prefix negation) rest bs p e = let z : ◌≡◌ {A = ℕ} 33 32 = cc in omega arith
no_space (binary sinces) rest bs p e = let z : ◌≡◌ {A = ℕ} 83 32 = cc in omega arith
no_space (binary ands) rest bs p e = let z : ◌≡◌ {A = ℕ} 38 32 = cc in omega arith
no_space (binary ors) rest bs p e = let z : ◌≡◌ {A = ℕ} 124 32 = cc in omega arith
no_space (binary implies) rest bs p e = let z : ◌≡◌ {A = ℕ} 45 32 = cc in omega arith
no_space (quantifier universal) rest bs p e = let z : ◌≡◌ {A = ℕ} 102 32 = cc in omega arith
no_space (quantifier existential) rest bs p e = let z : ◌≡◌ {A = ℕ} 101 32 = cc in omega arith
no_space opening rest bs p e = let z : ◌≡◌ {A = ℕ} 40 32 = cc in omega arith
no_space closing rest bs p e = let z : ◌≡◌ {A = ℕ} 41 32 = cc in omega arith
no_space comma rest bs p e = let z : ◌≡◌ {A = ℕ} 44 32 = cc in omega arith
no_space dot rest bs p e = let z : ◌≡◌ {A = ℕ} 46 32 = cc in omega arith

-- past a space the words stay
unspace : {v : Bool} {ws : List Word} {l : List ℕ} (bs : List ℕ) → Spelled v ws l → l ≡ 32 ∷ bs → Spelled false ws bs
unspace bs nothing e = let z : ◌≡◌ {A = ℕ} 0 1 = cc in absurd (omega arith)
unspace bs (space {ws = ws} {bs = ys} s) e = let z : ys ≡ bs = cc in rw (← z) s
unspace bs (word w {bs = rest} p a s) e = absurd (no_space w rest bs p e)

-- the words from a place on are those from another on, spaces being passed
pub record Skipped (text : List ℕ) (at i : ℕ) : Type 0 where
  pub low : at ≤ i
  pub high : i ≤ length text
  pub words : (ws : List Word) → Spells ws (drop at text) → Spells ws (drop i text)

pub skip_none : (text : List ℕ) (at : ℕ) → at ≤ length text → Skipped text at at
skip_none text at h = record { low = omega arith; high = h; words = λ ws s. s }

module _ (text : List ℕ) (at i : ℕ) (k : Skipped text at i) where
  pub skip_more : i < length text → get_or text i 0 ≡ 32 → Skipped text at (i + 1)
  skip_more h e = record {
    low = omega (arith, k.low);
    high = omega arith;
    words = λ ws s.
        let t : Spells ws (drop i text) = k.words ws s in
        record { after = false; spelled = rw (add-one i) (unspace (drop (suc i) text) t.spelled (rw e at (drop-cons text i 0 h))) };
  }

  pub skip_stops : (get_or text i 0 ≡ 32 → ⊥) → Skips text at i
  skip_stops n = record { low = k.low; high = k.high; words = k.words; stop = λ h e. n e }

  pub skip_ends : length text ≤ i → Skips text at (length text)
  skip_ends h =
      let e : i ≡ length text = omega (arith, k.high) in
      record {
        low = omega (arith, k.low);
        high = omega arith;
        words = rw (← e) k.words;
        stop = λ l q. absurd (omega arith);
      }

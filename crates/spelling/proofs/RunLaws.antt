-- Runs of letters, digits and `_`: a word takes all of them after it. Assumes nothing.
use Prim.Native.Nat.{ℕ, zero, suc, ◌+◌, ◌-◌, ◌≤◌, ◌<◌, ◌*◌}
use native.Mathlib.Omega.{arith}
use mathlib.Core.Path.{◌≡◌, refl, sym, ap, ◌∙◌}
use mathlib.Core.Bool.{true, false}
use mathlib.Core.List.{List, [], ◌∷◌, ◌++◌}
use lib.ListN.{length, take, drop, get_or, length-drop}
use lib.Seq.{drop-cons, drop-length, take-suc, get_or-drop}
use native.Mathlib.Numerals.{add-one}
use Rattle.trees.proofs.Tests.{false_true, and_true_l, and_true_r}
use Rattle.text.specs.Words.{is_word_byte, all}
use Rattle.text.specs.Unfold.{value_after}
use Rattle.text.proofs.LexLaws.{value_grows}
use Rattle.spelling.specs.Codes.{Stops, Ends}

-- the run of word bytes at the front is as long as the word
pub run_same : (x rest : List ℕ) (n : ℕ) → all is_word_byte x ≡ true → Stops rest → n ≤ length (x ++ rest)
    → all is_word_byte (take n (x ++ rest)) ≡ true → Stops (drop n (x ++ rest)) → n ≡ length x
unfolding all
run_same [] [] zero a s l r e = refl
run_same [] [] (suc n) a s l r e = absurd (omega arith)
run_same [] (b ∷ rest) zero a s l r e = refl
run_same [] (b ∷ rest) (suc n) a s l r e = absurd (false_true s (and_true_l (is_word_byte b) (all is_word_byte (take n rest)) r))
run_same (b ∷ x) rest zero a s l r e = absurd (false_true e (and_true_l (is_word_byte b) (all is_word_byte x) a))
run_same (b ∷ x) rest (suc n) a s l r e =
    ap suc
    (run_same x rest n (and_true_r (is_word_byte b) (all is_word_byte x) a) s (omega (arith, l))
    (and_true_r (is_word_byte b) (all is_word_byte (take n (x ++ rest))) r) e)

-- the bytes from a place on up to another are letters, digits and `_`
pub record Run (text : List ℕ) (at i : ℕ) : Type 0 where
  pub low : at ≤ i
  pub high : i ≤ length text
  pub run : all is_word_byte (take (i - at) (drop at text)) ≡ true

all_snoc : (xs : List ℕ) (b : ℕ) → all is_word_byte xs ≡ true → is_word_byte b ≡ true → all is_word_byte (xs ++ (b ∷ [])) ≡ true
unfolding all
all_snoc [] b h e = rw e
all_snoc (x ∷ xs) b h e =
    rw (and_true_l (is_word_byte x) (all is_word_byte xs) h) (all_snoc xs b (and_true_r (is_word_byte x) (all is_word_byte xs) h) e)

pub run_none : (text : List ℕ) (at : ℕ) → at ≤ length text → Run text at at
unfolding all
run_none text at h =
    let z : at - at ≡ 0 = omega arith in
    record { low = omega arith; high = h; run = rw z }

module _ (text : List ℕ) (at i : ℕ) (r : Run text at i) where
  pub run_more : i < length text → is_word_byte (get_or text i 0) ≡ true → Run text at (i + 1)
  run_more h e =
      let n : (i + 1) - at ≡ suc (i - at) = omega (arith, r.low) in
      let m : at + (i - at) ≡ i = omega (arith, r.low) in
      let l : i - at < length (drop at text) = simp length-drop (omega (arith, r.low)) in
      record {
        low = omega (arith, r.low);
        high = omega arith;
        run = rw (n, take-suc (drop at text) (i - at) 0 l, get_or-drop at text (i - at) 0, m) (all_snoc _ _ r.run e);
      }

  pub run_stops : i < length text → is_word_byte (get_or text i 0) ≡ false → Ends text at i
  run_stops h e = record { low = r.low; high = r.high; run = r.run; stop = rw (drop-cons text i 0 h) e }

  pub run_ends : length text ≤ i → Ends text at (length text)
  run_ends h =
      let e : i ≡ length text = omega (arith, r.high) in
      record { low = omega (arith, r.low); high = omega arith; run = rw (← e) r.run; stop = rw (drop-length text) tt }

-- the digits left, read after the value, give the value of all
pub record Reading (digits : List ℕ) (i value : ℕ) : Type 0 where
  pub small : value < 4294967296
  pub rest : value_after 0 digits ≡ value_after value (drop i digits)

module _ (digits : List ℕ) (i value : ℕ) (r : Reading digits i value) where
  read_one : i < length digits → value_after 0 digits ≡ value_after (value * 10 + (get_or digits i 0 - 48)) (drop (suc i) digits)
  unfolding value_after
  read_one h = r.rest ∙ rw (drop-cons digits i 0 h)

  pub read_more : i < length digits → (next : ℕ) → next ≡ value * 10 + (get_or digits i 0 - 48) → next < 4294967296 → Reading digits (i + 1) next
  read_more h next e l = record { small = l; rest = read_one h ∙ rw (add-one i, e) }

  -- a value that is too large already
  pub read_over : i < length digits → 4294967296 ≤ value * 10 + (get_or digits i 0 - 48) → 4294967296 ≤ value_after 0 digits
  read_over h l = omega (arith, read_one h, value_grows (value * 10 + (get_or digits i 0 - 48)) (drop (suc i) digits))

  pub read_all : length digits ≤ i → i ≤ length digits → value ≡ value_after 0 digits
  unfolding value_after
  read_all h l =
      let e : i ≡ length digits = omega arith in
      sym (r.rest ∙ rw (e, drop-length digits))

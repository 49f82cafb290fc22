-- Laws of `Put`: byte after byte, and one text behind another. Assumes nothing.
use Prim.Native.Nat.{ℕ, ◌+◌, ◌-◌, ◌*◌, ◌/◌, ◌%◌, ◌≤◌}
use native.Mathlib.Omega.{arith}
use mathlib.Core.Path.{◌≡◌, refl, sym, ap, subst, ◌∙◌}
use mathlib.Core.List.{List, [], ◌∷◌, ◌++◌, append_assoc, append-nil}
use lib.ListN.{length, take, drop, length-append, take-append-drop}
use lib.Seq.{take_at, length-take-le, drop-drop}
use borrow.Rule.Slice.PartMut.{put_mid, mid_len, same_len_mid, drop_put}
use Rattle.lines.specs.Numeral.{numeral}
use Rattle.lines.specs.Format.{spaced}
use Rattle.lines.proofs.Numeral.{numeral_grows}
use Rattle.answers.specs.Answers.{Put, word_line}

-- what two lists have in common from a place on they have in common from any later place on
pub drop_later : (xs ys : List ℕ) (n m : ℕ) → drop n xs ≡ drop n ys → drop (n + m) xs ≡ drop (n + m) ys
drop_later xs ys n m e = sym (drop-drop m n xs) ∙ ap (drop m) e ∙ drop-drop m n ys

-- a text that is copied over a part of the slice
pub put_copied : {before : List ℕ} {at : ℕ} {text copy : List ℕ} → at + length text ≤ length before → copy ≡ text
    → Put before at text (put_mid at ((at + length text) - at) before copy) (at + length text)
put_copied {before} {at} {text} {copy} h e =
    let many : length copy ≡ (at + length text) - at = ap length e ∙ omega arith in
    let front : length (take at before ++ copy) ≡ at + length text =
    omega (arith, length-append (take at before) copy, length-take-le at before (omega arith), ap length e) in
    record {
      past = refl;
      inside = omega (arith, same_len_mid at ((at + length text) - at) before copy (many ∙ sym (mid_len at (at + length text) before h)));
      shown = ap (take (at + length text)) (sym (append_assoc (take at before) copy _))
          ∙ take_at (take at before ++ copy) _ (at + length text) front
          ∙ ap (λ (l : List ℕ). take at before ++ l) e;
      rest = drop_put at (at + length text) before copy (omega arith) h many;
    }

pub copied_long : (before : List ℕ) (at : ℕ) {text copy : List ℕ} → at + length text ≤ length before → copy ≡ text
    → length (put_mid at ((at + length text) - at) before copy) ≡ length before
copied_long before at {text} {copy} h e =
    let many : length copy ≡ (at + length text) - at = ap length e ∙ omega arith in
    same_len_mid at ((at + length text) - at) before copy (many ∙ sym (mid_len at (at + length text) before h))

-- no text
pub put_none : {before : List ℕ} {at : ℕ} → at ≤ length before → Put before at [] before at
put_none {before} {at} h = record { past = omega arith; inside = h; shown = sym (append-nil (take at before)); rest = refl }

-- one text behind another
pub put_both : {before : List ℕ} {at : ℕ} {text mid : List ℕ} {n : ℕ} {more after : List ℕ} {next : ℕ} → Put before at text mid n
    → Put mid n more after next → Put before at (text ++ more) after next
put_both {before} {at} {text} {mid} {n} {more} {after} {next} p q =
    record {
      past = omega (arith, p.past, q.past, length-append text more);
      inside = q.inside;
      shown = q.shown ∙ ap (λ (l : List ℕ). l ++ more) p.shown ∙ append_assoc (take at before) text more;
      rest = q.rest ∙ subst (λ (m : ℕ). drop m mid ≡ drop m before) (sym q.past) (drop_later mid before n (length more) p.rest);
    }

-- another name of the text
pub put_same : {before : List ℕ} {at : ℕ} {text more after : List ℕ} {next : ℕ} → text ≡ more → Put before at text after next → Put before at more after next
put_same {before} {at} {text} {more} {after} {next} e p = subst (λ (t : List ℕ). Put before at t after next) e p

-- a number of two digits or more is its tenth part and its last digit
pub numeral_last : (n : ℕ) → 10 ≤ n → numeral n ≡ numeral (n / 10) ++ ((48 + n % 10) ∷ [])
numeral_last n h =
    let whole : n / 10 * 10 + n % 10 ≡ n = omega arith in
    ap numeral (sym whole) ∙ numeral_grows (n / 10) (n % 10) (omega arith) (omega arith)

-- a word, two numbers, each after a space, and a line end
pub word_line_law : (word : List ℕ) (a b : ℕ) → word ++ ((32 ∷ numeral a) ++ ((32 ∷ numeral b) ++ (10 ∷ []))) ≡ word_line word a b
unfolding word_line spaced
word_line_law word a b =
    ap (λ (l : List ℕ). word ++ (32 ∷ l))
    (ap (λ (l : List ℕ). numeral a ++ (32 ∷ (l ++ (10 ∷ [])))) (sym (append-nil (numeral b)))
    ∙ sym (append_assoc (numeral a) (32 ∷ (numeral b ++ [])) (10 ∷ [])))

-- a text is put in one way: two slices left, and two places, are the same
pub one_put : {before : List ℕ} {at : ℕ} {text a b : List ℕ} {m n : ℕ} → Put before at text a m → Put before at text b n → (a ≡ b) × (m ≡ n)
one_put {before} {at} {text} {a} {b} {m} {n} p q = (sym (take-append-drop m a) ∙ halves ∙ take-append-drop n b, place)
  where
    place : m ≡ n
    place = p.past ∙ sym q.past

    halves : take m a ++ drop m a ≡ take n b ++ drop n b
    halves = cc (p.shown, q.shown, p.rest, q.rest, place)

-- The theorems on translating: what success gives, and what refusals 1 to 3 say. Assumes nothing.
use Prim.Native.Nat.{ℕ, ◌-◌, ◌*◌, ◌≤◌}
use native.Mathlib.Omega.{arith}
use mathlib.Core.Path.{◌≡◌, refl, sym, ap, ◌∙◌}
use mathlib.Core.Bool.{Bool, true, false}
use mathlib.Core.List.{List, ◌++◌}
use lib.Dec.{eqb, leb}
use lib.ListN.{length, take, replicate, length-append, length-replicate}
use lib.Seq.{take_at}
use borrow.Author.Tests.{leb-true, leb-false, le-leb, lt-leb, eqb-true, eqb-false, eq-eqb, ne_eqb}
use Rattle.meaning.specs.Qtl.{Formula}
use Rattle.meaning.specs.Rows.{right, check_rows, rule_of, formula_at}
use Rattle.text.specs.Grammar.{Reading, RuleText, Place}
use Rattle.text.specs.Machine.{Result, refused, reads}
use Rattle.text.specs.Reader.{read, place_of}
use Rattle.text.specs.Unfold.{atoms, predicate_names, variable_names, formula_of}
use Rattle.text.specs.Parts.{rows_of, numbers}
use Rattle.text.specs.Translate.{any_atom, too_large, too_many, clashes, sentence, padded, Answer, refuses, makes, judge_reading, answer_of, Says, wrong_slice, too_long, no_text, a_text}
use Rattle.text.specs.Translator.{judge_text, translate}
use Rattle.text.proofs.RuleTexts.{correct, complete, place, place_same}
use Rattle.text.proofs.NineLaws.{numbers_length}
use Rattle.text.proofs.CheckLaws.{Good}
use Rattle.text.proofs.Taken.{meaning_back, taken}
use Rattle.text.proofs.LimitLaws.{counting, reading_good}

-- what success says of the text: a reading, the only one; the names in order of their numbers; and in the slice of 576 numbers
-- the rows, which start takes and whose last one means the reading's formula, and 0 after them
pub record Made (bytes ns : List ℕ) (n : ℕ) (ps vs : List (List ℕ)) : Type 0 where
  pub reading : Reading
  pub text : RuleText bytes reading
  pub predicates : ps ≡ predicate_names reading
  pub slots : vs ≡ variable_names reading
  pub size : length ns ≡ 576
  pub rest : ns ≡ take (9 * n) ns ++ replicate (576 - 9 * n) 0
  pub right_rows : check_rows (take (9 * n) ns) ≡ right
  pub means : formula_at (rule_of (take (9 * n) ns)) (n - 1) ≡ formula_of reading

-- the tests that let a reading pass
record Passes (a b c d e g : Bool) : Type 0 where
  small : a ≡ false
  few : b ≡ false
  four : c ≡ true
  agreeing : d ≡ false
  shut : e ≡ true
  fitting : g ≡ true

passes : (a b c d e g : Bool) (f : Reading) (ns : List ℕ) (n : ℕ) (ps vs : List (List ℕ)) → judge_reading a b c d e g f ≡ makes ns n ps vs
    → Passes a b c d e g
unfolding judge_reading
passes true b c d e g f ns n ps vs z = let y : ◌≡◌ {A = ℕ} 0 1 = cc in absurd (omega arith)
passes false true c d e g f ns n ps vs z = let y : ◌≡◌ {A = ℕ} 0 1 = cc in absurd (omega arith)
passes false false false d e g f ns n ps vs z = let y : ◌≡◌ {A = ℕ} 0 1 = cc in absurd (omega arith)
passes false false true true e g f ns n ps vs z = let y : ◌≡◌ {A = ℕ} 0 1 = cc in absurd (omega arith)
passes false false true false false g f ns n ps vs z = let y : ◌≡◌ {A = ℕ} 0 1 = cc in absurd (omega arith)
passes false false true false true false f ns n ps vs z = let y : ◌≡◌ {A = ℕ} 0 1 = cc in absurd (omega arith)
passes false false true false true true f ns n ps vs z = record { small = refl; few = refl; four = refl; agreeing = refl; shut = refl; fitting = refl }

-- the slice begins with the rows
slice_rows : (f : Formula) → take (9 * length (rows_of f)) (padded (numbers (rows_of f))) ≡ numbers (rows_of f)
unfolding padded
slice_rows f = take_at (numbers (rows_of f)) (replicate (576 - length (numbers (rows_of f))) 0) (9 * length (rows_of f)) (numbers_length (rows_of f))

slice_size : (f : Formula) → length (rows_of f) ≤ 64 → length (padded (numbers (rows_of f))) ≡ 576
unfolding padded
slice_size f h =
    length-append (numbers (rows_of f)) (replicate (576 - length (numbers (rows_of f))) 0)
    ∙ rw (length-replicate {A = ℕ} (576 - length (numbers (rows_of f))) 0) (omega (arith, numbers_length (rows_of f)))

slice_rest : (f : Formula) → padded (numbers (rows_of f)) ≡ numbers (rows_of f) ++ replicate (576 - 9 * length (rows_of f)) 0
unfolding padded
slice_rest f = rw (numbers_length (rows_of f))

-- a reading that passes
reading_made : (bytes : List ℕ) (f : Reading) → RuleText bytes f → (ns : List ℕ) (n : ℕ) (ps vs : List (List ℕ)) → answer_of f ≡ makes ns n ps vs → Made bytes ns n ps vs
unfolding answer_of
reading_made bytes f h ns n ps vs e = go
    (passes (any_atom (λ a. too_large a.terms) (atoms f)) (any_atom (λ a. too_many a.terms) (atoms f))
    (leb (length (variable_names f)) 4) (clashes (atoms f)) (sentence (formula_of f)) (leb (length (rows_of (formula_of f))) 64) f ns n ps vs e)
  where
    go : Passes (any_atom (λ a. too_large a.terms) (atoms f)) (any_atom (λ a. too_many a.terms) (atoms f))
        (leb (length (variable_names f)) 4) (clashes (atoms f)) (sentence (formula_of f)) (leb (length (rows_of (formula_of f))) 64)
        → Made bytes ns n ps vs
    go t =
        let made : makes (padded (numbers (rows_of (formula_of f)))) (length (rows_of (formula_of f))) (predicate_names f) (variable_names f) ≡ makes ns n ps vs =
        unfold judge_reading in (sym (rw (t.small, t.few, t.four, t.agreeing, t.shut, t.fitting)) ∙ e) in
        let ns-is : padded (numbers (rows_of (formula_of f))) ≡ ns = cc in
        let n-is : length (rows_of (formula_of f)) ≡ n = cc in
        let ps-is : predicate_names f ≡ ps = cc in
        let vs-is : variable_names f ≡ vs = cc in
        let few : length (rows_of (formula_of f)) ≤ 64 = leb-true (length (rows_of (formula_of f))) 64 t.fitting in
        let good : Good (counting (atoms f) (predicate_names f)) (formula_of f) = reading_good f t.few t.four t.agreeing in
        record {
          reading = f;
          text = h;
          predicates = sym ps-is;
          slots = sym vs-is;
          size = rw (← ns-is) (slice_size (formula_of f) few);
          rest = rw (← ns-is, ← n-is, slice_rows (formula_of f)) (slice_rest (formula_of f));
          right_rows = rw (← ns-is, ← n-is, slice_rows (formula_of f)) (taken (counting (atoms f) (predicate_names f)) (formula_of f) good few t.shut);
          means = rw (← ns-is, ← n-is, slice_rows (formula_of f)) (meaning_back (counting (atoms f) (predicate_names f)) (formula_of f) good);
        }

-- success: "The rows must mean the text's formula, the grammar's reading being unique", and start takes them
text_made : (a b : Bool) (r : Result) (i : ℕ) (bytes ns : List ℕ) (n : ℕ) (ps vs : List (List ℕ)) → read bytes ≡ r → judge_text a b r i ≡ makes ns n ps vs
    → Made bytes ns n ps vs
unfolding judge_text
text_made false b r i bytes ns n ps vs q z = let y : ◌≡◌ {A = ℕ} 0 1 = cc in absurd (omega arith)
text_made true false r i bytes ns n ps vs q z = let y : ◌≡◌ {A = ℕ} 0 1 = cc in absurd (omega arith)
text_made true true refused i bytes ns n ps vs q z = let y : ◌≡◌ {A = ℕ} 0 1 = cc in absurd (omega arith)
text_made true true (reads f) i bytes ns n ps vs q z = reading_made bytes f (correct bytes f q) ns n ps vs z

pub made : (size : ℕ) (bytes ns : List ℕ) (n : ℕ) (ps vs : List (List ℕ)) → translate size bytes ≡ makes ns n ps vs → Made bytes ns n ps vs
unfolding translate
made size bytes ns n ps vs e = text_made (eqb size 576) (leb (length bytes) 4096) (read bytes) (place_of bytes) bytes ns n ps vs refl e

-- refusal 3: no rule text, and the place is the first byte (or the end) at which none can go on
pub record NoText (bytes : List ℕ) (i : ℕ) : Type 0 where
  pub none : (f : Reading) → RuleText bytes f → ⊥
  pub place_of_law : Place bytes i

pub refused_text : (bytes : List ℕ) → read bytes ≡ refused → NoText bytes (place_of bytes)
refused_text bytes e = record {
  none = λ f h.
      let one : read bytes ≡ reads f = complete bytes f h in
      let z : ◌≡◌ {A = ℕ} 0 1 = cc in
      omega arith;
  place_of_law = place bytes;
}

-- where there is no reading the machine reads nothing
unread : (bytes : List ℕ) → ((f : Reading) → RuleText bytes f → ⊥) → read bytes ≡ refused
unread bytes none = go (read bytes) refl
  where
    go : (r : Result) → read bytes ≡ r → r ≡ refused
    go refused e = refl
    go (reads f) e = absurd (none f (correct bytes f e))

-- a rule text is never refused with 3
pub answered : (bytes : List ℕ) (f : Reading) → RuleText bytes f → length bytes ≤ 4096 → translate 576 bytes ≡ answer_of f
unfolding translate judge_text
answered bytes f h l = rw (le-leb (length bytes) 4096 l, complete bytes f h)

-- the machine's answer is the answer
text_says : (bytes : List ℕ) (r : Result) → length bytes ≤ 4096 → read bytes ≡ r → Says 576 bytes (judge_text true true r (place_of bytes))
unfolding judge_text
text_says bytes refused l e =
    let h : NoText bytes (place_of bytes) = refused_text bytes e in
    no_text refl l h.none (place_of bytes) h.place_of_law
text_says bytes (reads f) l e = a_text refl l f (correct bytes f e)

long_says : (size : ℕ) (bytes : List ℕ) (q : Bool) → size ≡ 576 → leb (length bytes) 4096 ≡ q → Says size bytes (judge_text true q (read bytes) (place_of bytes))
unfolding judge_text
long_says size bytes true e l = rw e (text_says bytes (read bytes) (leb-true (length bytes) 4096 l) refl)
long_says size bytes false e l = too_long e (leb-false (length bytes) 4096 l)

slice_says : (size : ℕ) (bytes : List ℕ) (p : Bool) → eqb size 576 ≡ p → Says size bytes (judge_text p (leb (length bytes) 4096) (read bytes) (place_of bytes))
unfolding judge_text
slice_says size bytes true e = long_says size bytes (leb (length bytes) 4096) (eqb-true size 576 e) refl
slice_says size bytes false e = wrong_slice (eqb-false size 576 e)

pub says : (size : ℕ) (bytes : List ℕ) → Says size bytes (translate size bytes)
unfolding translate
says size bytes = slice_says size bytes (eqb size 576) refl

-- and there is no other
pub says_translate : {size : ℕ} {bytes : List ℕ} {a : Answer} → Says size bytes a → translate size bytes ≡ a
unfolding translate judge_text
says_translate {size} (wrong_slice h) = rw (ne_eqb size 576 h)
says_translate {size} {bytes} (too_long e l) = rw (eq-eqb size 576 e, lt-leb (length bytes) 4096 l)
says_translate {size} {bytes} (no_text e l none i p) = rw (eq-eqb size 576 e, le-leb (length bytes) 4096 l, unread bytes none) (ap (refuses 3) (place_same bytes (place_of bytes) i (place bytes) p))
says_translate {size} {bytes} (a_text e l f h) = rw (eq-eqb size 576 e, le-leb (length bytes) 4096 l, complete bytes f h)

-- refusal 3 is given for no other reason
three_reading : (a b c d e g : Bool) (f : Reading) (i : ℕ) → judge_reading a b c d e g f ≡ refuses 3 i → ⊥
unfolding judge_reading
three_reading true b c d e g f i z = let y : ◌≡◌ {A = ℕ} 4 3 = cc in omega arith
three_reading false true c d e g f i z = let y : ◌≡◌ {A = ℕ} 5 3 = cc in omega arith
three_reading false false false d e g f i z = let y : ◌≡◌ {A = ℕ} 6 3 = cc in omega arith
three_reading false false true true e g f i z = let y : ◌≡◌ {A = ℕ} 7 3 = cc in omega arith
three_reading false false true false false g f i z = let y : ◌≡◌ {A = ℕ} 8 3 = cc in omega arith
three_reading false false true false true false f i z = let y : ◌≡◌ {A = ℕ} 9 3 = cc in omega arith
three_reading false false true false true true f i z = let y : ◌≡◌ {A = ℕ} 0 1 = cc in omega arith

three_text : (a b : Bool) (bytes : List ℕ) (r : Result) (i : ℕ) → read bytes ≡ r → judge_text a b r (place_of bytes) ≡ refuses 3 i → NoText bytes i
unfolding judge_text
three_text false b bytes r i q z = let y : ◌≡◌ {A = ℕ} 1 3 = cc in absurd (omega arith)
three_text true false bytes r i q z = let y : ◌≡◌ {A = ℕ} 2 3 = cc in absurd (omega arith)
three_text true true bytes refused i q z =
    let y : place_of bytes ≡ i = cc in
    rw (← y) (refused_text bytes q)
three_text true true bytes (reads f) i q z = absurd (unfold answer_of in three_reading _ _ _ _ _ _ f i z)

pub three : (size : ℕ) (bytes : List ℕ) (i : ℕ) → translate size bytes ≡ refuses 3 i → NoText bytes i
unfolding translate
three size bytes i z = three_text (eqb size 576) (leb (length bytes) 4096) bytes (read bytes) i refl z

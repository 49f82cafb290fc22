-- A byte comes where nothing is pending: by its class. Assumes nothing.
use Prim.Native.Nat.{ℕ, ◌+◌, ◌-◌, ◌*◌, ◌≤◌, ◌<◌}
use native.Mathlib.Omega.{arith}
use mathlib.Core.Path.{◌≡◌, refl, sym, ap, ◌∙◌}
use mathlib.Core.Bool.{Bool, true, false}
use mathlib.Core.List.{List, [], ◌∷◌}
use lib.Dec.{eqb}
use lib.ListN.{length, take, drop, get_or}
use borrow.Author.Tests.{ne_eqb}
use lib.Seq.{drop-cons}
use Rattle.trees.proofs.Tests.{false_true}
use Rattle.std.specs.Prelude.{None}
use Rattle.text.specs.Words.{Word, name, number, constant, prefix, binary, quantifier, opening, closing, comma, dot, once, historically, previously, negation, sinces, ands, ors, implies, universal, existential, bytes_of, wordy}
use Rattle.text.specs.Machine.{Stage, wants, ended, named, binds, bound, argues, argued, stopped, give}
use Rattle.text.specs.Reader.{gap, numerals, dash, at, Class, blank, letter, digit, minus, sign, foreign, class_of, joins, grows, lead, counts, begin}
use Rattle.text.specs.Shape.{shape}
use Rattle.text.proofs.ClassLaws.{IsClass, is_letter_law, is_digit_law, is_blank, is_minus, is_sign, is_foreign, classed}
use Rattle.spelling.specs.Codes.{code_of, class_number, mode_number}
use Rattle.scan.specs.Looks.{Sound, Shaped, Looks, Gives, GivesTo, Begins, BeginsTo, Leads, Joins}

-- the words of one sign
record SignCode (w : Word) : Type 0 where
  least : 2 ≤ code_of w
  most : code_of w < 18
  single : code_of w ≡ 11 → ⊥

sign_code : (w : Word) (b : ℕ) → b ∷ [] ≡ bytes_of w → wordy w ≡ false → SignCode w
unfolding bytes_of wordy code_of
sign_code (name x) b e q = absurd (false_true q refl)
sign_code (number ds) b e q = absurd (false_true q refl)
sign_code (constant true) b e q = absurd (false_true q refl)
sign_code (constant false) b e q = absurd (false_true q refl)
sign_code (prefix once) b e q = absurd (false_true q refl)
sign_code (prefix historically) b e q = absurd (false_true q refl)
sign_code (prefix previously) b e q = record { least = omega arith; most = omega arith; single = λ z. omega arith }
sign_code (prefix negation) b e q = record { least = omega arith; most = omega arith; single = λ z. omega arith }
sign_code (binary sinces) b e q = absurd (false_true q refl)
sign_code (binary ands) b e q = record { least = omega arith; most = omega arith; single = λ z. omega arith }
sign_code (binary ors) b e q = record { least = omega arith; most = omega arith; single = λ z. omega arith }
sign_code (binary implies) b e q = let z : ◌≡◌ {A = ℕ} 0 1 = cc in absurd (omega arith)
sign_code (quantifier universal) b e q = absurd (false_true q refl)
sign_code (quantifier existential) b e q = absurd (false_true q refl)
sign_code opening b e q = record { least = omega arith; most = omega arith; single = λ z. omega arith }
sign_code closing b e q = record { least = omega arith; most = omega arith; single = λ z. omega arith }
sign_code comma b e q = record { least = omega arith; most = omega arith; single = λ z. omega arith }
sign_code dot b e q = record { least = omega arith; most = omega arith; single = λ z. omega arith }

as_letter : (b : ℕ) (c : Class) → IsClass b c → class_number c ≡ 0 → c ≡ letter
unfolding class_number
as_letter b c (is_letter_law l) z = refl
as_letter b c (is_digit_law l) z = absurd (omega arith)
as_letter b c (is_blank l) z = absurd (omega arith)
as_letter b c (is_minus l) z = absurd (omega arith)
as_letter b c (is_sign w e q p) z = absurd (omega (arith, (sign_code w b e q).least))
as_letter b c is_foreign z = absurd (omega arith)

as_digit : (b : ℕ) (c : Class) → IsClass b c → class_number c ≡ 1 → c ≡ digit
unfolding class_number
as_digit b c (is_letter_law l) z = absurd (omega arith)
as_digit b c (is_digit_law l) z = refl
as_digit b c (is_blank l) z = absurd (omega arith)
as_digit b c (is_minus l) z = absurd (omega arith)
as_digit b c (is_sign w e q p) z = absurd (omega (arith, (sign_code w b e q).least))
as_digit b c is_foreign z = absurd (omega arith)

as_minus : (b : ℕ) (c : Class) → IsClass b c → class_number c ≡ 11 → c ≡ minus
unfolding class_number
as_minus b c (is_letter_law l) z = absurd (omega arith)
as_minus b c (is_digit_law l) z = absurd (omega arith)
as_minus b c (is_blank l) z = absurd (omega arith)
as_minus b c (is_minus l) z = refl
as_minus b c (is_sign w e q p) z = absurd ((sign_code w b e q).single z)
as_minus b c is_foreign z = absurd (omega arith)

as_blank : (b : ℕ) (c : Class) → IsClass b c → class_number c ≡ 18 → c ≡ blank
unfolding class_number
as_blank b c (is_letter_law l) z = absurd (omega arith)
as_blank b c (is_digit_law l) z = absurd (omega arith)
as_blank b c (is_blank l) z = refl
as_blank b c (is_minus l) z = absurd (omega arith)
as_blank b c (is_sign w e q p) z = absurd (omega (arith, (sign_code w b e q).most))
as_blank b c is_foreign z = absurd (omega arith)

as_foreign : (b : ℕ) (c : Class) → IsClass b c → class_number c ≡ 19 → c ≡ foreign
unfolding class_number
as_foreign b c (is_letter_law l) z = absurd (omega arith)
as_foreign b c (is_digit_law l) z = absurd (omega arith)
as_foreign b c (is_blank l) z = absurd (omega arith)
as_foreign b c (is_minus l) z = absurd (omega arith)
as_foreign b c (is_sign w e q p) z = absurd (omega (arith, (sign_code w b e q).most))
as_foreign b c is_foreign z = refl

-- any other number is a sign's
pub record Signed (c : Class) : Type 0 where
  pub the : Word
  pub is : c ≡ sign the

as_sign : (b : ℕ) (c : Class) → IsClass b c → (class_number c ≡ 0 → ⊥) → (class_number c ≡ 1 → ⊥) → (class_number c ≡ 11 → ⊥) → (class_number c ≡ 18 → ⊥)
    → (class_number c ≡ 19 → ⊥) → Signed c
unfolding class_number
as_sign b c (is_letter_law l) h i j k m = absurd (h refl)
as_sign b c (is_digit_law l) h i j k m = absurd (i refl)
as_sign b c (is_blank l) h i j k m = absurd (k refl)
as_sign b c (is_minus l) h i j k m = absurd (j refl)
as_sign b c (is_sign w e q p) h i j k m = record { the = w; is = refl }
as_sign b c is_foreign h i j k m = absurd (m refl)

counts_mode : (t : Stage) → counts t ≡ eqb (mode_number (shape t).mode) 5
unfolding counts shape mode_number
counts_mode (wants ks) = refl
counts_mode (ended f ks) = refl
counts_mode (named p ks) = refl
counts_mode (binds q ks) = refl
counts_mode (bound q x ks) = refl
counts_mode (argues p gs ks) = refl
counts_mode (argued p gs ks) = refl
counts_mode stopped = refl

begin_number : (t : Stage) (b : ℕ) → counts t ≡ true → begin t b digit ≡ at (numerals (b ∷ [])) t
unfolding begin
begin_number t b k = rw (k, begin)

begin_no_number : (t : Stage) (b : ℕ) → counts t ≡ false → begin t b digit ≡ at gap stopped
unfolding begin
begin_no_number t b k = rw (k, begin)

begin_dash : (t : Stage) (b : ℕ) → joins t ≡ true → begin t b minus ≡ at dash t
unfolding begin
begin_dash t b k = rw (k, begin)

begin_no_dash : (t : Stage) (b : ℕ) → joins t ≡ false → begin t b minus ≡ at gap stopped
unfolding begin
begin_no_dash t b k = rw (k, begin)

begin_blank : (t : Stage) (b : ℕ) → begin t b blank ≡ at gap t
unfolding begin
begin_blank t b = refl

begin_foreign : (t : Stage) (b : ℕ) → begin t b foreign ≡ at gap stopped
unfolding begin
begin_foreign t b = refl

begin_sign : (t : Stage) (b : ℕ) (w : Word) → begin t b (sign w) ≡ at gap (give t w)
unfolding begin
begin_sign t b w = refl

sign_number : (w : Word) → class_number (sign w) ≡ code_of w
unfolding class_number
sign_number w = refl

-- a machine that has stopped stays so
pub stopped_is : (t : Stage) → 7 ≡ mode_number (shape t).mode → t ≡ stopped
unfolding mode_number shape
stopped_is (wants ks) e = absurd (omega arith)
stopped_is (ended f ks) e = absurd (omega arith)
stopped_is (named p ks) e = absurd (omega arith)
stopped_is (binds q ks) e = absurd (omega arith)
stopped_is (bound q x ks) e = absurd (omega arith)
stopped_is (argues p gs ks) e = absurd (omega arith)
stopped_is (argued p gs ks) e = absurd (omega arith)
stopped_is stopped e = refl

begin_over : (b : ℕ) (c : Class) → begin stopped b c ≡ at gap stopped
unfolding begin lead grows joins counts give
begin_over b blank = refl
begin_over b letter = refl
begin_over b digit = refl
begin_over b minus = refl
begin_over b (sign w) = refl
begin_over b foreign = refl

pub stays_stopped : (text : List ℕ) (i : ℕ) (t : Stage) (b : ℕ) (c : Class) → Shaped 7 0 t → Looks text i 0 0 7 0 (begin t b c)
unfolding shape mode_number
stays_stopped text i t b c s = rw (stopped_is t s.mode_is, begin_over b c) (refl, record { mode_is = refl; depth_is = refl })

module _ (text : List ℕ) (i mode depth class : ℕ) (h : i < length text) (m : mode ≡ 7 → ⊥) (d : depth ≤ 2 * i + 1) (cl : class ≡ class_number (class_of (get_or text i 0))) where
  sound : {from' mode' depth' : ℕ} → (mode' ≡ 7 → ⊥) → depth' ≤ 2 * i + 2 → from' ≤ i + 1 → Sound (i + 1) from' mode' depth'
  sound a b f = record { live = a; shallow = omega arith; past = f }

  halted : Looks text (i + 1) 0 0 7 0 (at gap stopped)
  unfolding shape mode_number
  halted = (refl, record { mode_is = refl; depth_is = refl })

  one_byte : take ((i + 1) - i) (drop i text) ≡ get_or text i 0 ∷ []
  one_byte =
      let z : (i + 1) - i ≡ 1 = omega arith in
      rw (z, drop-cons text i 0 h)

  pub letter_begins : (r : Bool) → Leads mode (get_or text i 0) r → class ≡ 0 → r ≡ true → Begins text i mode depth 1 i mode depth
  letter_begins r l e z = record {
    sound = sound m (omega arith) (omega arith);
    shows = λ t s. rw (as_letter (get_or text i 0) (class_of (get_or text i 0)) (classed (get_or text i 0)) (sym cl ∙ e), l.yes t s.mode_is z) (refl, s, one_byte);
  }

  pub letter_stops : (r : Bool) → Leads mode (get_or text i 0) r → class ≡ 0 → r ≡ false → BeginsTo text i mode depth None
  letter_stops r l e z = λ t s. rw (as_letter (get_or text i 0) (class_of (get_or text i 0)) (classed (get_or text i 0)) (sym cl ∙ e), l.no t s.mode_is z) halted

  pub digit_begins : class ≡ 1 → mode ≡ 5 → Begins text i mode depth 2 0 mode depth
  digit_begins e z = record {
    sound = sound m (omega arith) (omega arith);
    shows = λ t s.
        let k : counts t ≡ true = counts_mode t ∙ rw (← s.mode_is, z) in
        rw (as_digit (get_or text i 0) (class_of (get_or text i 0)) (classed (get_or text i 0)) (sym cl ∙ e), begin_number t (get_or text i 0) k) (refl, s);
  }

  pub digit_stops : class ≡ 1 → (mode ≡ 5 → ⊥) → BeginsTo text i mode depth None
  digit_stops e z = λ t s.
      let k : counts t ≡ false = counts_mode t ∙ rw (← s.mode_is) (ne_eqb mode 5 z) in
      rw (as_digit (get_or text i 0) (class_of (get_or text i 0)) (classed (get_or text i 0)) (sym cl ∙ e), begin_no_number t (get_or text i 0) k) halted

  pub dash_begins : (r : Bool) → Joins mode r → class ≡ 11 → r ≡ true → Begins text i mode depth 3 0 mode depth
  dash_begins r j e z = record {
    sound = sound m (omega arith) (omega arith);
    shows = λ t s.
        let k : joins t ≡ true = sym (j t s.mode_is) ∙ z in
        rw (as_minus (get_or text i 0) (class_of (get_or text i 0)) (classed (get_or text i 0)) (sym cl ∙ e), begin_dash t (get_or text i 0) k) (refl, s);
  }

  pub dash_stops : (r : Bool) → Joins mode r → class ≡ 11 → r ≡ false → BeginsTo text i mode depth None
  dash_stops r j e z = λ t s.
      let k : joins t ≡ false = sym (j t s.mode_is) ∙ z in
      rw (as_minus (get_or text i 0) (class_of (get_or text i 0)) (classed (get_or text i 0)) (sym cl ∙ e), begin_no_dash t (get_or text i 0) k) halted

  pub blank_begins : class ≡ 18 → Begins text i mode depth 0 0 mode depth
  blank_begins e = record {
    sound = sound m (omega arith) (omega arith);
    shows = λ t s. rw (as_blank (get_or text i 0) (class_of (get_or text i 0)) (classed (get_or text i 0)) (sym cl ∙ e), begin_blank t (get_or text i 0)) (refl, s);
  }

  pub foreign_stops : class ≡ 19 → BeginsTo text i mode depth None
  foreign_stops e = λ t s. rw (as_foreign (get_or text i 0) (class_of (get_or text i 0)) (classed (get_or text i 0)) (sym cl ∙ e), begin_foreign t (get_or text i 0)) halted

  pub sign_begins : (mode' depth' : ℕ) → (class ≡ 0 → ⊥) → (class ≡ 1 → ⊥) → (class ≡ 11 → ⊥) → (class ≡ 18 → ⊥) → (class ≡ 19 → ⊥) → Gives mode depth class mode' depth'
      → Begins text i mode depth 0 0 mode' depth'
  sign_begins mode' depth' a b c e f g = record {
    sound = sound g.live (omega (arith, g.near)) (omega arith);
    shows = λ t s.
        let w : Signed (class_of (get_or text i 0)) =
        as_sign (get_or text i 0) (class_of (get_or text i 0)) (classed (get_or text i 0)) (λ z. a (cl ∙ z)) (λ z. b (cl ∙ z)) (λ z. c (cl ∙ z)) (λ z. e (cl ∙ z)) (λ z. f (cl ∙ z)) in
        rw (w.is, begin_sign t (get_or text i 0) w.the) (refl, g.gives t w.the s (cl ∙ ap class_number w.is ∙ sign_number w.the));
  }

  pub sign_stops : (class ≡ 0 → ⊥) → (class ≡ 1 → ⊥) → (class ≡ 11 → ⊥) → (class ≡ 18 → ⊥) → (class ≡ 19 → ⊥) → GivesTo mode depth class None → BeginsTo text i mode depth None
  sign_stops a b c e f g = λ t s.
      let w : Signed (class_of (get_or text i 0)) =
      as_sign (get_or text i 0) (class_of (get_or text i 0)) (classed (get_or text i 0)) (λ z. a (cl ∙ z)) (λ z. b (cl ∙ z)) (λ z. c (cl ∙ z)) (λ z. e (cl ∙ z)) (λ z. f (cl ∙ z)) in
      rw (w.is, begin_sign t (get_or text i 0) w.the) (refl, g t w.the s (cl ∙ ap class_number w.is ∙ sign_number w.the))

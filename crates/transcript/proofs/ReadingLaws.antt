-- `line_of` is the reading of the line format: the bytes read as it, and as nothing else. Assumes nothing.
use Prim.Native.Nat.{ℕ, zero, suc, ◌+◌, ◌-◌, ◌*◌, ◌≤◌}
use native.Mathlib.Omega.{arith}
use mathlib.Core.Path.{◌≡◌, refl, sym, ap, ◌∙◌}
use mathlib.Core.Bool.{Bool, true, false, cond, ◌&&◌, true≢false}
use mathlib.Core.List.{List, [], ◌∷◌, ◌++◌, append_assoc}
use lib.Dec.{eqb, ltb, leb}
use Rattle.std.specs.Prelude.{Option, None, Some}
use lib.ListN.{length, take, drop, get_or, length-take, get_or-eq_default}
use lib.Seq.{get_or-take, get_or-drop}
use borrow.Author.Tests.{ltb-true, ltb-false, leb-true, eqb-true, lt-ltb, le-leb, eq-eqb, ne_eqb}
use Rattle.lines.specs.Numeral.{numeral}
use Rattle.lines.specs.Format.{Fits, Every, spaced, text, Right, Written, Reads}
use Rattle.lines.specs.declared.Line.{Line}
use Rattle.lines.specs.declared.Line.TheVariants.{Sizes, Row, Event}
use Rattle.lines.proofs.Numeral.{numeral_every}
use Rattle.lines.proofs.Text.{text_head}
use Rattle.lines.proofs.Run.{nine_places, four_places}
use Rattle.lines.proofs.Readings.{same_reading}
use Rattle.transcript.specs.Reading.{numbers_from, row_with, event_with, sizes_with, candidate, all_fit, all_zero, right_line, same_bytes, line_of}

-- both sides of a test that holds hold
both_true : (a b : Bool) → (a && b) ≡ true → (a ≡ true) × (b ≡ true)
both_true true b e = (refl, e)
both_true false b e = absurd (true≢false (sym e))

-- a digit is no space, and goes on with the number
digit_goes_on : (n d : ℕ) (rest : List ℕ) → numbers_from n ((48 + d) ∷ rest) ≡ numbers_from (n * 10 + d) rest
unfolding numbers_from
digit_goes_on n d rest =
    let same : n * 10 + ((48 + d) - 48) ≡ n * 10 + d = omega arith in
    rw (ne_eqb (48 + d) 32 (λ e. omega (arith, e))) (ap (λ (m : ℕ). numbers_from m rest) same)

from_zero : (n : ℕ) → 0 * 10 + n ≡ n
from_zero n = omega arith

-- the digits of n are the number n
numeral_number : (n : ℕ) (rest : List ℕ) → numbers_from 0 (numeral n ++ rest) ≡ numbers_from n rest
numeral_number =
    numeral_every
    (λ n ds. (rest : List ℕ) → numbers_from 0 (ds ++ rest) ≡ numbers_from n rest)
    (λ n h rest. digit_goes_on 0 n rest ∙ ap (λ (m : ℕ). numbers_from m rest) (from_zero n))
    (λ n d ds hn hd ih rest. ap (numbers_from 0) (append_assoc ds ((48 + d) ∷ []) rest) ∙ ih ((48 + d) ∷ rest) ∙ digit_goes_on n d rest)

-- the numbers of a run are its numbers
spaced_numbers : (n : ℕ) (ns : List ℕ) → numbers_from n (spaced ns) ≡ n ∷ ns
unfolding numbers_from spaced
spaced_numbers n [] = refl
spaced_numbers n (m ∷ ms) = ap (λ (l : List ℕ). n ∷ l) (numeral_number m (spaced ms) ∙ spaced_numbers m ms)

-- the first n of four numbers, of which those past n are 0, read at any place
take_reads : (n : ℕ) (values : List ℕ) (i : ℕ) → ((j : ℕ) → n ≤ j → get_or values j 0 ≡ 0) → get_or (take n values) i 0 ≡ get_or values i 0
take_reads n values i rest = go (ltb i n) refl
  where
    go : (q : Bool) → ltb i n ≡ q → get_or (take n values) i 0 ≡ get_or values i 0
    go true e = get_or-take n values i 0 (ltb-true i n e)
    go false e =
        let past : n ≤ i = ltb-false i n e in
        get_or-eq_default (take n values) 0 (omega (arith, length-take n values)) ∙ sym (rest i past)

-- the candidate of a right line's text is the line
pub candidate_text : (l : Line) → Right l → candidate (text l) ≡ l
unfolding candidate text sizes_with row_with event_with
candidate_text (Sizes k c) r =
    let head = text_head (text (Sizes k c)) (Sizes k c) (record { right = r; shown = refl }) in
    rw (ne_eqb (get_or (numeral k ++ spaced (c ∷ [])) 0 0) 114 (λ e. omega (arith, e, head.high)), ne_eqb (get_or (numeral k ++ spaced (c ∷ [])) 0 0) 101 (λ e. omega (arith, e, head.high)))
    (ap sizes_with (numeral_number k (spaced (c ∷ [])) ∙ spaced_numbers k (c ∷ [])))
candidate_text (Row nine) r = ap row_with (spaced_numbers 0 nine) ∙ ap Row (sym (nine_places nine r.nine))
candidate_text (Event p n values) r =
    let count : length (0 ∷ p ∷ take n values) - 2 ≡ n = omega (arith, length-take n values, r.few) in
    let at : (i : ℕ) → get_or (take n values) i 0 ≡ get_or values i 0 = λ i. take_reads n values i r.rest in
    ap event_with (spaced_numbers 0 (p ∷ take n values))
    ∙ (λ i. Event p (count i) (at 0 i ∷ at 1 i ∷ at 2 i ∷ at 3 i ∷ []))
    ∙ ap (Event p n) (sym (four_places values r.four))

-- numbers that fit pass the test, and numbers that pass it fit
fit_passes : (ns : List ℕ) → Every Fits ns → all_fit ns ≡ true
unfolding all_fit
fit_passes [] h = refl
fit_passes (n ∷ ns) h = rw (lt-ltb n 4294967296 h.0) (fit_passes ns h.1)

passes_fit : (ns : List ℕ) → all_fit ns ≡ true → Every Fits ns
unfolding all_fit
passes_fit [] e = tt
passes_fit (n ∷ ns) e =
    let both = both_true (ltb n 4294967296) (all_fit ns) e in
    (ltb-true n 4294967296 both.0, passes_fit ns both.1)

zero_passes : (ns : List ℕ) → ((i : ℕ) → get_or ns i 0 ≡ 0) → all_zero ns ≡ true
unfolding all_zero
zero_passes [] h = refl
zero_passes (n ∷ ns) h = rw (eq-eqb n 0 (h 0)) (zero_passes ns (λ i. h (suc i)))

passes_zero : (ns : List ℕ) → all_zero ns ≡ true → (i : ℕ) → get_or ns i 0 ≡ 0
unfolding all_zero
passes_zero [] e zero = refl
passes_zero [] e (suc i) = refl
passes_zero (n ∷ ns) e zero = eqb-true n 0 (both_true (eqb n 0) (all_zero ns) e).0
passes_zero (n ∷ ns) e (suc i) = passes_zero ns (both_true (eqb n 0) (all_zero ns) e).1 i

-- the numbers past the count are 0, said of the list that is left of them
rest_drops : (n : ℕ) (values : List ℕ) → ((j : ℕ) → n ≤ j → get_or values j 0 ≡ 0) → (i : ℕ) → get_or (drop n values) i 0 ≡ 0
rest_drops n values rest i = get_or-drop n values i 0 ∙ rest (n + i) (omega arith)

drops_rest : (n : ℕ) (values : List ℕ) → ((i : ℕ) → get_or (drop n values) i 0 ≡ 0) → (j : ℕ) → n ≤ j → get_or values j 0 ≡ 0
drops_rest n values zeros j h =
    let whole : j ≡ n + (j - n) = omega arith in
    ap (λ (m : ℕ). get_or values m 0) whole ∙ sym (get_or-drop n values (j - n) 0) ∙ zeros (j - n)

-- a right line passes the test, and a line that passes it is right
right_passes : (l : Line) → Right l → right_line l ≡ true
unfolding right_line
right_passes (Sizes k c) r = rw (fit_passes (k ∷ []) (r.0, tt), le-leb c 512 r.1)
right_passes (Row nine) r = rw (eq-eqb (length nine) 9 r.nine) (fit_passes nine r.fit)
right_passes (Event p n values) r =
    rw (fit_passes (p ∷ values) r.fit, eq-eqb (length values) 4 r.four, le-leb n 4 r.few) (zero_passes (drop n values) (rest_drops n values r.rest))

passes_right : (l : Line) → right_line l ≡ true → Right l
unfolding right_line
passes_right (Sizes k c) e =
    let both = both_true (all_fit (k ∷ [])) (leb c 512) e in
    ((passes_fit (k ∷ []) both.0).0, leb-true c 512 both.1)
passes_right (Row nine) e =
    let both = both_true (eqb (length nine) 9) (all_fit nine) e in
    record { nine = eqb-true (length nine) 9 both.0; fit = passes_fit nine both.1 }
passes_right (Event p n values) e =
    let both = both_true (all_fit (p ∷ values)) (eqb (length values) 4 && (leb n 4 && all_zero (drop n values))) e in
    let long = both_true (eqb (length values) 4) (leb n 4 && all_zero (drop n values)) both.1 in
    let more = both_true (leb n 4) (all_zero (drop n values)) long.1 in
    record {
      fit = passes_fit (p ∷ values) both.0;
      four = eqb-true (length values) 4 long.0;
      few = leb-true n 4 more.0;
      rest = drops_rest n values (passes_zero (drop n values) more.1);
    }

same_passes : (xs : List ℕ) → same_bytes xs xs ≡ true
unfolding same_bytes
same_passes [] = refl
same_passes (x ∷ xs) = rw (eq-eqb x x refl) (same_passes xs)

passes_same : (xs ys : List ℕ) → same_bytes xs ys ≡ true → xs ≡ ys
unfolding same_bytes
passes_same [] [] e = refl
passes_same [] (y ∷ ys) e = absurd (true≢false (sym e))
passes_same (x ∷ xs) [] e = absurd (true≢false (sym e))
passes_same (x ∷ xs) (y ∷ ys) e =
    let both = both_true (eqb x y) (same_bytes xs ys) e in
    let one : x ≡ y = eqb-true x y both.0 in
    let more : xs ≡ ys = passes_same xs ys both.1 in
    cc

-- the candidate of a right line's bytes passes both tests
written_passes : (bytes : List ℕ) (l : Line) → Written bytes l → (right_line (candidate bytes) && same_bytes (text (candidate bytes)) bytes) ≡ true
written_passes bytes l w =
    rw w.shown (rw (candidate_text l w.right) (rw (right_passes l w.right) (same_passes (text l))))

-- the bytes read as `line_of` of them
pub line_reads : (bytes : List ℕ) → Reads bytes (line_of bytes)
unfolding line_of
line_reads bytes = go (right_line (candidate bytes) && same_bytes (text (candidate bytes)) bytes) refl
  where
    go : (q : Bool) → (right_line (candidate bytes) && same_bytes (text (candidate bytes)) bytes) ≡ q → Reads bytes (cond q (Some (candidate bytes)) None)
    go true e =
        let both = both_true (right_line (candidate bytes)) (same_bytes (text (candidate bytes)) bytes) e in
        record { right = passes_right (candidate bytes) both.0; shown = sym (passes_same (text (candidate bytes)) bytes both.1) }
    go false e = record { none = λ l w. absurd (true≢false (sym (written_passes bytes l w) ∙ e)) }

-- and as nothing else
pub reads_as : (bytes : List ℕ) (l : Option Line) → Reads bytes l → l ≡ line_of bytes
reads_as bytes l r = same_reading bytes l (line_of bytes) r (line_reads bytes)

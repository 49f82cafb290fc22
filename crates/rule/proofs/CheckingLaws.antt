-- Laws of the check of a rule: what a walk over the rows keeps, what it finds, and that the outcome is one. Assumes nothing.
use Prim.Native.Nat.{ℕ, zero, suc, ◌+◌, ◌-◌, ◌/◌, ◌%◌, ◌≤◌, ◌<◌}
use mathlib.Core.Path.{◌≡◌, refl, sym, ◌∙◌}
use mathlib.Core.Bool.{Bool, true, false, not, ◌&&◌, and-false}
use mathlib.Core.List.{List}
use mathlib.Core.Logic.{◌≢◌, ⊎_elim}
use native.Mathlib.Omega.{arith}
use lib.Dec.{eqb, ltb, leb}
use lib.ListN.{length, get_or, set, replicate, length-set, length-replicate, get_or-replicate, get_or-eq_default}
use lib.Seq.{get_or-set_same, get_or-set_other}
use borrow.Author.Tests as Tests
use borrow.Author.Tests.{eq-eqb, ne_eqb, lt-ltb, le-ltb, le-leb, lt-leb}
use Rattle.trees.specs.Kept.{all_below}
use Rattle.trees.proofs.Tests.{lt_or_ge, false_true, not_true, and_true_r}
use Rattle.trees.proofs.KeptLaws.{all_at, all_of, not_false}
use Rattle.meaning.specs.Qtl.{free}
use Rattle.meaning.specs.Rows.{row_right, disagree, row_fault, row_at, count_of_rows, rule_of, formula_at, closed, first_below, fault, judge_rows, check_rows}
use Rattle.meaning.proofs.RowsLaws.{first_none, first_some, rows_length, row_ok}
use Rattle.rule.specs.Masks.{has_bit, mask_of, free_of_row}
use Rattle.std.specs.Prelude.{Result, Ok, Err}
use Rattle.rule.specs.declared.Fault.{Fault}
use Rattle.rule.specs.Checking.{agrees_before, found_of, Free, Checks}
use Rattle.rule.proofs.MasksLaws.{has_mask, mask_none, mask_same, mask_small}
use Rattle.rule.proofs.FormulasLaws.{free_row}

-- the rows have a shape that is taken
pub record Shaped (raw : List ℕ) : Type 0 where
  pub whole : length raw % 9 ≡ 0
  pub some : 0 < count_of_rows raw
  pub most : count_of_rows raw ≤ 64

-- the shape from what the code has tested
pub shaped : (raw : List ℕ) (n : ℕ) → n ≡ length raw / 9 → length raw % 9 ≡ 0 → 0 < n → n ≤ 64 → Shaped raw
unfolding count_of_rows
shaped raw n e w l h = record { whole = w; some = omega arith; most = omega arith }

-- what the walk knows of the rows before i
pub record Walked (raw masks : List ℕ) (i : ℕ) : Type 0 where
  pub size : length masks ≡ 64
  pub none : (j : ℕ) → j < i → row_fault raw j ≡ false
  pub free_of : (j : ℕ) → j < i → get_or masks j 0 ≡ mask_of (free (formula_at (rule_of raw) j))
  pub rest : (j : ℕ) → i ≤ j → get_or masks j 0 ≡ 0

-- before the first row
pub walk_start : (raw : List ℕ) → Walked raw (replicate 64 0) 0
walk_start raw = record {
  size = length-replicate {A = ℕ} 64 0;
  none = λ j h. absurd (omega arith);
  free_of = λ j h. absurd (omega arith);
  rest = λ j h. ⊎_elim
      (λ l. get_or-replicate {A = ℕ} 64 j 0 0 l)
      (λ l. let q : length (replicate {A = ℕ} 64 0) ≤ j = rw (length-replicate {A = ℕ} 64 0) l in get_or-eq_default (replicate 64 0) 0 q)
      (lt_or_ge j 64);
}

-- a right row that agrees with those before it is no fault
no_fault : (raw : List ℕ) (i : ℕ) → row_right raw i ≡ true → agrees_before raw i ≡ true → row_fault raw i ≡ false
unfolding row_fault agrees_before
no_fault raw i r a = rw (r, a)

-- and one that is no fault agrees with those before it
pub agreed : (raw : List ℕ) (i : ℕ) → row_fault raw i ≡ false → agrees_before raw i ≡ true
unfolding row_fault agrees_before
agreed raw i e = and_true_r (row_right raw i) (all_below i (λ j. not (disagree raw i j))) (Tests.not-false (row_right raw i && all_below i (λ j. not (disagree raw i j))) e)

-- a row that is not right is a fault
pub fault_row : (raw : List ℕ) (i : ℕ) → row_right raw i ≡ false → row_fault raw i ≡ true
unfolding row_fault
fault_row raw i r = rw r

-- a row that disagrees with an earlier one is a fault
pub fault_count : (raw : List ℕ) (i : ℕ) → agrees_before raw i ≡ false → row_fault raw i ≡ true
unfolding row_fault agrees_before
fault_count raw i a = rw (a, and-false (row_right raw i))

-- one more row
pub walk_more : (raw masks : List ℕ) (i m : ℕ) → Walked raw masks i → i < count_of_rows raw → i < 64 → row_right raw i ≡ true → agrees_before raw i ≡ true
    → m ≡ mask_of (free_of_row masks (row_at raw i)) → Walked raw (set masks i m) (i + 1)
walk_more raw masks i m w l k r a e = record {
  size = length-set masks i m ∙ w.size;
  none = λ j h. ⊎_elim (λ q. w.none j q) (λ q. let z : j ≡ i = omega arith in rw z (no_fault raw i r a)) (lt_or_ge j i);
  free_of = λ j h. ⊎_elim
      (λ q. get_or-set_other masks i j m 0 (λ z. omega arith) ∙ w.free_of j q)
      (λ q.
      let z : j ≡ i = omega arith in
      rw z (get_or-set_same masks i m 0 (omega (arith, w.size)) ∙ e ∙ mask_same (free_of_row masks (row_at raw i)) (free (formula_at (rule_of raw) i)) (free_row raw masks i l (row_ok raw i r) w.free_of)))
      (lt_or_ge j i);
  rest = λ j h. get_or-set_other masks i j m 0 (λ z. omega arith) ∙ w.rest j (omega arith);
}

-- the walk came to the end
pub walk_all : (raw masks : List ℕ) (i : ℕ) → Walked raw masks i → i ≡ count_of_rows raw → Walked raw masks (count_of_rows raw)
walk_all raw masks i w e = rw e at w

-- what a check finds is what is defined
pub check_found : (raw : List ℕ) (r : Result (List ℕ) Fault) → Checks raw r → found_of r ≡ check_rows raw
unfolding found_of
check_found raw (Ok masks) c = sym c.0
check_found raw (Err f) c = sym c

-- the shape
module _ (raw : List ℕ) where
  shape_bad : (eqb (length raw % 9) 0 && (ltb 0 (count_of_rows raw) && leb (count_of_rows raw) 64)) ≡ false → check_rows raw ≡ fault 0
  unfolding check_rows judge_rows
  shape_bad e = rw e

  pub parts_left : length raw % 9 ≢ 0 → check_rows raw ≡ fault 0
  parts_left h = shape_bad (rw (ne_eqb (length raw % 9) 0 h))

  pub no_rows : count_of_rows raw ≡ 0 → check_rows raw ≡ fault 0
  no_rows h = shape_bad (rw (h, and-false (eqb (length raw % 9) 0)))

  pub many_rows : 64 < count_of_rows raw → check_rows raw ≡ fault 0
  many_rows h = shape_bad (rw (lt-leb (count_of_rows raw) 64 h, and-false (ltb 0 (count_of_rows raw)), and-false (eqb (length raw % 9) 0)))

-- the first place of a fault
first_is : (n : ℕ) (f : ℕ → Bool) (i : ℕ) → i < n → f i ≡ true → ((j : ℕ) → j < i → f j ≡ false) → first_below n f ≡ i
first_is n f i l e h = ⊎_elim
    (λ q. absurd (false_true (h (first_below n f) q) (first_some n f (omega arith))))
    (λ q. ⊎_elim (λ p. absurd (false_true (first_none n f i p) e)) (λ p. omega arith) (lt_or_ge i (first_below n f)))
    (lt_or_ge (first_below n f) i)

-- no place of a fault
first_not : (n : ℕ) (f : ℕ → Bool) → ((j : ℕ) → j < n → f j ≡ false) → ltb (first_below n f) n ≡ false
first_not n f h = not_true (ltb (first_below n f) n) (λ e. let l = below e in false_true (h (first_below n f) l) (first_some n f l))
  where
    below : ltb (first_below n f) n ≡ true → first_below n f < n
    below e = ⊎_elim (λ l. l) (λ g. absurd (false_true (le-ltb (first_below n f) n g) e)) (lt_or_ge (first_below n f) n)

module _ (raw : List ℕ) (s : Shaped raw) where
  -- the first fault
  pub found_fault : (i : ℕ) → i < count_of_rows raw → ((j : ℕ) → j < i → row_fault raw j ≡ false) → row_fault raw i ≡ true → check_rows raw ≡ fault i
  unfolding check_rows judge_rows
  found_fault i l h e =
      rw (eq-eqb (length raw % 9) 0 s.whole, lt-ltb 0 (count_of_rows raw) s.some, le-leb (count_of_rows raw) 64 s.most, first_is (count_of_rows raw) (row_fault raw) i l e h, lt-ltb i (count_of_rows raw) l)

  -- no fault
  found_none : (c : Bool) → closed (rule_of raw) ≡ c → ((j : ℕ) → j < count_of_rows raw → row_fault raw j ≡ false)
      → check_rows raw ≡ judge_rows true false c 0 (count_of_rows raw)
  unfolding check_rows judge_rows
  found_none true e h = rw (eq-eqb (length raw % 9) 0 s.whole, lt-ltb 0 (count_of_rows raw) s.some, le-leb (count_of_rows raw) 64 s.most, first_not (count_of_rows raw) (row_fault raw) h, e)
  found_none false e h = rw (eq-eqb (length raw % 9) 0 s.whole, lt-ltb 0 (count_of_rows raw) s.some, le-leb (count_of_rows raw) 64 s.most, first_not (count_of_rows raw) (row_fault raw) h, e)

-- the last row's mask says whether the rule is closed
closed_is : (raw : List ℕ) → closed (rule_of raw) ≡ all_below 4 (λ v. not (free (formula_at (rule_of raw) (count_of_rows raw - 1)) v))
unfolding closed rule_of
closed_is raw = rw (rows_length raw (count_of_rows raw))

-- the number 0 has no bit
no_bit : (v : ℕ) → v < 4 → has_bit 0 v ≡ false
unfolding has_bit
no_bit zero h = refl
no_bit (suc zero) h = refl
no_bit (suc (suc zero)) h = refl
no_bit (suc (suc (suc zero))) h = refl
no_bit (suc (suc (suc (suc v)))) h = absurd (omega arith)

-- a mask that is 0 is the mask of no variable
mask_zero : (f : ℕ → Bool) (m : ℕ) → m ≡ mask_of f → m ≡ 0 → (v : ℕ) → v < 4 → f v ≡ false
mask_zero f m e z v h =
    let q : mask_of f ≡ 0 = sym e ∙ z in
    sym (has_mask f v h) ∙ rw q (no_bit v h)

-- a last mask of 0 is that of a closed rule
closed_zero : (raw : List ℕ) (m : ℕ) → m ≡ mask_of (free (formula_at (rule_of raw) (count_of_rows raw - 1))) → m ≡ 0 → closed (rule_of raw) ≡ true
closed_zero raw m e z =
    closed_is raw
    ∙ all_of 4 (λ v. not (free (formula_at (rule_of raw) (count_of_rows raw - 1)) v))
    (λ v h. rw (mask_zero (free (formula_at (rule_of raw) (count_of_rows raw - 1))) m e z v h))

-- any other last mask is that of an open rule
open_more : (raw : List ℕ) (m : ℕ) → m ≡ mask_of (free (formula_at (rule_of raw) (count_of_rows raw - 1))) → m ≢ 0 → closed (rule_of raw) ≡ false
open_more raw m e z =
    closed_is raw
    ∙ not_true (all_below 4 (λ v. not (free (formula_at (rule_of raw) (count_of_rows raw - 1)) v)))
    (λ t. z (e ∙ mask_same (free (formula_at (rule_of raw) (count_of_rows raw - 1))) (λ v. false)
    (λ v h. not_false (free (formula_at (rule_of raw) (count_of_rows raw - 1)) v) (all_at 4 (λ v. not (free (formula_at (rule_of raw) (count_of_rows raw - 1)) v)) t v h)) ∙ mask_none))

-- the masks of a walk that came to the end
free_masks : (raw masks : List ℕ) → Walked raw masks (count_of_rows raw) → Free raw masks
free_masks raw masks w = record {
  small = λ i. ⊎_elim
      (λ l. rw (w.free_of i l) (mask_small (free (formula_at (rule_of raw) i))))
      (λ l. omega (arith, w.rest i l))
      (lt_or_ge i (count_of_rows raw));
  bits = λ i v l h. rw (w.free_of i l) (has_mask (free (formula_at (rule_of raw) i)) v h);
  rest = w.rest;
}

-- the two ends of a walk without a fault
module _ (raw masks : List ℕ) (s : Shaped raw) (w : Walked raw masks (count_of_rows raw)) where
  pub found_open : get_or masks (count_of_rows raw - 1) 0 ≢ 0 → check_rows raw ≡ fault (count_of_rows raw - 1)
  unfolding judge_rows
  found_open z = found_none raw s false (open_more raw _ (w.free_of (count_of_rows raw - 1) (omega (arith, s.some))) z) w.none

  pub found_right : get_or masks (count_of_rows raw - 1) 0 ≡ 0 → Checks raw (Ok masks)
  unfolding judge_rows
  found_right z =
      (found_none raw s true (closed_zero raw _ (w.free_of (count_of_rows raw - 1) (omega (arith, s.some))) z) w.none, w.size, free_masks raw masks w)

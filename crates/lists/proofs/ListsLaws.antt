-- Laws of the check of the value lists, part by part, and of the work slice that it uses. Assumes nothing.
use Prim.Native.Nat.{ℕ, ◌+◌, ◌-◌, ◌*◌, ◌≤◌, ◌<◌}
use mathlib.Core.Path.{◌≡◌, refl, ap, sym, ◌∙◌}
use mathlib.Core.Bool.{Bool, true, false, ◌&&◌, ◌||◌}
use mathlib.Core.List.{List, ◌++◌}
use mathlib.Core.Logic.{⊎_elim}
use native.Mathlib.Numerals.{add-one}
use native.Mathlib.Omega.{arith}
use lib.Bits.{bit_or, or_add_and, and_le_l, and_le_r}
use lib.Dec.{eqb, ltb}
use lib.ListN.{length, get_or, take, drop, replicate, length-append, length-drop, length-replicate, get_or-replicate, get_or-append}
use lib.Seq.{get_or-take, get_or-drop, drop-drop, drop-append-add, length-take-le}
use borrow.Author.Tests.{ne_eqb, ltb-true, lt-ltb, le-leb, lt-leb}
use Rattle.trees.specs.Kept.{all_below}
use Rattle.trees.proofs.Tests.{EqCase, equal, other, eq_case, lt_or_ge, false_true, not_true, or_cases, or_l, or_r, iff_eq}
use Rattle.trees.proofs.KeptLaws.{all_at, all_of}
use Rattle.meaning.specs.Tables.{most, part, list_of, distinct, list_right}
use Rattle.numbers.specs.Asking.{with_counts}
use Rattle.lists.specs.Slots.{part_right}

-- a test of all numbers below n that fails of one fails, and one that holds of each holds
pub all_false : (n : ℕ) (f : ℕ → Bool) (i : ℕ) → i < n → f i ≡ false → false ≡ all_below n f
all_false n f i h e = sym (not_true (all_below n f) (λ t. false_true e (all_at n f t i h)))

pub all_true : (n : ℕ) (f : ℕ → Bool) → ((i : ℕ) → i < n → f i ≡ true) → true ≡ all_below n f
all_true n f h = sym (all_of n f h)

-- one number more is 0, or has a bit
pub zero_more : (list : List ℕ) (i bits : ℕ) → eqb bits 0 ≡ all_below i (λ j. eqb (get_or list j 0) 0)
    → eqb (bit_or bits (get_or list i 0)) 0 ≡ all_below (i + 1) (λ j. eqb (get_or list j 0) 0)
unfolding all_below
zero_more list i bits e = rw (add-one i, ← e) (go (eqb bits 0) (eq_case bits 0) (eqb x 0) (eq_case x 0))
  where
    x : ℕ
    x = get_or list i 0

    go : (s : Bool) → EqCase bits 0 s → (t : Bool) → EqCase x 0 t → eqb (bit_or bits x) 0 ≡ (s && t)
    go true (equal p) true (equal q) = rw (p, q)
    go true (equal p) false (other q) = ne_eqb (bit_or bits x) 0 (λ z. q (omega (arith, or_add_and bits x, and_le_l bits x)))
    go false (other p) t q = ne_eqb (bit_or bits x) 0 (λ z. p (omega (arith, or_add_and bits x, and_le_r bits x)))

-- the part of one variable
module _ (m count : ℕ) (xs : List ℕ) where
  pub part_over : m < count → false ≡ part_right m count xs
  unfolding part_right
  part_over h = rw (lt-leb count m h)

  module _ (h : count ≤ m) (size : length xs ≡ m) where
    zs : List ℕ
    zs = take (m - count) (drop count xs)

    zs_length : length zs ≡ m - count
    unfolding zs
    zs_length = length-take-le (m - count) (drop count xs) (rw length-drop (omega arith))

    zs_at : (j : ℕ) → j < m - count → get_or zs j 0 ≡ get_or xs (count + j) 0
    unfolding zs
    zs_at j k = get_or-take (m - count) (drop count xs) j 0 k ∙ get_or-drop count xs j 0

    -- "a number other than 0 where the rest is 0"
    rest_same : all_below (length zs) (λ j. eqb (get_or zs j 0) 0) ≡ all_below m (λ j. ltb j count || eqb (get_or xs j 0) 0)
    rest_same = iff_eq _ _
        (λ t. all_of m (λ j. ltb j count || eqb (get_or xs j 0) 0) (λ j k. ⊎_elim
        (λ p. or_l (ltb j count) (eqb (get_or xs j 0) 0) (lt-ltb j count p))
        (λ p.
        let z : count + (j - count) ≡ j = omega arith in
        let q = all_at (length zs) (λ j. eqb (get_or zs j 0) 0) t (j - count) (omega (arith, zs_length)) in
        or_r (ltb j count) (eqb (get_or xs j 0) 0) (rw (zs_at (j - count) (omega arith), z) at q))
        (lt_or_ge j count)))
        (λ t. all_of (length zs) (λ j. eqb (get_or zs j 0) 0) (λ j k.
        let l : j < m - count = omega (arith, zs_length) in
        rw (zs_at j l)
        (⊎_elim
        (λ p. absurd (let q = ltb-true (count + j) count p in omega arith))
        (λ p. p)
        (or_cases (ltb (count + j) count) (eqb (get_or xs (count + j) 0) 0) (all_at m (λ j. ltb j count || eqb (get_or xs j 0) 0) t (count + j) (omega arith))))))

    pub part_rest : all_below (length (take (m - count) (drop count xs))) (λ j. eqb (get_or (take (m - count) (drop count xs)) j 0) 0) ≡ false → false ≡ part_right m count xs
    unfolding part_right zs
    part_rest e = rw (le-leb count m h, ← rest_same, e) (sym (and_false (distinct (take count xs))))
      where
        and_false : (b : Bool) → (b && false) ≡ false
        and_false true = refl
        and_false false = refl

    pub part_differ : all_below (length (take (m - count) (drop count xs))) (λ j. eqb (get_or (take (m - count) (drop count xs)) j 0) 0) ≡ true
        → distinct (take (count - 0) (drop 0 xs)) ≡ part_right m count xs
    unfolding part_right zs
    part_differ e = let z : count - 0 ≡ count = omega arith in rw (z, le-leb count m h, ← rest_same, e) (sym (and_true (distinct (take count xs))))
      where
        and_true : (b : Bool) → (b && true) ≡ b
        and_true true = refl
        and_true false = refl

-- the four parts are the lists
pub lists_same : (k m : ℕ) (counts values : List ℕ) → m ≡ most k
    → all_below 4 (λ v. part_right m (get_or counts v 0) (take m (drop (v * m) values))) ≡ all_below 4 (list_right k (with_counts counts) values)
unfolding part_right list_right list_of part
lists_same k m counts values e = rw e

-- a part of the work slice cleared
pub cleared : (n : ℕ) (xs ys : List ℕ) → n ≤ length xs → ys ≡ replicate (length (take n xs)) 0 → ys ++ drop n xs ≡ replicate n 0 ++ drop n xs
cleared n xs ys h e = rw (e, length-take-le n xs h)

pub clear_length : (n : ℕ) (xs : List ℕ) → n ≤ length xs → length (replicate n 0 ++ drop n xs) ≡ length xs
clear_length n xs h = length-append (replicate n 0) (drop n xs) ∙ rw (length-replicate {A = ℕ} n 0, length-drop) (omega arith)

pub clear_zero : (n : ℕ) (xs : List ℕ) (i : ℕ) → i < n → get_or (replicate n 0 ++ drop n xs) i 0 ≡ 0
clear_zero n xs i h = get_or-append (replicate n 0) (drop n xs) 0 i (rw length-replicate h) ∙ get_or-replicate n i 0 0 h

pub clear_beyond : (n b : ℕ) (xs : List ℕ) → n ≤ b → drop b (replicate n 0 ++ drop n xs) ≡ drop b xs
clear_beyond n b xs h =
    let z : length {A = ℕ} (replicate n 0) + (b - n) ≡ b = rw length-replicate (omega arith) in
    let y : n + (b - n) ≡ b = omega arith in
    ap (λ (i : ℕ). drop i (replicate n 0 ++ drop n xs)) (sym z)
    ∙ (drop-append-add (replicate n 0) (drop n xs) (b - n) ∙ (drop-drop (b - n) n xs ∙ ap (λ (i : ℕ). drop i xs) y))

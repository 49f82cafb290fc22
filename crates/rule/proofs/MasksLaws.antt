-- Laws of masks: a mask has the bits of its test, and so have what is made of masks. Assumes nothing.
use Prim.Native.Nat.{ℕ, zero, suc, ◌+◌, ◌-◌, ◌*◌, ◌/◌, ◌%◌, ◌^◌, ◌≤◌, ◌<◌}
use mathlib.Core.Path.{◌≡◌, refl, ap, sym, ◌∙◌}
use mathlib.Core.Bool.{Bool, true, false, not, ◌&&◌, ◌||◌, and_comm, or-false, or_assoc}
use mathlib.Core.List.{List, [], ◌∷◌, ◌++◌, map}
use denote.Ref.{Bor}
use native.Mathlib.Nat.{mod-eq_of_lt}
use native.Mathlib.Omega.{arith}
use lib.Bits.{bit_or, bit_and, and_le_r, or_shr, or_mod, and_shr, and_mod}
use lib.Dec.{eqb}
use lib.ListN.{take}
use borrow.Author.Tests.{ne_eqb, eqb-true, eqb-false}
use Rattle.meaning.specs.Qtl.{Argument, variable, constant, free_arguments}
use Rattle.rule.specs.declared.Argument as Decoded
use Rattle.rule.specs.declared.Row.{Row}
use Rattle.rule.specs.Decoded.{argument_of, row_of}
use Rattle.rule.specs.Masks.{has_bit, digit, mask_of, free_of_row}

-- a digit is 0 or 1, and says its test
pub digit_small : (b : Bool) → digit b < 2
unfolding digit
digit_small true = omega arith
digit_small false = omega arith

-- the test of a digit
digit_test : (b : Bool) → eqb (digit b) 1 ≡ b
unfolding digit
digit_test true = refl
digit_test false = refl

-- the last digit of a number
pub digit_last : (x : ℕ) → digit (eqb (x % 2) 1) ≡ x % 2
unfolding digit
digit_last x = go (eqb (x % 2) 1) refl
  where
    go : (t : Bool) → eqb (x % 2) 1 ≡ t → digit t ≡ x % 2
    go true e = omega (arith, eqb-true (x % 2) 1 e)
    go false e = omega (arith, eqb-false (x % 2) 1 e)

-- four digits
pub mask_small : (f : ℕ → Bool) → mask_of f < 16
unfolding mask_of
mask_small f = omega (arith, digit_small (f 0), digit_small (f 1), digit_small (f 2), digit_small (f 3))

-- the mask of a test has its bits
pub has_mask : (f : ℕ → Bool) (v : ℕ) → v < 4 → has_bit (mask_of f) v ≡ f v
unfolding mask_of has_bit
has_mask f zero h =
    let e : mask_of f / 1 % 2 ≡ digit (f 0) = omega (arith, digit_small (f 0), digit_small (f 1), digit_small (f 2), digit_small (f 3)) in
    ap (λ (x : ℕ). eqb x 1) e ∙ digit_test (f 0)
has_mask f (suc zero) h =
    let e : mask_of f / 2 % 2 ≡ digit (f 1) = omega (arith, digit_small (f 0), digit_small (f 1), digit_small (f 2), digit_small (f 3)) in
    ap (λ (x : ℕ). eqb x 1) e ∙ digit_test (f 1)
has_mask f (suc (suc zero)) h =
    let e : mask_of f / 4 % 2 ≡ digit (f 2) = omega (arith, digit_small (f 0), digit_small (f 1), digit_small (f 2), digit_small (f 3)) in
    ap (λ (x : ℕ). eqb x 1) e ∙ digit_test (f 2)
has_mask f (suc (suc (suc zero))) h =
    let e : mask_of f / 8 % 2 ≡ digit (f 3) = omega (arith, digit_small (f 0), digit_small (f 1), digit_small (f 2), digit_small (f 3)) in
    ap (λ (x : ℕ). eqb x 1) e ∙ digit_test (f 3)
has_mask f (suc (suc (suc (suc v)))) h = absurd (omega arith)

-- only the four variables count
pub mask_same : (f g : ℕ → Bool) → ((v : ℕ) → v < 4 → f v ≡ g v) → mask_of f ≡ mask_of g
unfolding mask_of
mask_same f g h = rw (h 0 (omega arith), h 1 (omega arith), h 2 (omega arith), h 3 (omega arith))

-- two bits
bits_two : (m : ℕ) → m % 4 ≡ m / 1 % 2 + 2 * (m / 2 % 2)
bits_two m = omega arith

-- three bits
bits_three : (m : ℕ) → m % 8 ≡ m % 4 + 4 * (m / 4 % 2)
bits_three m = omega arith

-- four bits
bits_four : (m : ℕ) → m % 16 ≡ m % 8 + 8 * (m / 8 % 2)
bits_four m = omega arith

-- the mask of a number's bits is its last four
pub mask_has : (m : ℕ) → mask_of (has_bit m) ≡ m % 16
unfolding mask_of has_bit
mask_has m =
    rw (digit_last (m / 1), digit_last (m / 2), digit_last (m / 4), digit_last (m / 8), bits_four m, bits_three m, bits_two m)

-- the mask of no variable is 0
pub mask_none : mask_of (λ v. false) ≡ 0
unfolding mask_of digit
mask_none = refl

-- the bits of two numbers together, and those that both have
or_digit : (x y : ℕ) → x < 2 → y < 2 → eqb (bit_or x y) 1 ≡ (eqb x 1 || eqb y 1)
or_digit zero zero h k = refl
or_digit zero (suc zero) h k = refl
or_digit (suc zero) zero h k = refl
or_digit (suc zero) (suc zero) h k = refl
or_digit zero (suc (suc y)) h k = absurd (omega arith)
or_digit (suc zero) (suc (suc y)) h k = absurd (omega arith)
or_digit (suc (suc x)) y h k = absurd (omega arith)

and_digit : (x y : ℕ) → x < 2 → y < 2 → eqb (bit_and x y) 1 ≡ (eqb x 1 && eqb y 1)
and_digit zero zero h k = refl
and_digit zero (suc zero) h k = refl
and_digit (suc zero) zero h k = refl
and_digit (suc zero) (suc zero) h k = refl
and_digit zero (suc (suc y)) h k = absurd (omega arith)
and_digit (suc zero) (suc (suc y)) h k = absurd (omega arith)
and_digit (suc (suc x)) y h k = absurd (omega arith)

or_bit : (a b v : ℕ) → has_bit (bit_or a b) v ≡ (has_bit a v || has_bit b v)
unfolding has_bit
or_bit a b v = rw (or_shr a b v, or_mod (a / 2 ^ v) (b / 2 ^ v) 1) (or_digit (a / 2 ^ v % 2) (b / 2 ^ v % 2) (omega arith) (omega arith))

and_bit : (a b v : ℕ) → has_bit (bit_and a b) v ≡ (has_bit a v && has_bit b v)
unfolding has_bit
and_bit a b v = rw (and_shr a b v, and_mod (a / 2 ^ v) (b / 2 ^ v) 1) (and_digit (a / 2 ^ v % 2) (b / 2 ^ v % 2) (omega arith) (omega arith))

pub mask_or : (a b : ℕ) → bit_or a b % 16 ≡ mask_of (λ v. has_bit a v || has_bit b v)
mask_or a b = sym (mask_has (bit_or a b)) ∙ mask_same (has_bit (bit_or a b)) (λ v. has_bit a v || has_bit b v) (λ v h. or_bit a b v)

-- the mask of the other variables
mask_not : (f : ℕ → Bool) → 15 - mask_of f ≡ mask_of (λ v. not (f v))
unfolding mask_of digit
mask_not f = omega (arith, turned (f 0), turned (f 1), turned (f 2), turned (f 3))
  where
    turned : (b : Bool) → digit b + digit (not b) ≡ 1
    turned true = refl
    turned false = refl

pub mask_and : (f : ℕ → Bool) (m s : ℕ) → s ≡ mask_of f → bit_and m (15 - s) ≡ mask_of (λ v. not (f v) && has_bit m v)
mask_and f m s e =
    let low : bit_and m (15 - s) ≡ bit_and m (15 - s) % 16 = sym (mod-eq_of_lt (omega (arith, and_le_r m (15 - s)))) in
    low ∙ (sym (mask_has (bit_and m (15 - s))) ∙ mask_same (has_bit (bit_and m (15 - s))) (λ v. not (f v) && has_bit m v)
    (λ v h. and_bit m (15 - s) v ∙ rw (e, mask_not f, has_mask (λ v. not (f v)) v h) (and_comm (has_bit m v) (not (f v)))))

-- two masks joined
pub join_is : (f g : ℕ → Bool) {a b r : ℕ} → a ≡ mask_of f → b ≡ mask_of g → r ≡ mask_of (λ v. has_bit a v || has_bit b v) → r ≡ mask_of (λ v. f v || g v)
join_is f g {a} {b} p q e =
    e ∙ mask_same (λ v. has_bit a v || has_bit b v) (λ v. f v || g v) (λ v h. rw (p, q, has_mask f v h, has_mask g v h))

-- a mask without one variable
pub without_is : (x : ℕ) (f : ℕ → Bool) {m r : ℕ} → m ≡ mask_of f → r ≡ mask_of (λ v. not (eqb x v) && has_bit m v) → r ≡ mask_of (λ v. not (eqb x v) && f v)
without_is x f {m} p e =
    e ∙ mask_same (λ v. not (eqb x v) && has_bit m v) (λ v. not (eqb x v) && f v) (λ v h. rw (p, has_mask f v h))

-- the mask of one variable
pub single_some : (v : ℕ) → v < 4 → 1 * 2 ^ v % 4294967296 ≡ mask_of (eqb v)
unfolding mask_of digit
single_some zero h = refl
single_some (suc zero) h = refl
single_some (suc (suc zero)) h = refl
single_some (suc (suc (suc zero))) h = refl
single_some (suc (suc (suc (suc v)))) h = absurd (omega arith)

pub single_none : (v : ℕ) → 4 ≤ v → 0 ≡ mask_of (eqb v)
unfolding mask_of digit
single_none v h = rw (ne_eqb v 0 (λ e. omega arith), ne_eqb v 1 (λ e. omega arith), ne_eqb v 2 (λ e. omega arith), ne_eqb v 3 (λ e. omega arith))

-- the masks of arguments
pub variable_is : (w : ℕ) {r : ℕ} → r ≡ mask_of (eqb w) → r ≡ mask_of (free_arguments (variable w ∷ []))
unfolding free_arguments
variable_is w e = e ∙ mask_same (eqb w) (free_arguments (variable w ∷ [])) (λ v h. sym (or-false (eqb w v)))

-- the free variables of the first argument, and of the rest
first_free : (g : Argument) (gs : List Argument) (v : ℕ) → (free_arguments (g ∷ []) v || free_arguments gs v) ≡ free_arguments (g ∷ gs) v
unfolding free_arguments
first_free (variable w) gs v = rw (or-false (eqb w v))
first_free (constant c) gs v = refl

-- the free variables of two lists of arguments
both_free : (gs hs : List Argument) (v : ℕ) → free_arguments (gs ++ hs) v ≡ (free_arguments gs v || free_arguments hs v)
unfolding free_arguments
both_free [] hs v = refl
both_free (variable w ∷ gs) hs v = rw (both_free gs hs v) (sym (or_assoc (eqb w v) (free_arguments gs v) (free_arguments hs v)))
both_free (constant c ∷ gs) hs v = both_free gs hs v

-- one more argument
pub argument_more : (xs : List (Bor Decoded.Argument)) (x : Bor Decoded.Argument) {m a r : ℕ} → m ≡ mask_of (free_arguments (map argument_of (map (λ (a : Bor Decoded.Argument). a.now) xs)))
    → a ≡ mask_of (free_arguments (argument_of x.now ∷ [])) → r ≡ mask_of (λ v. has_bit m v || has_bit a v)
    → r ≡ mask_of (free_arguments (map argument_of (map (λ (a : Bor Decoded.Argument). a.now) (xs ++ x ∷ []))))
argument_more xs x p q e =
    let gs : List Argument = map argument_of (map (λ (a : Bor Decoded.Argument). a.now) xs) in
    let g : Argument = argument_of x.now in
    join_is (free_arguments gs) (free_arguments (g ∷ [])) p q e
    ∙ mask_same (λ v. free_arguments gs v || free_arguments (g ∷ []) v) (free_arguments (gs ++ g ∷ [])) (λ v h. sym (both_free gs (g ∷ []) v))
    ∙ ap (λ (hs : List Argument). mask_of (free_arguments hs)) (mapped_more xs x)
  where
    mapped_more : (xs : List (Bor Decoded.Argument)) (x : Bor Decoded.Argument)
        → map argument_of (map (λ (a : Bor Decoded.Argument). a.now) xs) ++ argument_of x.now ∷ [] ≡ map argument_of (map (λ (a : Bor Decoded.Argument). a.now) (xs ++ x ∷ []))
    mapped_more [] x = refl
    mapped_more (y ∷ xs) x = ap (λ (hs : List Argument). argument_of y.now ∷ hs) (mapped_more xs x)

-- the first of the mapped are the first mapped
pub take_mapped : {A B : Type 0} (f : A → B) (xs : List A) (n : ℕ) → map f (take n xs) ≡ take n (map f xs)
take_mapped f xs zero = refl
take_mapped f [] (suc n) = refl
take_mapped f (x ∷ xs) (suc n) = rw (take_mapped f xs n)

-- the mask of what a value was found to be is the mask of the value
pub argument_is : {a b : Decoded.Argument} {r : ℕ} → a ≡ b → r ≡ mask_of (free_arguments (argument_of b ∷ [])) → r ≡ mask_of (free_arguments (argument_of a ∷ []))
argument_is e p = rw e p

-- the same of a row
pub row_is : (masks : List ℕ) {a b : Row} {r : ℕ} → a ≡ b → r ≡ mask_of (free_of_row masks (row_of b)) → r ≡ mask_of (free_of_row masks (row_of a))
row_is masks e p = rw e p

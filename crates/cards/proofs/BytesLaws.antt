-- Laws of bytes: lengths, parts of joined bytes, equal lists. Assumes nothing.
use Prim.Native.Nat.{ℕ, zero, suc, ◌+◌, ◌-◌, ◌*◌, ◌/◌, ◌%◌, ◌≤◌, ◌<◌}
use native.Mathlib.Omega.{arith}
use native.Mathlib.Numerals.{add-one, add-two, add-three}
use mathlib.Core.Path.{◌≡◌, refl, ap}
use mathlib.Core.Bool.{true}
use mathlib.Core.List.{List, [], ◌∷◌, ◌++◌, map, append_assoc}
use lib.Dec.{eqb}
use lib.ListN.{length, take, drop, get_or, length-append}
use lib.Seq.{take_at, drop_at, drop-cons}
use borrow.Author.Tests.{eqb-true, eq-eqb}
use Rattle.cards.specs.Bytes.{bytes_of, number_of, filled, parts, joined, same, sums, check}
use Rattle.cards.proofs.Tests.{clash, and_left, and_right, and_both}

-- lengths
pub length_filled : (size : ℕ) (bs : List ℕ) → length (filled size bs) ≡ size
unfolding filled
length_filled zero bs = refl
length_filled (suc size) [] = ap suc (length_filled size [])
length_filled (suc size) (b ∷ bs) = ap suc (length_filled size bs)

pub length_bytes : (size n : ℕ) → length (bytes_of size n) ≡ size
unfolding bytes_of
length_bytes zero n = refl
length_bytes (suc size) n = ap suc (length_bytes size (n / 256))

pub length_sums : (a b : ℕ) (bs : List ℕ) → length (sums a b bs) ≡ 2
unfolding sums
length_sums a b [] = refl
length_sums a b (x ∷ xs) = length_sums ((a + x) % 255) ((b + (a + x) % 255) % 255) xs

pub length_check : (bs : List ℕ) → length (check bs) ≡ 2
unfolding check
length_check bs = length_sums 0 0 bs

pub length_parts : (size count : ℕ) (bs : List ℕ) → length (parts size count bs) ≡ count
unfolding parts
length_parts size zero bs = refl
length_parts size (suc count) bs = ap suc (length_parts size count (drop size bs))

-- four bytes hold a number below 2^32
pub four_bytes : (n : ℕ) → n < 4294967296 → number_of (bytes_of 4 n) ≡ n
unfolding number_of bytes_of
four_bytes n h = omega arith

-- bytes that fit are filled up after their end
pub filled_append : (room : ℕ) (xs ys : List ℕ) → length xs ≤ room → filled room (xs ++ ys) ≡ xs ++ filled (room - length xs) ys
unfolding filled
filled_append room [] ys h = let z : room - 0 ≡ room = omega arith in rw z
filled_append zero (x ∷ xs) ys h = absurd (omega arith)
filled_append (suc room) (x ∷ xs) ys h =
    let z : suc room - suc (length xs) ≡ room - length xs = omega arith in
    rw z (ap (λ (l : List ℕ). x ∷ l) (filled_append room xs ys (omega arith)))

-- the same numbers are one list
pub same_true : (xs ys : List ℕ) → same xs ys ≡ true → xs ≡ ys
unfolding same
same_true [] [] e = refl
same_true [] (y ∷ ys) e = absurd (clash e)
same_true (x ∷ xs) [] e = absurd (clash e)
same_true (x ∷ xs) (y ∷ ys) e =
    let first : x ≡ y = eqb-true x y (and_left (eqb x y) (same xs ys) e) in
    let rest : xs ≡ ys = same_true xs ys (and_right (eqb x y) (same xs ys) e) in
    cc

pub same_refl : (xs : List ℕ) → same xs xs ≡ true
unfolding same
same_refl [] = refl
same_refl (x ∷ xs) = and_both (eqb x x) (same xs xs) (eq-eqb x x refl) (same_refl xs)

-- the first parts of what is joined from parts of that size, and filled up, are those parts
pub parts-joined {ℓ} : {A : Type ℓ} (size : ℕ) (shown : A → List ℕ) → ((x : A) → length (shown x) ≡ size)
    → (count room : ℕ) (xs : List A) (rest : List ℕ) → length xs ≤ count → length (joined (map shown xs)) ≤ room
    → take (length xs) (parts size count (filled room (joined (map shown xs)) ++ rest)) ≡ map shown xs
unfolding parts joined
parts-joined size shown long count room [] rest few fits = refl
parts-joined size shown long zero room (x ∷ xs) rest few fits = absurd (omega arith)
parts-joined size shown long (suc count) room (x ∷ xs) rest few fits =
    let fit : length (shown x) + length (joined (map shown xs)) ≤ room = omega (arith, length-append (shown x) (joined (map shown xs))) in
    rw (
      filled_append room (shown x) (joined (map shown xs)) (omega arith),
      append_assoc (shown x) (filled (room - length (shown x)) (joined (map shown xs))) rest,
      take_at (shown x) (filled (room - length (shown x)) (joined (map shown xs)) ++ rest) size (long x),
      drop_at (shown x) (filled (room - length (shown x)) (joined (map shown xs)) ++ rest) size (long x),
    )
    (ap (λ (l : List (List ℕ)). shown x ∷ l) (parts-joined size shown long count (room - length (shown x)) xs rest (omega arith) (omega arith)))

-- the number of four bytes at a place
pub number_four : (s : List ℕ) (at : ℕ) → at + 4 ≤ length s
    → number_of (take 4 (drop at s)) ≡ get_or s at 0 + 256 * get_or s (at + 1) 0 + 65536 * get_or s (at + 2) 0 + 16777216 * get_or s (at + 3) 0
unfolding number_of
number_four s at h =
    rw (
      add-one,
      add-two,
      add-three,
      drop-cons s at 0 (omega arith),
      drop-cons s (suc at) 0 (omega arith),
      drop-cons s (suc (suc at)) 0 (omega arith),
      drop-cons s (suc (suc (suc at))) 0 (omega arith),
    ) (omega arith)

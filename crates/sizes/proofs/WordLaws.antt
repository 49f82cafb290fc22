-- Words of rows as numbers: the or of two numbers joins their words, and a power of two is one row. Assumes nothing.
use Prim.Native.Nat.{ℕ, zero, suc, ◌+◌, ◌-◌, ◌/◌, ◌^◌, ◌≤◌, ◌<◌, max}
use mathlib.Core.Path.{◌≡◌, refl, sym, ap, ◌∙◌, fun_ext}
use mathlib.Core.Bool.{Bool, true, false, ◌||◌}
use mathlib.Core.List.{List, [], ◌∷◌, map}
use native.Mathlib.Omega.{arith}
use lib.Bits.{bit_or}
use Rattle.std.specs.Int.{bit_at}
use Rattle.std.proofs.lemmas.Nat.Bits.{bit_at_lowest, bit_at-suc, bit_at-zero, bit_at_or, bit_at-pow_same, bit_at-pow_other, bit_at-lt}
use lib.Dec.{eqb}
use borrow.Author.Tests.{eq-eqb, ne_eqb}
use lib.ListN.{get_or, set}
use Rattle.trees.proofs.Tests.{EqCase, equal, other, eq_case}
use Rattle.sizes.specs.Words.{Word, none, give, has_bit, has_row}

-- the bit of the or of two bits
bit_or_law : (p q : ℕ) → p < 2 → q < 2 → eqb (max p q) 1 ≡ (eqb p 1 || eqb q 1)
bit_or_law zero zero h k = refl
bit_or_law zero (suc zero) h k = refl
bit_or_law (suc zero) zero h k = refl
bit_or_law (suc zero) (suc zero) h k = refl
bit_or_law zero (suc (suc q)) h k = absurd (omega arith)
bit_or_law (suc zero) (suc (suc q)) h k = absurd (omega arith)
bit_or_law (suc (suc p)) q h k = absurd (omega arith)

-- a bit of a number is the library's
bit_is : (n i : ℕ) → has_bit n i ≡ eqb (bit_at n i) 1
unfolding has_bit
bit_is n zero = rw (bit_at_lowest n) refl
bit_is n (suc i) = bit_is (n / 2) i ∙ sym (ap (λ (x : ℕ). eqb x 1) (bit_at-suc n i))

bits_or : (i a b : ℕ) → has_bit (bit_or a b) i ≡ (has_bit a i || has_bit b i)
bits_or i a b = rw (bit_is (bit_or a b) i, bit_is a i, bit_is b i, bit_at_or a b i) (bit_or_law (bit_at a i) (bit_at b i) (bit_at-lt a i) (bit_at-lt b i))

bits_none : (i : ℕ) → has_bit 0 i ≡ false
bits_none i = rw (bit_is 0 i, bit_at-zero i) refl

next : (i k : ℕ) → eqb i k ≡ eqb (suc i) (suc k)
next i k = go (eqb i k) (eq_case i k)
  where
    go : (b : Bool) → EqCase i k b → b ≡ eqb (suc i) (suc k)
    go true (equal e) = sym (eq-eqb (suc i) (suc k) (ap suc e))
    go false (other h) = sym (ne_eqb (suc i) (suc k) (omega arith))

-- a power of two has one bit
bits_only : (k i : ℕ) → has_bit (2 ^ k) i ≡ eqb i k
bits_only k i = bit_is (2 ^ k) i ∙ go (eqb i k) (eq_case i k)
  where
    go : (b : Bool) → EqCase i k b → eqb (bit_at (2 ^ k) i) 1 ≡ b
    go true (equal e) = rw (e, bit_at-pow_same k) refl
    go false (other h) = rw (bit_at-pow_other k i h) refl

-- the same of rows
pub rows_or : (base a b i : ℕ) → has_row base (bit_or a b) i ≡ (has_row base a i || has_row base b i)
unfolding has_row
rows_or zero a b i = bits_or i a b
rows_or (suc base) a b zero = refl
rows_or (suc base) a b (suc i) = rows_or base a b i

pub rows_none : (base i : ℕ) → has_row base 0 i ≡ false
unfolding has_row
rows_none zero i = bits_none i
rows_none (suc base) zero = refl
rows_none (suc base) (suc i) = rows_none base i

pub rows_only : (base k i : ℕ) → has_row base (2 ^ k) i ≡ eqb i (base + k)
unfolding has_row
rows_only zero k i = let e : 0 + k ≡ k = omega arith in rw e (bits_only k i)
rows_only (suc base) k zero = let e : suc base + k ≡ suc (base + k) = omega arith in rw e (sym (ne_eqb 0 (suc (base + k)) (omega arith)))
rows_only (suc base) k (suc i) = let e : suc base + k ≡ suc (base + k) = omega arith in rw e (rows_only base k i ∙ next i (base + k))

-- numbers as words
pub words_at : (base : ℕ) (ns : List ℕ) (j : ℕ) → get_or (map (has_row base) ns) j none ≡ has_row base (get_or ns j 0)
words_at base [] j = fun_ext (λ i. sym (rows_none base i))
words_at base (n ∷ ns) zero = refl
words_at base (n ∷ ns) (suc j) = words_at base ns j

map_set : (base : ℕ) (ns : List ℕ) (j n : ℕ) → map (has_row base) (set ns j n) ≡ set (map (has_row base) ns) j (has_row base n)
map_set base [] j n = refl
map_set base (m ∷ ns) zero n = refl
map_set base (m ∷ ns) (suc j) n = ap (λ (x : List Word). has_row base m ∷ x) (map_set base ns j n)

-- the rows of the number n joined to the number at place j
give_number : (base : ℕ) (ns : List ℕ) (j n : ℕ) → map (has_row base) (set ns j (bit_or (get_or ns j 0) n)) ≡ give (map (has_row base) ns) (suc (suc j)) (has_row base n)
unfolding give
give_number base ns j n =
    map_set base ns j (bit_or (get_or ns j 0) n)
    ∙ ap (set (map (has_row base) ns) j)
    (fun_ext (λ i. rows_or base (get_or ns j 0) n i ∙ ap (λ (x : Word). x i || has_row base n i) (sym (words_at base ns j))))

-- a leaf is given nothing
pub give_leaf : (ws : List Word) (r : ℕ) (w : Word) → r < 2 → give ws r w ≡ ws
unfolding give
give_leaf ws zero w h = refl
give_leaf ws (suc zero) w h = refl
give_leaf ws (suc (suc r)) w h = absurd (omega arith)

-- the number at the place of the reference r
pub give_at : (base : ℕ) (ns : List ℕ) (r n : ℕ) → 2 ≤ r → map (has_row base) (set ns (r - 2) (bit_or (get_or ns (r - 2) 0) n)) ≡ give (map (has_row base) ns) r (has_row base n)
give_at base ns r n h = let e : r ≡ suc (suc (r - 2)) = omega arith in give_number base ns (r - 2) n ∙ ap (λ (x : ℕ). give (map (has_row base) ns) x (has_row base n)) (sym e)

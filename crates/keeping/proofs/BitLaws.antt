-- Laws of sets as numbers, a bit an element: the or of two numbers joins their sets, and a power of two is one element.
-- Assumes nothing.
use Prim.Native.Nat.{ℕ, zero, suc, ◌^◌, ◌<◌, max}
use mathlib.Core.Path.{◌≡◌, refl, sym, ap, ◌∙◌}
use mathlib.Core.Bool.{Bool, true, false, ◌||◌}
use native.Mathlib.Omega.{arith}
use lib.Bits.{bit_or}
use lib.Dec.{eqb}
use borrow.Author.Tests.{eqb-true}
use Rattle.std.specs.Int.{bit_at}
use Rattle.std.proofs.lemmas.Nat.Bits.{bit_at-zero, bit_at_or, bit_at-pow_same, bit_at-pow_other, bit_at-lt, same_from_bits}
use Rattle.trees.proofs.Tests.{EqCase, equal, other, eq_case, or_l}
use Rattle.keeping.specs.Checks.{has_bit}

-- the larger of two digits is their or
digit_or : (p q : ℕ) → p < 2 → q < 2 → eqb (max p q) 1 ≡ (eqb p 1 || eqb q 1)
digit_or zero zero h k = refl
digit_or zero (suc zero) h k = refl
digit_or (suc zero) zero h k = refl
digit_or (suc zero) (suc zero) h k = refl
digit_or zero (suc (suc q)) h k = absurd (omega arith)
digit_or (suc zero) (suc (suc q)) h k = absurd (omega arith)
digit_or (suc (suc p)) q h k = absurd (omega arith)

-- the or of two numbers has the bits of both
pub or_has : (v a b : ℕ) → has_bit (bit_or a b) v ≡ (has_bit a v || has_bit b v)
unfolding has_bit
or_has v a b = rw (bit_at_or a b v) (digit_or (bit_at a v) (bit_at b v) (bit_at-lt a v) (bit_at-lt b v))

-- 0 has none
pub none_has : (v : ℕ) → has_bit 0 v ≡ false
unfolding has_bit
none_has v = rw (bit_at-zero v) refl

-- a power of two has one
pub one_has : (u v : ℕ) → has_bit (2 ^ u) v ≡ eqb u v
unfolding has_bit
one_has u v = go (eqb u v) (eq_case u v)
  where
    go : (b : Bool) → EqCase u v b → eqb (bit_at (2 ^ u) v) 1 ≡ b
    go true (equal e) = rw (e, bit_at-pow_same v) refl
    go false (other h) = rw (bit_at-pow_other u v (λ e. h (sym e))) refl

-- a number that the or with another does not change has the other's bits
pub within_has : (a b v : ℕ) → bit_or a b ≡ b → has_bit a v ≡ true → has_bit b v ≡ true
within_has a b v e h = ap (λ (x : ℕ). has_bit x v) (sym e) ∙ or_has v a b ∙ or_l (has_bit a v) (has_bit b v) h

-- and the other way round
pub has_within : (a b : ℕ) → ((v : ℕ) → has_bit a v ≡ true → has_bit b v ≡ true) → bit_or a b ≡ b
unfolding has_bit
has_within a b h = same_from_bits (bit_or a b) b (λ v. bit_at_or a b v ∙ larger (bit_at a v) (bit_at b v) (bit_at-lt a v) (bit_at-lt b v) (h v))
  where
    larger : (p q : ℕ) → p < 2 → q < 2 → (eqb p 1 ≡ true → eqb q 1 ≡ true) → max p q ≡ q
    larger zero q h k f = omega arith
    larger (suc zero) q h k f = let z = eqb-true q 1 (f refl) in omega arith
    larger (suc (suc p)) q h k f = absurd (omega arith)

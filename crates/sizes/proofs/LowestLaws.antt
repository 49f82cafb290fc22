-- Laws of a number's lowest bit: where it is, and the number without it. Assumes nothing.
use Prim.Native.Nat.{ℕ, zero, suc, ◌+◌, ◌*◌, ◌-◌, ◌/◌, ◌%◌, ◌^◌, ◌<◌, min}
use mathlib.Core.Path.{◌≡◌, refl, sym, ap, ap₂, ◌∙◌}
use mathlib.Core.Bool.{true, false}
use mathlib.Core.Logic.{◌≢◌, ◌⊎◌, inl, inr, ⊎_elim}
use native.Mathlib.Omega.{arith}
use lib.Bits.{bit_and, and_step, and_self}
use lib.Count.{under, count_trailing_zeros}
use lib.Dec.{eqb}
use Rattle.sizes.specs.Words.{has_bit}

-- of a number of k bits other than 0, z is the place of the lowest bit that is set, and v the number without it
pub record Lowest (k n z v : ℕ) : Type 0 where
  pub inside : z < k
  pub set : has_bit n z ≡ true
  pub clear : has_bit v z ≡ false
  pub others : (i : ℕ) → i ≢ z → has_bit v i ≡ has_bit n i

even_or_odd : (n : ℕ) → (n % 2 ≡ 0) ⊎ (n % 2 ≡ 1)
even_or_odd n = go (n % 2) (omega arith)
  where
    go : (x : ℕ) → x < 2 → (x ≡ 0) ⊎ (x ≡ 1)
    go zero h = inl refl
    go (suc zero) h = inr refl
    go (suc (suc x)) h = absurd (omega arith)

-- the number by its half, where its least bit is 0 and where it is 1
and_even : (n : ℕ) → n % 2 ≡ 0 → 0 < n → bit_and n (n - 1) ≡ bit_and (n / 2) (n / 2 - 1) * 2
and_even n e p =
    and_step n (n - 1)
    ∙ ap₂ (λ (x y : ℕ). bit_and (n / 2) x * 2 + min y ((n - 1) % 2)) (halved n e p) e
    ∙ plain (bit_and (n / 2) (n / 2 - 1) * 2) ((n - 1) % 2)
  where
    halved : (n : ℕ) → n % 2 ≡ 0 → 0 < n → (n - 1) / 2 ≡ n / 2 - 1
    halved n e p = omega arith

    plain : (x y : ℕ) → x + min 0 y ≡ x
    plain x y = omega arith

and_odd : (n : ℕ) → n % 2 ≡ 1 → bit_and n (n - 1) ≡ n / 2 * 2
and_odd n e =
    and_step n (n - 1)
    ∙ ap₂ (λ (x y : ℕ). bit_and (n / 2) x * 2 + min (n % 2) y) (halved n e) (least n e)
    ∙ ap (λ (x : ℕ). x * 2 + min (n % 2) 0) (and_self (n / 2))
    ∙ plain (n / 2 * 2) (n % 2)
  where
    halved : (n : ℕ) → n % 2 ≡ 1 → (n - 1) / 2 ≡ n / 2
    halved n e = omega arith

    least : (n : ℕ) → n % 2 ≡ 1 → (n - 1) % 2 ≡ 0
    least n e = omega arith

    plain : (x y : ℕ) → x + min y 0 ≡ x
    plain x y = omega arith

twice_half : (x y : ℕ) → x ≡ y * 2 → x / 2 ≡ y
twice_half x y e = omega arith

twice_low : (x y : ℕ) → x ≡ y * 2 → x % 2 ≡ 0
twice_low x y e = omega arith

pub lowest : (k n : ℕ) → 0 < n → n < 2 ^ k → Lowest k n (count_trailing_zeros k n) (bit_and n (n - 1))
unfolding count_trailing_zeros has_bit
lowest zero n p h = absurd (omega arith)
lowest (suc k) n p h = ⊎_elim (λ e. even e (lowest k (n / 2))) odd (even_or_odd n)
  where
    even : n % 2 ≡ 0 → (0 < n / 2 → n / 2 < 2 ^ k → Lowest k (n / 2) (count_trailing_zeros k (n / 2)) (bit_and (n / 2) (n / 2 - 1)))
        → Lowest (suc k) n (under (n % 2) (count_trailing_zeros k (n / 2))) (bit_and n (n - 1))
    even e f =
        let r = f (omega arith) (omega arith) in
        let a = and_even n e p in
        rw e (record {
          inside = omega (arith, r.inside);
          set = r.set;
          clear = ap (λ (x : ℕ). has_bit x (count_trailing_zeros k (n / 2))) (twice_half (bit_and n (n - 1)) _ a) ∙ r.clear;
          others = others_even r a;
        })
      where
        others_even : Lowest k (n / 2) (count_trailing_zeros k (n / 2)) (bit_and (n / 2) (n / 2 - 1)) → bit_and n (n - 1) ≡ bit_and (n / 2) (n / 2 - 1) * 2
            → (i : ℕ) → i ≢ suc (count_trailing_zeros k (n / 2)) → has_bit (bit_and n (n - 1)) i ≡ has_bit n i
        others_even r a zero g = ap (λ (x : ℕ). eqb x 1) (twice_low (bit_and n (n - 1)) _ a ∙ sym e)
        others_even r a (suc i) g = ap (λ (x : ℕ). has_bit x i) (twice_half (bit_and n (n - 1)) _ a) ∙ r.others i (λ z. g (ap suc z))

    odd : n % 2 ≡ 1 → Lowest (suc k) n (under (n % 2) (count_trailing_zeros k (n / 2))) (bit_and n (n - 1))
    odd e =
        let a = and_odd n e in
        rw e (record {
          inside = omega arith;
          set = ap (λ (x : ℕ). eqb x 1) e;
          clear = ap (λ (x : ℕ). eqb x 1) (twice_low (bit_and n (n - 1)) _ a);
          others = others_odd a;
        })
      where
        others_odd : bit_and n (n - 1) ≡ n / 2 * 2 → (i : ℕ) → i ≢ 0 → has_bit (bit_and n (n - 1)) i ≡ has_bit n i
        others_odd a zero g = absurd (g refl)
        others_odd a (suc i) g = ap (λ (x : ℕ). has_bit x i) (twice_half (bit_and n (n - 1)) _ a)

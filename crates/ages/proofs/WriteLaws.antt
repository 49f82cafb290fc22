-- Laws of numbers written into bits: what is written, and in which order. Assumes nothing.
use Prim.Native.Nat.{ℕ, zero, suc, ◌+◌, ◌*◌, ◌/◌, ◌%◌, ◌≤◌, ◌<◌}
use mathlib.Core.Path.{◌≡◌, refl, ◌∙◌}
use mathlib.Core.Bool.{Bool, true, false, not}
use mathlib.Core.Logic.{◌⊎◌, inl, inr, ⊎_elim}
use native.Mathlib.Nat.{eq-or-lt_of_le}
use native.Mathlib.Omega.{arith}
use native.Mathlib.Decide.{dec_lt, ℕ_discrete}
use lib.Dec.{eqb}
use Rattle.trees.specs.Bits.{Bits, put, bit, number}
use Rattle.trees.proofs.BitsLaws.{put_own, put_other, put_swap, put_agree, write}

-- what is written does not hang on what stood there
pub write_over : (s t : Bits) (base n m l : ℕ) → ((l < base) ⊎ (base + n ≤ l) → s l ≡ t l) → write s base n m l ≡ write t base n m l
unfolding write
write_over s t base zero m l e = elim (dec_lt l base) [ yes p ↦ e (inl p) | no p ↦ e (inr (omega arith)) ]
write_over s t base (suc n) m l e = elim (ℕ_discrete l base) [
  | yes p ↦ rw (p, put_own, put_own)
  | no p ↦ put_agree (write s (suc base) n (m / 2)) (write t (suc base) n (m / 2)) base _ l
      (write_over s t (suc base) n (m / 2) l (⊎_elim (λ q. e (inl (omega arith))) (λ q. e (inr (omega arith)))))
]

-- to write the number that is shown changes nothing
bit_back : (x : Bool) (n : ℕ) → ((bit x + 2 * n) / 2 ≡ n) × (not (eqb ((bit x + 2 * n) % 2) 0) ≡ x)
bit_back true n = (omega arith, (let e : (1 + 2 * n) % 2 ≡ 1 = omega arith in rw e))
bit_back false n = (omega arith, (let e : (0 + 2 * n) % 2 ≡ 0 = omega arith in rw e))

pub write_own : (s : Bits) (base n l : ℕ) → write s base n (number s base n) l ≡ s l
unfolding number write
write_own s base zero l = refl
write_own s base (suc n) l =
    let b = bit_back (s base) (number s (suc base) n) in
    rw (b.0, b.1) (elim (ℕ_discrete l base) [
      | yes q ↦ rw (q, put_own)
      | no q ↦ put_other (write s (suc base) n (number s (suc base) n)) base _ l q ∙ write_own s (suc base) n l
    ])

-- a level that is not written may be replaced before or after
pub write_put : (s : Bits) (base n m l : ℕ) (x : Bool) → (l < base) ⊎ (base + n ≤ l) → (i : ℕ) → write (put s l x) base n m i ≡ put (write s base n m) l x i
unfolding write
write_put s base zero m l x h i = refl
write_put s base (suc n) m l x h i =
    put_agree (write (put s l x) (suc base) n (m / 2)) (put (write s (suc base) n (m / 2)) l x) base (not (eqb (m % 2) 0)) i
    (write_put s (suc base) n (m / 2) l x (⊎_elim (λ p. inl (omega arith)) (λ p. inr (omega arith)) h) i)
    ∙ put_swap (write s (suc base) n (m / 2)) l base x (not (eqb (m % 2) 0)) (⊎_elim (λ p e. omega arith) (λ p e. omega arith) h) i

-- two parts that lie apart may be written in either order
pub write_swap : (s : Bits) (b n m c j q : ℕ) → b + n ≤ c → (i : ℕ) → write (write s b n m) c j q i ≡ write (write s c j q) b n m i
unfolding write
write_swap s b zero m c j q h i = refl
write_swap s b (suc n) m c j q h i =
    write_put (write s (suc b) n (m / 2)) c j q b (not (eqb (m % 2) 0)) (inl (omega arith)) i
    ∙ put_agree (write (write s (suc b) n (m / 2)) c j q) (write (write s c j q) (suc b) n (m / 2)) b (not (eqb (m % 2) 0)) i (write_swap s (suc b) n (m / 2) c j q (omega arith) i)

-- bits that show one number are alike
bit_parts : (x y : Bool) (p q : ℕ) → bit x + 2 * p ≡ bit y + 2 * q → (x ≡ y) × (p ≡ q)
bit_parts true true p q e = (refl, omega arith)
bit_parts true false p q e = absurd (omega arith)
bit_parts false true p q e = absurd (omega arith)
bit_parts false false p q e = (refl, omega arith)

pub number_bits : (s t : Bits) (base n : ℕ) → number s base n ≡ number t base n → (l : ℕ) → base ≤ l → l < base + n → s l ≡ t l
unfolding number
number_bits s t base zero e l p q = absurd (omega arith)
number_bits s t base (suc n) e l p q =
    let w = bit_parts (s base) (t base) (number s (suc base) n) (number t (suc base) n) e in
    ⊎_elim (λ z. rw (← z) w.0) (λ z. number_bits s t (suc base) n w.1 l z (omega arith)) (eq-or-lt_of_le p)

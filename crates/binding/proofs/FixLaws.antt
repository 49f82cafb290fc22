-- Laws of the bits of one variable, fixed one after the other from the most significant down: the number that they show is the
-- least. Assumes nothing.
use Prim.Native.Nat.{ℕ, suc, ◌+◌, ◌*◌, ◌^◌, ◌≤◌, ◌<◌}
use mathlib.Core.Path.{◌≡◌, refl, sym, ap, ◌∙◌}
use mathlib.Core.Bool.{Bool, true, false, not}
use mathlib.Core.List.{List}
use mathlib.Core.Logic.{◌⊎◌, inl, inr, ⊎_elim}
use native.Mathlib.Nat.{eq-or-lt_of_le}
use native.Mathlib.Omega.{arith}
use lib.ListN.{length, get_or, set, length-set}
use lib.Seq.{get_or-set_other, set-set}
use Rattle.std.specs.Int.{from_bool}
use Rattle.std.specs.Prelude.{Option, Some, None}
use Rattle.trees.specs.Bits.{Bits, bit, number}
use Rattle.trees.specs.Tree.{Tree, eval, Fine}
use Rattle.trees.proofs.Tests.{bool, false_true}
use Rattle.trees.proofs.BitsLaws.{number_lt}
use Rattle.binding.specs.Fixing.{Meets, can, Settles, Fixes}
use Rattle.binding.proofs.CanLaws.{bit_small, can_of, can_some, meets_set, set_meets}

-- where the test says that d cannot say yes with 0 there, the bit is 1
pub settles_one : (d : Tree) (l : ℕ) (fs : List (Option Bool)) {r : Bool} → r ≡ can (set fs l (Some false)) d → r ≡ false → Settles d l fs (set (set fs l (Some false)) l (Some true)) true
settles_one d l fs e h = record { bit_is = rw (← e, h) refl; fixed_is = set-set fs l (Some false) (Some true) }

-- a bit that is made a number
pub bit_from : (x : Bool) → from_bool x ≡ bit x
bit_from true = refl
bit_from false = refl

-- no bit is fixed yet
pub fixes_none : (d : Tree) (base n : ℕ) (fs : List (Option Bool)) → n ≡ 0 → can fs d ≡ true → Fixes d base n fs fs 0
unfolding number
fixes_none d base n fs z h = record {
  size = refl;
  met = λ s w. (w, ap (number s base) z);
  meets = λ s w e. w;
  can_still = h;
  least = λ t w e. omega arith;
  rest = λ l o. refl;
}

-- the same, with other words for the level and the count
pub fixes_same : {d : Tree} {base base' n n' : ℕ} {fs fs' : List (Option Bool)} {m : ℕ} → base ≡ base' → n ≡ n' → Fixes d base n fs fs' m → Fixes d base' n' fs fs' m
fixes_same e g f = rw (← e, ← g) f

-- the number that is fixed is shown by some bits, so it is small
pub fixes_lt : {d : Tree} {base n : ℕ} {fs fs' : List (Option Bool)} {m : ℕ} → (hi : ℕ) → Fine 0 hi d → Fixes d base n fs fs' m → m < 2 ^ n
fixes_lt {d} {base} {n} {fs' = fs'} hi fine f =
    let t = can_some fs' hi d fine f.can_still in
    omega (arith, (f.met t.0 t.1).1, number_lt t.0 base n)

-- two bits and the numbers above them, told apart
odd_even : (x y : Bool) (n m : ℕ) → bit x + 2 * n ≡ 2 * m + bit y → (x ≡ y) × (n ≡ m)
odd_even true true n m e = (refl, omega arith)
odd_even false false n m e = (refl, omega arith)
odd_even true false n m e = absurd (omega arith)
odd_even false true n m e = absurd (omega arith)

module _ (d : Tree) (base n : ℕ) (fs fs' : List (Option Bool)) (m : ℕ) (f : Fixes d (suc base) n fs fs' m) (inside : base < length fs) (free : get_or fs base None ≡ None) where
  below : base < length fs'
  below = omega (arith, inside, f.size)

  free_still : get_or fs' base None ≡ None
  free_still = f.rest base (inl (omega arith)) ∙ free

  -- one bit more, which is the least that will do
  one_bit : (y : Bool) → can (set fs' base (Some y)) d ≡ true → ((t : Bits) → Meets fs' t → eval d t ≡ true → bit y ≤ bit (t base))
      → Fixes d base (suc n) fs (set fs' base (Some y)) (2 * m + bit y)
  unfolding number
  one_bit y still low = record {
    size = length-set fs' base (Some y) ∙ f.size;
    met = λ s w.
        let p = set_meets fs' base y s below free_still w in
        let q = f.met s p.0 in
        (q.0, rw (p.1, q.1) (swap m (bit y)));
    meets = λ s w e. let p = odd_even (s base) y (number s (suc base) n) m e in meets_set fs' base y s below (f.meets s w p.1) p.0;
    can_still = still;
    least = λ t w e. more t w e (eq-or-lt_of_le (f.least t w e));
    rest = λ l o. get_or-set_other fs' base l (Some y) None (apart l o) ∙ f.rest l (around l o);
  }
    where
      swap : (a b : ℕ) → b + 2 * a ≡ 2 * a + b
      swap a b = omega arith

      more : (t : Bits) → Meets fs t → eval d t ≡ true → (m ≡ number t (suc base) n) ⊎ (m < number t (suc base) n) → 2 * m + bit y ≤ bit (t base) + 2 * number t (suc base) n
      more t w e (inl q) = omega (arith, q, low t (f.meets t w (sym q)) e)
      more t w e (inr q) = omega (arith, q, bit_small y)

      apart : (l : ℕ) → (l < base) ⊎ (base + suc n ≤ l) → l ≡ base → ⊥
      apart l (inl o) e = omega arith
      apart l (inr o) e = omega arith

      around : (l : ℕ) → (l < base) ⊎ (base + suc n ≤ l) → (l < suc base) ⊎ (suc base + n ≤ l)
      around l (inl o) = inl (omega arith)
      around l (inr o) = inr (omega arith)

  -- the bit is 0 where the diagram can still say yes, and else 1
  pub fixes_more : (hi : ℕ) → Fine 0 hi d → {fs'' : List (Option Bool)} {x : Bool} → Settles d base fs' fs'' x → Fixes d base (suc n) fs fs'' (2 * m + bit x)
  fixes_more hi fine w = rw (w.fixed_is, w.bit_is) (go (can (set fs' base (Some false)) d) refl)
    where
      must : can (set fs' base (Some false)) d ≡ false → (t : Bits) → Meets fs' t → eval d t ≡ true → t base ≡ true
      must q t w h = ⊎_elim (λ z. z) (λ z. absurd (false_true q (can_of (set fs' base (Some false)) d t (meets_set fs' base false t below w z) h))) (bool (t base))

      go : (q : Bool) → can (set fs' base (Some false)) d ≡ q → Fixes d base (suc n) fs (set fs' base (Some (not q))) (2 * m + bit (not q))
      go true q = one_bit false q (λ t w h. omega arith)
      go false q =
          let s = can_some fs' hi d fine f.can_still in
          one_bit true
          (can_of (set fs' base (Some true)) d s.0 (meets_set fs' base true s.0 below s.1 (must q s.0 s.1 s.2)) s.2)
          (λ t w h. rw (must q t w h) (omega arith))

-- Following paths tells exactly whether the function tells two numbers apart. Assumes nothing.
use Prim.Native.Nat.{ℕ, zero, suc, ◌+◌, ◌-◌, ◌/◌, ◌%◌, ◌^◌, ◌≤◌, ◌<◌}
use mathlib.Core.Path.{◌≡◌, refl, ap, sym, ◌∙◌}
use mathlib.Core.Bool.{Bool, true, false, cond, not, ◌&&◌}
use mathlib.Core.Logic.{◌↔◌, inl, inr}
use native.Mathlib.Nat.{div-div-eq-div-mul}
use native.Mathlib.Omega.{arith}
use lib.Dec.{eqb, ltb}
use Rattle.trees.specs.Bits.{Bits, put}
use Rattle.trees.specs.Tree.{Tree, off, on, node, eval, same, Fine}
use Rattle.telling.specs.Follow.{bit_of, follow, untold}
use Rattle.trees.proofs.Tests.{LtCase, below, above, lt_case, and_true, and_true_l, and_true_r}
use Rattle.trees.proofs.BitsLaws.{put_own, put_other, put_agree, write, write_outside}
use Rattle.trees.proofs.TreeLaws.{same_true, same_eq, node_fine, fine_node, fine_lower, eval_agree, canon}

-- bits that agree still agree after the writing
pub write_agree : (s t : Bits) (base n m i : ℕ) → s i ≡ t i → write s base n m i ≡ write t base n m i
unfolding write
write_agree s t base zero m i e = e
write_agree s t base (suc n) m i e =
    put_agree (write s (suc base) n (m / 2)) (write t (suc base) n (m / 2)) base (not (eqb (m % 2) 0)) i (write_agree s t (suc base) n (m / 2) i e)

-- the bit that is written at a level
write_bit : (s : Bits) (base n m j : ℕ) → j < n → write s base n m (base + j) ≡ bit_of m j
unfolding write bit_of
write_bit s base zero m j h = absurd (omega arith)
write_bit s base (suc n) m zero h =
    let z : base + 0 ≡ base = omega arith in
    let o : m / 2 ^ 0 ≡ m = omega arith in
    rw (z, o, put_own)
write_bit s base (suc n) m (suc j) h =
    let z : base + suc j ≡ suc base + j = omega arith in
    let q : m / 2 ^ suc j ≡ m / 2 / 2 ^ j = sym (div-div-eq-div-mul m 2 (2 ^ j) ∙ ap (λ (x : ℕ). m / x) (omega arith)) in
    put_other (write s (suc base) n (m / 2)) base _ (base + suc j) (omega arith) ∙ rw (z, q) (write_bit s (suc base) n (m / 2) j (omega arith))

-- what a level shows after the writing
write_at : (s : Bits) (base k n l : ℕ) → base ≤ l → l < base + k → write s base k n l ≡ bit_of n (l - base)
write_at s base k n l p q =
    let z : base + (l - base) ≡ l = omega arith in
    ap (λ (x : ℕ). write s base k n x) (sym z) ∙ write_bit s base k n (l - base) (omega arith)

module _ (base k n : ℕ) where
  follow_fine : (hi : ℕ) (t : Tree) → Fine base hi t → Fine base hi (follow base k n t)
  unfolding follow
  follow_fine hi off f = f
  follow_fine hi on f = f
  follow_fine hi (node l a b) f =
      let c = node_fine base hi l a b f in
      go (ltb l (base + k)) (bit_of n (l - base)) (follow_fine hi a (fine_lower (suc l) hi base a (omega (arith, c.0)) c.2)) (follow_fine hi b (fine_lower (suc l) hi base b (omega (arith, c.0)) c.3))
    where
      go : (t u : Bool) → Fine base hi (follow base k n a) → Fine base hi (follow base k n b) → Fine base hi (cond t (cond u (follow base k n b) (follow base k n a)) (node l a b))
      go true true x y = y
      go true false x y = x
      go false u x y = f

  -- the side says what the diagram says where the bits show n
  follow_says : (hi : ℕ) (t : Tree) → Fine base hi t → (s : Bits) → eval (follow base k n t) s ≡ eval t (write s base k n)
  unfolding follow eval
  follow_says hi off f s = refl
  follow_says hi on f s = refl
  follow_says hi (node l a b) f s =
      let c = node_fine base hi l a b f in
      go (ltb l (base + k)) (lt_case l (base + k)) c.0
      (follow_says hi a (fine_lower (suc l) hi base a (omega (arith, c.0)) c.2) s) (follow_says hi b (fine_lower (suc l) hi base b (omega (arith, c.0)) c.3) s)
    where
      side : (u : Bool) → eval (follow base k n a) s ≡ eval a (write s base k n) → eval (follow base k n b) s ≡ eval b (write s base k n)
          → eval (cond u (follow base k n b) (follow base k n a)) s ≡ cond u (eval b (write s base k n)) (eval a (write s base k n))
      side true x y = y
      side false x y = x

      go : (t : Bool) → LtCase l (base + k) t → base ≤ l → eval (follow base k n a) s ≡ eval a (write s base k n) → eval (follow base k n b) s ≡ eval b (write s base k n)
          → eval (cond t (cond (bit_of n (l - base)) (follow base k n b) (follow base k n a)) (node l a b)) s ≡ cond (write s base k n l) (eval b (write s base k n)) (eval a (write s base k n))
      go true (below q) p x y = rw (write_at s base k n l p q) (side (bit_of n (l - base)) x y)
      go false (above q) p x y =
          let c = node_fine base hi l a b f in
          eval_agree l hi (node l a b) (fine_node l hi l a b (omega arith) c.1 c.2 c.3 c.4) s (write s base k n) (λ i g h. sym (write_outside s base k n i (inr (omega arith))))

module _ (base k n m : ℕ) where
  -- a level before those written
  before : (s : Bits) (j l : ℕ) → l < base → write s base k j l ≡ s l
  before s j l h = write_outside s base k j l (inl h)

  untold_says : (hi : ℕ) (t : Tree) → Fine 0 hi t → untold base k n m t ≡ true → (s : Bits) → eval t (write s base k n) ≡ eval t (write s base k m)
  unfolding untold eval
  untold_says hi off f e s = refl
  untold_says hi on f e s = refl
  untold_says hi (node l a b) f e s =
      let c = node_fine 0 hi l a b f in
      go (ltb l base) (lt_case l base) e
      (λ z. untold_says hi a (fine_lower (suc l) hi 0 a (omega arith) c.2) z s) (λ z. untold_says hi b (fine_lower (suc l) hi 0 b (omega arith) c.3) z s)
    where
      side : (u : Bool) → eval a (write s base k n) ≡ eval a (write s base k m) → eval b (write s base k n) ≡ eval b (write s base k m)
          → cond u (eval b (write s base k n)) (eval a (write s base k n)) ≡ cond u (eval b (write s base k m)) (eval a (write s base k m))
      side true x y = y
      side false x y = x

      go : (t : Bool) → LtCase l base t → cond t (untold base k n m a && untold base k n m b) (same (follow base k n (node l a b)) (follow base k m (node l a b))) ≡ true
          → (untold base k n m a ≡ true → eval a (write s base k n) ≡ eval a (write s base k m)) → (untold base k n m b ≡ true → eval b (write s base k n) ≡ eval b (write s base k m))
          → cond (write s base k n l) (eval b (write s base k n)) (eval a (write s base k n)) ≡ cond (write s base k m l) (eval b (write s base k m)) (eval a (write s base k m))
      go true (below q) z x y =
          rw (before s n l q, before s m l q) (side (s l) (x (and_true_l (untold base k n m a) (untold base k n m b) z)) (y (and_true_r (untold base k n m a) (untold base k n m b) z)))
      go false (above q) z x y =
          let c = node_fine 0 hi l a b f in
          let w : Fine base hi (node l a b) = fine_node base hi l a b q c.1 c.2 c.3 c.4 in
          sym (follow_says base k n hi (node l a b) w s) ∙ ap (λ (t : Tree). eval t s) (same_true (follow base k n (node l a b)) (follow base k m (node l a b)) z) ∙ follow_says base k m hi (node l a b) w s

  -- one side of a node, by the bit there
  half : (hi l : ℕ) (a b : Tree) → Fine 0 hi (node l a b) → l < base → (x : Bool) → ((s : Bits) → eval (node l a b) (write s base k n) ≡ eval (node l a b) (write s base k m))
      → (s : Bits) → eval (cond x b a) (write s base k n) ≡ eval (cond x b a) (write s base k m)
  unfolding eval
  half hi l a b f q x e s = sym (near n) ∙ step ∙ near m
    where
      fine : (x : Bool) → Fine (suc l) hi (cond x b a)
      fine true = (node_fine 0 hi l a b f).3
      fine false = (node_fine 0 hi l a b f).2

      pick : (x : Bool) (u : Bits) → cond x (eval b u) (eval a u) ≡ eval (cond x b a) u
      pick true u = refl
      pick false u = refl

      near : (j : ℕ) → eval (cond x b a) (write (put s l x) base k j) ≡ eval (cond x b a) (write s base k j)
      near j = eval_agree (suc l) hi (cond x b a) (fine x) (write (put s l x) base k j) (write s base k j) (λ i g h. write_agree (put s l x) s base k j i (put_other s l x i (omega arith)))

      here : (j : ℕ) → write (put s l x) base k j l ≡ x
      here j = before (put s l x) j l q ∙ put_own s l x

      step : eval (cond x b a) (write (put s l x) base k n) ≡ eval (cond x b a) (write (put s l x) base k m)
      step =
          sym (pick x (write (put s l x) base k n))
          ∙ (rw (here n, here m) at (e (put s l x)))
          ∙ pick x (write (put s l x) base k m)

  says_untold : (hi : ℕ) (t : Tree) → Fine 0 hi t → ((s : Bits) → eval t (write s base k n) ≡ eval t (write s base k m)) → untold base k n m t ≡ true
  unfolding untold
  says_untold hi off f e = refl
  says_untold hi on f e = refl
  says_untold hi (node l a b) f e =
      let c = node_fine 0 hi l a b f in
      go (ltb l base) (lt_case l base)
      (λ q. says_untold hi a (fine_lower (suc l) hi 0 a (omega arith) c.2) (half hi l a b f q false e)) (λ q. says_untold hi b (fine_lower (suc l) hi 0 b (omega arith) c.3) (half hi l a b f q true e))
    where
      go : (t : Bool) → LtCase l base t → (l < base → untold base k n m a ≡ true) → (l < base → untold base k n m b ≡ true)
          → cond t (untold base k n m a && untold base k n m b) (same (follow base k n (node l a b)) (follow base k m (node l a b))) ≡ true
      go true (below q) x y = and_true (untold base k n m a) (untold base k n m b) (x q) (y q)
      go false (above q) x y =
          let c = node_fine 0 hi l a b f in
          let w : Fine base hi (node l a b) = fine_node base hi l a b q c.1 c.2 c.3 c.4 in
          same_eq (follow base k n (node l a b)) (follow base k m (node l a b))
          (canon hi (follow base k n (node l a b)) (follow base k m (node l a b)) (fine_lower base hi 0 _ (omega arith) (follow_fine base k n hi (node l a b) w)) (fine_lower base hi 0 _ (omega arith) (follow_fine base k m hi (node l a b) w))
          (λ s. follow_says base k n hi (node l a b) w s ∙ e s ∙ sym (follow_says base k m hi (node l a b) w s)))

  -- the diagram does not tell n and m apart exactly if its function does not, however the other bits are set
  pub untold_exact : (hi : ℕ) (t : Tree) → Fine 0 hi t → (untold base k n m t ≡ true) ↔ ((s : Bits) → eval t (write s base k n) ≡ eval t (write s base k m))
  untold_exact hi t f = (untold_says hi t f, says_untold hi t f)

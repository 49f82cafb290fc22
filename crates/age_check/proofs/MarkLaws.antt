-- The marks: how a node's comes from its sides', and what they tell. Assumes nothing.
use Prim.Native.Nat.{ℕ, zero, suc, ◌+◌, ◌*◌, ◌-◌, ◌^◌, ◌≤◌, ◌<◌, max}
use mathlib.Core.Path.{◌≡◌, refl, sym, ◌∙◌}
use mathlib.Core.Bool.{Bool, true, false, cond, ◌&&◌}
use mathlib.Core.List.{List}
use mathlib.Core.Logic.{◌↔◌, ◌≢◌, ⊎_elim}
use native.Mathlib.Nat.{eq-or-lt_of_le}
use native.Mathlib.Decide.{ℕ_discrete}
use native.Mathlib.Numerals.{add-one}
use native.Mathlib.Omega.{arith}
use lib.Dec.{eqb, ltb}
use lib.Pow.{pow-lt}
use borrow.Author.Tests.{eq-eqb, ne_eqb, lt-ltb, le-ltb}
use lib.ListN.{length, get_or, set, length-set}
use lib.Seq.{get_or-set_same, get_or-set_other}
use Rattle.std.specs.Prelude.{Option}
use Rattle.trees.specs.Tree.{Tree, off, on, node, same}
use Rattle.trees.specs.Table.{at, trees_of}
use Rattle.trees.proofs.Tests.{false_true, and_true, and_true_l, and_true_r, LtCase, below, above, lt_case}
use Rattle.trees.proofs.TreeLaws.{same_eq, same_ne}
use Rattle.nodes.specs.Nodes.{Table, Splits}
use Rattle.ages.specs.Ages.{Age, none, aged, ages_right, shown_age}
use Rattle.ages.proofs.AgeRead.{read_age, join_age, with_bit, shown_read}
use Rattle.age_check.specs.Marks.{numbered, oldest, mark, Coded, Marked, AgesRight}

-- an age of m bits
abbrev Small : ℕ → Age → Type 0
Small m none = Unit {0}
Small m (aged n) = n < 2 ^ m

-- an age that is read has so many bits
read_small : (m l : ℕ) (t : Tree) → Small m (read_age l m t)
unfolding read_age join_age with_bit
read_small zero l off = tt
read_small zero l on = omega arith
read_small zero l (node v a b) = tt
read_small (suc m) l off = tt
read_small (suc m) l on = tt
read_small (suc m) l (node v a b) = go (eqb v l) (same a off) (same b off) (read_age (suc l) m a) (read_small m (suc l) a) (read_age (suc l) m b) (read_small m (suc l) b)
  where
    go : (q x y : Bool) (c : Age) → Small m c → (d : Age) → Small m d → Small (suc m) (cond q (join_age x y c d) none)
    go false x y c p d r = tt
    go true true true c p d r = tt
    go true true false c p none r = tt
    go true true false c p (aged n) r = omega arith
    go true false true none p d r = tt
    go true false true (aged n) p d r = omega arith
    go true false false c p d r = tt

-- 11 bits or fewer are no more than 2,047
few : (m n : ℕ) → m ≤ 11 → n < 2 ^ m → n < 2048
few m n h q = ⊎_elim (λ e. omega (arith, rw e at q)) (λ l. let k = pow-lt l in omega arith) (eq-or-lt_of_le h)

-- a number of an age is no more than 4,096
numbered_le : (m : ℕ) → m ≤ 11 → (x : Age) → Small m x → numbered x ≤ 4096
numbered_le m h none q = omega arith
numbered_le m h (aged n) q = let k = few m n h q in omega arith

-- and so is what tells the greatest
pub oldest_le : (base : ℕ) (d : Tree) → oldest base d ≤ 4096
unfolding oldest
oldest_le base off = omega arith
oldest_le base on = omega arith
oldest_le base (node l a b) = go (ltb l base) (oldest_le base a) (oldest_le base b)
  where
    go : (t : Bool) → oldest base a ≤ 4096 → oldest base b ≤ 4096 → cond t (max (oldest base a) (oldest base b)) (numbered (read_age base 11 (node l a b))) ≤ 4096
    go true x y = omega arith
    go false x y = numbered_le 11 (omega arith) (read_age base 11 (node l a b)) (read_small 11 base (node l a b))

-- a number by which another is told
pub coded_same : (r : Option ℕ) {m n : ℕ} → m ≡ n → Coded r m → Coded r n
coded_same r e c = rw (← e) c

-- the test of refusal 4, by the greatest age
pub oldest_right : (base top : ℕ) (d : Tree) → top < 2048 → (ages_right base top d ≡ true) ↔ (oldest base d ≤ top + 1)
unfolding ages_right oldest
oldest_right base top off h = (λ e. omega arith, λ q. refl)
oldest_right base top on h = (λ e. absurd (false_true refl e), λ q. absurd (omega arith))
oldest_right base top (node l a b) h = go (ltb l base) (lt_case l base) (oldest_right base top a h) (oldest_right base top b h)
  where
    u : Tree
    u = node l a b

    at_age : (x : Age) → read_age base 11 u ≡ x → (shown_age base top u ≡ true) ↔ (numbered x ≤ top + 1)
    at_age none e = (
      λ q. absurd (let n = (shown_read base top u (omega arith)).0 q in let z = sym e ∙ n.2 in let y : ◌≡◌ {A = ℕ} 0 1 = cc in omega arith),
      λ q. absurd (omega arith),
    )
    at_age (aged n) e = (
      λ q. let m = (shown_read base top u (omega arith)).0 q in let w = m.1 in let z = sym e ∙ m.2 in let y : n ≡ m.0 = cc in omega arith,
      λ q. (shown_read base top u (omega arith)).1 (n, omega arith, e),
    )

    go : (t : Bool) → LtCase l base t → ((ages_right base top a ≡ true) ↔ (oldest base a ≤ top + 1)) → ((ages_right base top b ≡ true) ↔ (oldest base b ≤ top + 1))
        → (cond t (ages_right base top a && ages_right base top b) (shown_age base top u) ≡ true) ↔ (cond t (max (oldest base a) (oldest base b)) (numbered (read_age base 11 u)) ≤ top + 1)
    go true (below k) ia ib = (
      λ e. let x = ia.0 (and_true_l (ages_right base top a) (ages_right base top b) e) in let y = ib.0 (and_true_r (ages_right base top a) (ages_right base top b) e) in omega arith,
      λ q. and_true (ages_right base top a) (ages_right base top b) (ia.1 (omega arith)) (ib.1 (omega arith)),
    )
    go false (above k) ia ib = at_age (read_age base 11 u) refl

-- what a reference's mark tells of it as an age diagram
pub leaf_oldest : (base : ℕ) (ts : List Tree) (p : ℕ) → p < 2 → mark base (at ts p) ≡ oldest base (at ts p)
unfolding mark oldest at
leaf_oldest base ts zero h = refl
leaf_oldest base ts (suc zero) h = refl
leaf_oldest base ts (suc (suc p)) h = absurd (omega arith)

module _ {ns : List ℕ} {n p l a b : ℕ} (s : Splits ns n p l a b) (base : ℕ) where
  pub high_oldest : l ≤ base → mark base (at (trees_of ns n) p) ≡ oldest base (at (trees_of ns n) p)
  unfolding mark oldest
  high_oldest h = rw s.is (⊎_elim
      (λ e. let z : base + 11 - l ≡ 11 = omega arith in rw (le-ltb l base (omega arith), z, e))
      (λ k. rw (lt-ltb l base k))
      (eq-or-lt_of_le h))

  pub deep_oldest : base < l → 4096 ≡ oldest base (at (trees_of ns n) p)
  unfolding oldest read_age
  deep_oldest h = rw (s.is, le-ltb l base (omega arith), ne_eqb l base (λ e. omega arith))

  -- what it tells as the bits of an age after the level before
  pub bits_marked : (v : ℕ) → base ≤ v → l ≡ v + 1 → mark base (at (trees_of ns n) p) ≡ numbered (read_age (v + 1) (base + 10 - v) (at (trees_of ns n) p))
  unfolding mark
  bits_marked v h e =
      let z : base + 11 - (v + 1) ≡ base + 10 - v = omega arith in
      rw (s.is, e, le-ltb (v + 1) base (omega arith), z)

  pub bits_apart : (v : ℕ) → base ≤ v → v < base + 10 → l ≢ v + 1 → 4096 ≡ numbered (read_age (v + 1) (base + 10 - v) (at (trees_of ns n) p))
  unfolding read_age
  bits_apart v h k f = let z : base + 10 - v ≡ suc (base + 9 - v) = omega arith in rw (s.is, z, ne_eqb l (v + 1) f)

-- the last bit, and a leaf before it
pub bits_last : (base v : ℕ) (ts : List Tree) (p : ℕ) → v ≡ base + 10 → p ≡ 1 → 1 ≡ numbered (read_age (v + 1) (base + 10 - v) (at ts p))
unfolding read_age at
bits_last base v ts p e q = let z : base + 10 - v ≡ 0 = omega arith in rw (z, q)

pub bits_over : {ns : List ℕ} {n : ℕ} → Table ns n → (base v p : ℕ) → p < n + 2 → v ≡ base + 10 → p ≢ 1 → 4096 ≡ numbered (read_age (v + 1) (base + 10 - v) (at (trees_of ns n) p))
unfolding read_age at
bits_over {ns} {n} t base v p h e f = let z : base + 10 - v ≡ 0 = omega arith in rw z (go (at (trees_of ns n) p) refl)
  where
    go : (d : Tree) → at (trees_of ns n) p ≡ d → 4096 ≡ numbered (read_age (v + 1) 0 d)
    go off q = refl
    go on q = absurd (f (t.one p 1 h (omega arith) q))
    go (node l a b) q = refl

pub bits_leaf : (base v : ℕ) (ts : List Tree) (p : ℕ) → v < base + 10 → p < 2 → 4096 ≡ numbered (read_age (v + 1) (base + 10 - v) (at ts p))
unfolding read_age at
bits_leaf base v ts zero k h = let z : base + 10 - v ≡ suc (base + 9 - v) = omega arith in rw z
bits_leaf base v ts (suc zero) k h = let z : base + 10 - v ≡ suc (base + 9 - v) = omega arith in rw z
bits_leaf base v ts (suc (suc p)) k h = absurd (omega arith)

-- a bit before the others
module _ (m : ℕ) (h : m ≤ 11) (x : Age) (q : Small m x) (y : ℕ) (e : y ≡ numbered x) where
  odd_none : y ≡ 4096 → 4096 ≡ numbered (with_bit 1 x)
  unfolding with_bit
  odd_none z = go x q e
    where
      go : (x : Age) → Small m x → y ≡ numbered x → 4096 ≡ numbered (with_bit 1 x)
      go none q e = refl
      go (aged n) q e = absurd (let k = few m n h q in omega arith)

  odd_some : y ≢ 4096 → 2 * y ≡ numbered (with_bit 1 x)
  unfolding with_bit
  odd_some z = go x e
    where
      go : (x : Age) → y ≡ numbered x → 2 * y ≡ numbered (with_bit 1 x)
      go none e = absurd (z e)
      go (aged n) e = omega arith

  even_none : y ≡ 4096 → 4096 ≡ numbered (with_bit 0 x)
  unfolding with_bit
  even_none z = go x q e
    where
      go : (x : Age) → Small m x → y ≡ numbered x → 4096 ≡ numbered (with_bit 0 x)
      go none q e = refl
      go (aged n) q e = absurd (let k = few m n h q in omega arith)

  even_some : y ≢ 4096 → 2 * y - 1 ≡ numbered (with_bit 0 x)
  unfolding with_bit
  even_some z = go x e
    where
      go : (x : Age) → y ≡ numbered x → 2 * y - 1 ≡ numbered (with_bit 0 x)
      go none e = absurd (z e)
      go (aged n) e = omega arith

-- the mark of a node, from its sides
module _ {ns : List ℕ} {n r l a b : ℕ} (t : Table ns n) (s : Splits ns n r l a b) (base : ℕ) where
  pub mark_high : l < base → mark base (at (trees_of ns n) r) ≡ max (oldest base (at (trees_of ns n) a)) (oldest base (at (trees_of ns n) b))
  unfolding mark
  mark_high h = rw (s.is, lt-ltb l base h)

  pub mark_past : base + 11 ≤ l → 4096 ≡ mark base (at (trees_of ns n) r)
  unfolding mark read_age
  mark_past h = let z : base + 11 - l ≡ 0 = omega arith in rw (s.is, le-ltb l base (omega arith), z)

  module _ (lo : base ≤ l) (hi : l < base + 11) where
    joined : mark base (at (trees_of ns n) r)
        ≡ numbered (join_age (same (at (trees_of ns n) a) off) (same (at (trees_of ns n) b) off) (read_age (suc l) (base + 10 - l) (at (trees_of ns n) a)) (read_age (suc l) (base + 10 - l) (at (trees_of ns n) b)))
    unfolding mark read_age
    joined = let z : base + 11 - l ≡ suc (base + 10 - l) = omega arith in rw (s.is, le-ltb l base lo, z, eq-eqb l l refl)

    dark : (p : ℕ) → p ≡ 0 → same (at (trees_of ns n) p) off ≡ true
    unfolding at
    dark p e = same_eq (at (trees_of ns n) p) off (rw e)

    lit : (p : ℕ) → p < n + 2 → p ≢ 0 → same (at (trees_of ns n) p) off ≡ false
    unfolding at
    lit p h f = same_ne (at (trees_of ns n) p) off (λ e. f (t.one p 0 h (omega arith) e))

    -- no side goes on, or both do
    pub mark_none : a ≡ 0 → b ≡ 0 → 4096 ≡ mark base (at (trees_of ns n) r)
    unfolding join_age
    mark_none p q = sym (joined ∙ rw (dark a p, dark b q))

    pub mark_both : a ≢ 0 → b ≢ 0 → 4096 ≡ mark base (at (trees_of ns n) r)
    unfolding join_age
    mark_both p q = sym (joined ∙ rw (lit a s.low p, lit b s.high q))

    -- one side goes on
    module _ (y : ℕ) where
      odd : a ≡ 0 → b ≢ 0 → mark base (at (trees_of ns n) r) ≡ numbered (with_bit 1 (read_age (suc l) (base + 10 - l) (at (trees_of ns n) b)))
      unfolding join_age
      odd p q = joined ∙ rw (dark a p, lit b s.high q)

      even : a ≢ 0 → b ≡ 0 → mark base (at (trees_of ns n) r) ≡ numbered (with_bit 0 (read_age (suc l) (base + 10 - l) (at (trees_of ns n) a)))
      unfolding join_age
      even p q = joined ∙ rw (lit a s.low p, dark b q)

      pub mark_odd : a ≡ 0 → b ≢ 0 → y ≡ numbered (read_age (l + 1) (base + 10 - l) (at (trees_of ns n) b)) → (y ≡ 4096 → 4096 ≡ mark base (at (trees_of ns n) r)) × (y ≢ 4096 → 2 * y ≡ mark base (at (trees_of ns n) r))
      mark_odd p q e =
          let w : y ≡ numbered (read_age (suc l) (base + 10 - l) (at (trees_of ns n) b)) = rw add-one at e in
          let m = base + 10 - l in (
            λ z. odd_none m (omega arith) _ (read_small m (suc l) (at (trees_of ns n) b)) y w z ∙ sym (odd p q),
            λ z. odd_some m (omega arith) _ (read_small m (suc l) (at (trees_of ns n) b)) y w z ∙ sym (odd p q),
          )

      pub mark_even : a ≢ 0 → b ≡ 0 → y ≡ numbered (read_age (l + 1) (base + 10 - l) (at (trees_of ns n) a)) → (y ≡ 4096 → 4096 ≡ mark base (at (trees_of ns n) r)) × (y ≢ 4096 → 2 * y - 1 ≡ mark base (at (trees_of ns n) r))
      mark_even p q e =
          let w : y ≡ numbered (read_age (suc l) (base + 10 - l) (at (trees_of ns n) a)) = rw add-one at e in
          let m = base + 10 - l in (
            λ z. even_none m (omega arith) _ (read_small m (suc l) (at (trees_of ns n) a)) y w z ∙ sym (even p q),
            λ z. even_some m (omega arith) _ (read_small m (suc l) (at (trees_of ns n) a)) y w z ∙ sym (even p q),
          )

-- an age's bits as a number are no great number
pub bits_le : (base l y : ℕ) (d : Tree) → base ≤ l → numbered (read_age (l + 1) (base + 10 - l) d) ≡ y → y ≢ 4096 → (1 ≤ y) × (y ≤ 1024)
bits_le base l y d h e f = go (read_age (l + 1) (base + 10 - l) d) (read_small (base + 10 - l) (l + 1) d) e
  where
    ten : (m n : ℕ) → m ≤ 10 → n < 2 ^ m → n < 1024
    ten m n h q = ⊎_elim (λ e. omega (arith, rw e at q)) (λ l. let k = pow-lt l in omega arith) (eq-or-lt_of_le h)

    go : (x : Age) → Small (base + 10 - l) x → numbered x ≡ y → (1 ≤ y) × (y ≤ 1024)
    go none q e = absurd (f (sym e))
    go (aged n) q e = let k = ten (base + 10 - l) n (omega arith) q in (omega arith, omega arith)

-- the leaves are marked
pub marks_none : (base : ℕ) (ns : List ℕ) (kept : ℕ) (w : List ℕ) → 2 ≤ length w → Marked base ns kept (set (set w 0 0) 1 4096) 2
unfolding mark at
marks_none base ns kept w h = record { is = λ r q. go r q }
  where
    go : (r : ℕ) → r < 2 → get_or (set (set w 0 0) 1 4096) r 0 ≡ mark base (at (trees_of ns kept) r)
    go zero q = get_or-set_other (set w 0 0) 1 0 4096 0 (omega arith) ∙ get_or-set_same w 0 0 0 (omega arith)
    go (suc zero) q = get_or-set_same (set w 0 0) 1 4096 0 (simp length-set (omega arith))
    go (suc (suc r)) q = absurd (omega arith)

-- one more row passes, and one that does not
pub rows_more : {base : ℕ} {ns : List ℕ} {kept : ℕ} {refs tops : List ℕ} {i y : ℕ} → AgesRight base ns kept refs tops i → get_or tops i 0 < 2048 → y ≡ oldest base (at (trees_of ns kept) (get_or refs i 0))
    → y ≤ get_or tops i 0 + 1 → AgesRight base ns kept refs tops (i + 1)
rows_more {base} {ns} {kept} {refs} {tops} {i} {y} a h e q = record { each = λ j p. go j p (ℕ_discrete j i) }
  where
    go : (j : ℕ) → j < i + 1 → Dec (j ≡ i) → ages_right base (get_or tops j 0) (at (trees_of ns kept) (get_or refs j 0)) ≡ true
    go j p (yes z) = rw z ((oldest_right base (get_or tops i 0) (at (trees_of ns kept) (get_or refs i 0)) h).1 (omega arith))
    go j p (no z) = a.each j (omega arith)

pub row_fails : {base : ℕ} {ns : List ℕ} {kept : ℕ} {refs tops : List ℕ} {count i y : ℕ} → i < count → get_or tops i 0 < 2048 → y ≡ oldest base (at (trees_of ns kept) (get_or refs i 0))
    → get_or tops i 0 + 1 < y → AgesRight base ns kept refs tops count → ⊥
row_fails {base} {ns} {kept} {refs} {tops} {count} {i} k h e q a =
    omega (arith, (oldest_right base (get_or tops i 0) (at (trees_of ns kept) (get_or refs i 0)) h).0 (a.each i k))

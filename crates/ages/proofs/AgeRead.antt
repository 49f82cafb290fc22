-- The age that a diagram of age bits shows, read from its nodes: what a walk down, and a pass from the leaves up, compute. Assumes nothing.
use Prim.Native.Nat.{ℕ, zero, suc, ◌+◌, ◌*◌, ◌/◌, ◌%◌, ◌^◌, ◌≤◌, ◌<◌}
use mathlib.Core.Path.{◌≡◌, refl, ap, sym, ◌∙◌}
use mathlib.Core.Bool.{Bool, true, false, cond, not}
use mathlib.Core.Logic.{◌↔◌}
use native.Mathlib.Omega.{arith}
use lib.Dec.{eqb}
use borrow.Author.Tests.{eq-eqb, ne_eqb}
use Rattle.trees.specs.Tree.{Tree, off, on, node, eval, same}
use Rattle.trees.specs.Kept.{all_below}
use Rattle.ages.specs.Ages.{Age, none, aged, age_at, age_diagram, shown_age}
use Rattle.trees.proofs.Tests.{false_true, not_true, EqCase, equal, other, eq_case, eqb_same}
use Rattle.trees.proofs.TreeLaws.{same_true, same_ne, same_eq}
use Rattle.trees.proofs.KeptLaws.{all_at, all_fails, not_false}
use Rattle.ages.proofs.AgeWalk.{chain, chain_live, chain_is, age_of_law, age_under}

-- a number with one more bit at its end
unfoldable pub with_bit : ℕ → Age → Age
with_bit b none = none
with_bit b (aged n) = aged (b + 2 * n)

-- one side is no: the other goes on
unfoldable pub join_age : Bool → Bool → Age → Age → Age
join_age true true x y = none
join_age true false x y = with_bit 1 y
join_age false true x y = with_bit 0 x
join_age false false x y = none

-- the age whose nodes a diagram is, m bits from the level l on, or none
unfoldable pub read_age : ℕ → ℕ → Tree → Age
read_age l zero off = none
read_age l zero on = aged 0
read_age l zero (node v a b) = none
read_age l (suc m) off = none
read_age l (suc m) on = none
read_age l (suc m) (node v a b) = cond (eqb v l) (join_age (same a off) (same b off) (read_age (suc l) m a) (read_age (suc l) m b)) none

-- the nodes of an age read as the age
pub read_chain : (m l n : ℕ) → n < 2 ^ m → read_age l m (chain l m n) ≡ aged n
unfolding read_age chain
read_chain zero l n h = ap aged (omega arith)
read_chain (suc m) l n h = go (eqb (n % 2) 0) (eq_case (n % 2) 0) (read_chain m (suc l) (n / 2) (omega arith))
  where
    live : same (chain (suc l) m (n / 2)) off ≡ false
    live = same_ne (chain (suc l) m (n / 2)) off (chain_live (suc l) m (n / 2))

    go : (b : Bool) → EqCase (n % 2) 0 b → read_age (suc l) m (chain (suc l) m (n / 2)) ≡ aged (n / 2)
        → read_age l (suc m) (cond b (node l (chain (suc l) m (n / 2)) off) (node l off (chain (suc l) m (n / 2)))) ≡ aged n
    go true (equal e) r = rw (eqb_same l, live, r) (unfold same join_age with_bit in ap aged (omega arith))
    go false (other e) r = rw (eqb_same l, live, r) (unfold same join_age with_bit in ap aged (omega arith))

-- and only they do
pub chain_read : (m l n : ℕ) (t : Tree) → read_age l m t ≡ aged n → t ≡ chain l m n
unfolding read_age chain
chain_read zero l n off e = absurd (let z : ◌≡◌ {A = ℕ} 0 1 = cc in omega arith)
chain_read zero l n on e = refl
chain_read zero l n (node v a b) e = absurd (let z : ◌≡◌ {A = ℕ} 0 1 = cc in omega arith)
chain_read (suc m) l n off e = absurd (let z : ◌≡◌ {A = ℕ} 0 1 = cc in omega arith)
chain_read (suc m) l n on e = absurd (let z : ◌≡◌ {A = ℕ} 0 1 = cc in omega arith)
chain_read (suc m) l n (node v a b) e =
    go (eqb v l) (eq_case v l) (same a off) refl (same b off) refl (read_age (suc l) m a) refl (read_age (suc l) m b) refl (λ q. chain_read m (suc l) q a) (λ q. chain_read m (suc l) q b) e
  where
    odd : (q : ℕ) → 1 + 2 * q ≡ n → v ≡ l → a ≡ off → b ≡ chain (suc l) m q → node v a b ≡ cond (eqb (n % 2) 0) (node l (chain (suc l) m (n / 2)) off) (node l off (chain (suc l) m (n / 2)))
    odd q h p x y = let z : q ≡ n / 2 = omega arith in rw (ne_eqb (n % 2) 0 (λ i. omega arith), p, x, y, z)

    even : (q : ℕ) → 0 + 2 * q ≡ n → v ≡ l → a ≡ chain (suc l) m q → b ≡ off → node v a b ≡ cond (eqb (n % 2) 0) (node l (chain (suc l) m (n / 2)) off) (node l off (chain (suc l) m (n / 2)))
    even q h p x y = let z : q ≡ n / 2 = omega arith in rw (eq-eqb (n % 2) 0 (omega arith), p, x, y, z)

    part : (i j : ℕ) → aged i ≡ aged j → i ≡ j
    part i j e = cc

    bad : none ≡ aged n → ⊥
    bad e = let z : ◌≡◌ {A = ℕ} 0 1 = cc in omega arith

    go : (t : Bool) → EqCase v l t → (sa : Bool) → same a off ≡ sa → (sb : Bool) → same b off ≡ sb → (x : Age) → read_age (suc l) m a ≡ x → (y : Age) → read_age (suc l) m b ≡ y
        → ((q : ℕ) → read_age (suc l) m a ≡ aged q → a ≡ chain (suc l) m q) → ((q : ℕ) → read_age (suc l) m b ≡ aged q → b ≡ chain (suc l) m q)
        → cond t (join_age sa sb x y) none ≡ aged n → node v a b ≡ cond (eqb (n % 2) 0) (node l (chain (suc l) m (n / 2)) off) (node l off (chain (suc l) m (n / 2)))
    go false p sa ea sb eb x ex y ey ia ib e = absurd (bad e)
    go true (equal p) true ea true eb x ex y ey ia ib e = absurd (bad (unfold join_age in e))
    go true (equal p) false ea false eb x ex y ey ia ib e = absurd (bad (unfold join_age in e))
    go true (equal p) true ea false eb x ex none ey ia ib e = absurd (bad (unfold join_age with_bit in e))
    go true (equal p) true ea false eb x ex (aged q) ey ia ib e = odd q (part (1 + 2 * q) n (unfold join_age with_bit in e)) p (same_true a off ea) (ib q ey)
    go true (equal p) false ea true eb none ex y ey ia ib e = absurd (bad (unfold join_age with_bit in e))
    go true (equal p) false ea true eb (aged q) ex y ey ia ib e = even q (part (0 + 2 * q) n (unfold join_age with_bit in e)) p (ia q ex) (same_true b off eb)

-- the test of one age reads it
pub shown_read : (base top : ℕ) (u : Tree) → top < 2 ^ 11 → (shown_age base top u ≡ true) ↔ ((n : ℕ) × (n ≤ top) × (read_age base 11 u ≡ aged n))
unfolding shown_age
shown_read base top u h = (there, back)
  where
    flip : (b : Bool) → not b ≡ false → b ≡ true
    flip true z = refl
    flip false z = sym z

    there : not (all_below (suc top) (λ n. not (same u (age_diagram base n)))) ≡ true → (n : ℕ) × (n ≤ top) × (read_age base 11 u ≡ aged n)
    there e =
        let f = all_fails (suc top) (λ n. not (same u (age_diagram base n))) (not_false _ e) in
        let q : f.0 ≤ top = let y = f.1 in omega arith in
        (f.0, q, ap (read_age base 11) (same_true u (age_diagram base f.0) (flip _ f.2) ∙ chain_is base f.0 (omega arith)) ∙ read_chain 11 base f.0 (omega arith))

    back : (n : ℕ) × (n ≤ top) × (read_age base 11 u ≡ aged n) → not (all_below (suc top) (λ n. not (same u (age_diagram base n)))) ≡ true
    back p =
        let q = p.1 in
        let e : u ≡ age_diagram base p.0 = chain_read 11 base p.0 u p.2 ∙ sym (chain_is base p.0 (omega arith)) in
        ap not (not_true _ (λ z. false_true (ap not (same_eq u (age_diagram base p.0) e)) (all_at (suc top) (λ n. not (same u (age_diagram base n))) z p.0 (omega arith))))

-- the age under the bindings' levels is the one read
pub under_read : (k n : ℕ) (o : Tree) → n < 2 ^ 11 → read_age (4 * k) 11 o ≡ aged n → age_under k o ≡ aged n
under_read k n o h e = ap (λ (t : Tree). age_at k (eval t) (λ _. false)) (chain_read 11 (4 * k) n o e ∙ sym (chain_is (4 * k) n h)) ∙ age_of_law k n h (λ _. false)

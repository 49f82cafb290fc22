-- The nodes of an age, made from below and read from above. Assumes nothing.
use Prim.Native.Nat.{ℕ, zero, suc, ◌+◌, ◌*◌, ◌-◌, ◌/◌, ◌%◌, ◌^◌, ◌≤◌, ◌<◌}
use mathlib.Core.Path.{◌≡◌, refl, sym, ◌∙◌}
use mathlib.Core.Bool.{Bool, true, false, cond}
use mathlib.Core.List.{List}
use mathlib.Core.Logic.{◌≢◌, ⊎_elim}
use native.Mathlib.Nat.{eq-or-lt_of_le}
use native.Mathlib.Numerals.{add-one}
use native.Mathlib.Omega.{arith}
use lib.Dec.{eqb}
use lib.Pow.{pow-lt}
use borrow.Author.Tests.{eq-eqb, ne_eqb}
use Rattle.trees.specs.Tree.{Tree, off, on, node, mk}
use Rattle.trees.specs.Table.{at, trees_of}
use Rattle.trees.proofs.Tests.{EqCase, equal, other, eq_case}
use Rattle.trees.proofs.TreeLaws.{mk_differ}
use Rattle.nodes.specs.Nodes.{Table, Splits, Grown, Stuck}
use Rattle.nodes.proofs.ReadLaws.{stays}
use Rattle.std.specs.Prelude.{Option, Some, None}
use Rattle.making.specs.declared.Made.{Made}
use Rattle.making.specs.Tables.{Added}
use Rattle.making.proofs.WalkLaws.{stuck_low, stuck_high, joined}
use Rattle.ages.proofs.AgeWalk.{chain, chain_live, chain_is, shown_t}
use Rattle.aging.specs.Dates.{age_of, Chain, Under, ReadBits, ReadAge}

-- no bit is left
pub bits_end : {ns : List ℕ} {n : ℕ} → Table ns n → (base count m : ℕ) → count ≡ 0 → Grown ns ns n n 1 (chain base count m)
unfolding chain at
bits_end {ns} {n} t base count m e = stays ns n 1 _ t (omega arith) (rw e)

-- the next bit is 0
chain_even : (base m count : ℕ) → count ≢ 0 → m % 2 ≡ 0 → chain base count m ≡ mk base (chain (base + 1) (count - 1) (m / 2)) off
unfolding chain
chain_even base m zero h e = absurd (h refl)
chain_even base m (suc count) h e =
    let c : suc count - 1 ≡ count = omega arith in
    rw (eq-eqb (m % 2) 0 e, add-one, c) (sym (mk_differ base (chain (suc base) count (m / 2)) off (chain_live (suc base) count (m / 2))))

-- the next bit is 1
chain_odd : (base m count : ℕ) → count ≢ 0 → m % 2 ≢ 0 → chain base count m ≡ mk base off (chain (base + 1) (count - 1) (m / 2))
unfolding chain
chain_odd base m zero h e = absurd (h refl)
chain_odd base m (suc count) h e =
    let c : suc count - 1 ≡ count = omega arith in
    rw (ne_eqb (m % 2) 0 e, add-one, c) (sym (mk_differ base off (chain (suc base) count (m / 2)) (λ z. chain_live (suc base) count (m / 2) (sym z))))

-- no is there already
none_there : {ns : List ℕ} {n : ℕ} → Table ns n → Grown ns ns n n 0 off
unfolding at
none_there {ns} {n} t = stays ns n 0 off t (omega arith) refl

module _ {ns : List ℕ} {n : ℕ} (t : Table ns n) (base count m : ℕ) (some : count ≢ 0) where
  -- no room for the later bits
  pub bits_stuck : {ms : List ℕ} → Stuck ns ms n (chain (base + 1) (count - 1) (m / 2)) → Stuck ns ms n (chain base count m)
  bits_stuck {ms} w = go (eqb (m % 2) 0) (eq_case (m % 2) 0)
    where
      go : (q : Bool) → EqCase (m % 2) 0 q → Stuck ns ms n (chain base count m)
      go true (equal e) = rw (chain_even base m count some e) (stuck_low base _ _ t w)
      go false (other e) = rw (chain_odd base m count some e) (stuck_high base _ _ t (none_there t) w)

  module _ {ns₁ : List ℕ} {n₁ q : ℕ} (g : Grown ns ns₁ n n₁ q (chain (base + 1) (count - 1) (m / 2))) (I : List ℕ → ℕ → Type 0) (ms : List ℕ) (x : Option Made) where
    -- the node of a bit that is 0, and of one that is 1
    pub bits_even : m % 2 ≡ 0 → Added I ns₁ ms n₁ (mk base (at (trees_of ns₁ n₁) q) (at (trees_of ns₁ n₁) 0)) x → Added I ns ms n (chain base count m) x
    bits_even e w = rw (chain_even base m count some e) (joined base _ _ t g (none_there g.table) I ms x w)

    pub bits_odd : m % 2 ≢ 0 → Added I ns₁ ms n₁ (mk base (at (trees_of ns₁ n₁) 0) (at (trees_of ns₁ n₁) q)) x → Added I ns ms n (chain base count m) x
    bits_odd e w = rw (chain_odd base m count some e) (joined base _ _ t (none_there t) g I ms x w)

-- the diagram of an age is its nodes; none is no
pub shown_none : {ns : List ℕ} {n : ℕ} → Table ns n → (k : ℕ) → Grown ns ns n n 0 (shown_t k (age_of None))
unfolding shown_t age_of
shown_none t k = none_there t

pub shown_chain : (k x : ℕ) → x < 2048 → shown_t k (age_of (Some x)) ≡ chain (4 * k) 11 x
unfolding shown_t age_of
shown_chain k x q = chain_is (4 * k) x (omega arith)

-- the two sides of a node of an age
data Half (base m n l : ℕ) (x y : Tree) : Type 0 where
  even : n % 2 ≡ 0 → l ≡ base → x ≡ chain (suc base) m (n / 2) → y ≡ off → Half base m n l x y
  odd : n % 2 ≢ 0 → l ≡ base → x ≡ off → y ≡ chain (suc base) m (n / 2) → Half base m n l x y

half : (base m n l : ℕ) (x y : Tree) → node l x y ≡ chain base (suc m) n → Half base m n l x y
unfolding chain
half base m n l x y e = go (eqb (n % 2) 0) (eq_case (n % 2) 0) e
  where
    go : (q : Bool) → EqCase (n % 2) 0 q → node l x y ≡ cond q (node base (chain (suc base) m (n / 2)) off) (node base off (chain (suc base) m (n / 2))) → Half base m n l x y
    go true (equal q) e = even q (cc) (cc) (cc)
    go false (other q) e = odd q (cc) (cc) (cc)

-- where bits are left, the reference is no leaf
pub chain_node : (ts : List Tree) (base count p : ℕ) → count ≢ 0 → Chain base count (at ts p) → 2 ≤ p
unfolding at chain
chain_node ts base zero p some h = absurd (some refl)
chain_node ts base (suc count) zero some h = absurd (chain_live base (suc count) h.age (sym h.is))
chain_node ts base (suc count) (suc zero) some h = go (eqb (h.age % 2) 0) h.is
  where
    go : (q : Bool) → on ≡ cond q (node base (chain (suc base) count (h.age / 2)) off) (node base off (chain (suc base) count (h.age / 2))) → 2 ≤ 1
    go true e = absurd (let z : ◌≡◌ {A = ℕ} 0 1 = cc in omega arith)
    go false e = absurd (let z : ◌≡◌ {A = ℕ} 0 1 = cc in omega arith)
chain_node ts base (suc count) (suc (suc p)) some h = omega arith

-- the node that p leads to, and the number that its sides show
module _ {ns : List ℕ} {n p l a b : ℕ} (t : Table ns n) (s : Splits ns n p l a b) (base : ℕ) where
  halves : (m : ℕ) (h : Chain base (suc m) (at (trees_of ns n) p)) → Half base m h.age l (at (trees_of ns n) a) (at (trees_of ns n) b)
  halves m h = half base m h.age l _ _ (sym s.is ∙ h.is)

  dark : a ≡ 0 → at (trees_of ns n) a ≡ off
  unfolding at
  dark e = rw e

  lit : a ≢ 0 → at (trees_of ns n) a ≢ off
  unfolding at
  lit f e = f (t.one a 0 s.low (omega arith) e)

  -- the low side is no: the bit is 1
  down_odd : (m : ℕ) → Chain base (suc m) (at (trees_of ns n) p) → a ≡ 0 → (l ≡ base) × (c : Chain (suc base) m (at (trees_of ns n) b)) × (at (trees_of ns n) a ≡ off)
  down_odd m h z = go (halves m h)
    where
      go : Half base m h.age l (at (trees_of ns n) a) (at (trees_of ns n) b) → (l ≡ base) × (c : Chain (suc base) m (at (trees_of ns n) b)) × (at (trees_of ns n) a ≡ off)
      go (even q e x y) = absurd (chain_live (suc base) m (h.age / 2) (sym x ∙ dark z))
      go (odd q e x y) = (e, record { age = h.age / 2; small = (let k = h.small in omega arith); is = y }, x)

  -- else it is 0
  down_even : (m : ℕ) → Chain base (suc m) (at (trees_of ns n) p) → a ≢ 0 → (l ≡ base) × (c : Chain (suc base) m (at (trees_of ns n) a)) × (at (trees_of ns n) b ≡ off)
  down_even m h z = go (halves m h)
    where
      go : Half base m h.age l (at (trees_of ns n) a) (at (trees_of ns n) b) → (l ≡ base) × (c : Chain (suc base) m (at (trees_of ns n) a)) × (at (trees_of ns n) b ≡ off)
      go (even q e x y) = (e, record { age = h.age / 2; small = (let k = h.small in omega arith); is = x }, y)
      go (odd q e x y) = absurd (lit z x)

  -- what is asked of the rest, and what it gives
  pub ask_odd : (count : ℕ) → count ≢ 0 → Chain base count (at (trees_of ns n) p) → a ≡ 0 → Chain (base + 1) (count - 1) (at (trees_of ns n) b)
  ask_odd zero some h z = absurd (some refl)
  ask_odd (suc m) some h z = let c : suc m - 1 ≡ m = omega arith in rw (add-one, c) (down_odd m h z).1

  pub ask_even : (count : ℕ) → count ≢ 0 → Chain base count (at (trees_of ns n) p) → a ≢ 0 → Chain (base + 1) (count - 1) (at (trees_of ns n) a)
  ask_even zero some h z = absurd (some refl)
  ask_even (suc m) some h z = let c : suc m - 1 ≡ m = omega arith in rw (add-one, c) (down_even m h z).1

  pub read_odd : (count r : ℕ) → count ≢ 0 → Chain base count (at (trees_of ns n) p) → a ≡ 0 → ReadBits (base + 1) (count - 1) (at (trees_of ns n) b) r → ReadBits base count (at (trees_of ns n) p) (2 * r + 1)
  unfolding chain
  read_odd zero r some h z w = absurd (some refl)
  read_odd (suc m) r some h z w =
      let c : suc m - 1 ≡ m = omega arith in
      let v = rw (add-one, c) at w in
      let d = down_odd m h z in
      let x : (2 * r + 1) / 2 ≡ r = omega arith in
      record {
        small = (let k = v.small in omega arith);
        is = s.is ∙ rw (d.0, d.2, v.is, x, ne_eqb ((2 * r + 1) % 2) 0 (λ i. omega arith));
      }

  pub read_even : (count r : ℕ) → count ≢ 0 → Chain base count (at (trees_of ns n) p) → a ≢ 0 → ReadBits (base + 1) (count - 1) (at (trees_of ns n) a) r → ReadBits base count (at (trees_of ns n) p) (2 * r)
  unfolding chain
  read_even zero r some h z w = absurd (some refl)
  read_even (suc m) r some h z w =
      let c : suc m - 1 ≡ m = omega arith in
      let v = rw (add-one, c) at w in
      let d = down_even m h z in
      let x : 2 * r / 2 ≡ r = omega arith in
      record {
        small = (let k = v.small in omega arith);
        is = s.is ∙ rw (d.0, d.2, v.is, x, eq-eqb (2 * r % 2) 0 (omega arith));
      }

-- no bit is left to read
pub read_end : {base : ℕ} {d : Tree} (count : ℕ) → count ≡ 0 → Chain base count d → ReadBits base count d 0
unfolding chain
read_end zero e h = record { small = omega arith; is = h.is }
read_end (suc count) e h = absurd (omega arith)

-- few bits show a small number
pub read_small : {base count : ℕ} {d : Tree} {r : ℕ} → count ≤ 11 → ReadBits base count d r → r < 2048
read_small {count = count} h w = go count h w.small
  where
    go : {r : ℕ} (count : ℕ) → count ≤ 11 → r < 2 ^ count → r < 2048
    go {r} count h q = ⊎_elim (λ e. omega (arith, rw e at q)) (λ l. let k = pow-lt l in omega arith) (eq-or-lt_of_le h)

-- the age that was read, and no age
pub read_none : (ts : List Tree) (k p : ℕ) → p ≡ 0 → ReadAge k (at ts p) None
unfolding at shown_t age_of
read_none ts k p e = record { small = tt; is = rw e }

pub read_some : {k r : ℕ} {d : Tree} → ReadBits (4 * k) 11 d r → ReadAge k d (Some r)
read_some {k} {r} w =
    let q : r < 2048 = let b = w.small in omega arith in
    record { small = w.small; is = w.is ∙ sym (shown_chain k r q) }

-- a reference other than 0 leads to an age
pub under_chain : {ns : List ℕ} {n p : ℕ} (k : ℕ) → Table ns n → p < n + 2 → p ≢ 0 → Under k (at (trees_of ns n) p) → Chain (4 * k) 11 (at (trees_of ns n) p)
unfolding at
under_chain {ns} {n} {p} k t h f u = ⊎_elim (λ e. absurd (f (t.one p 0 h (omega arith) e))) (λ c. c) u

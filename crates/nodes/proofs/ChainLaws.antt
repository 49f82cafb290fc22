-- Laws of chains: what a walk along one shows, and how a place joins. Assumes nothing.
use Prim.Native.Nat.{ℕ, suc, ◌+◌, ◌*◌, ◌/◌, ◌%◌, ◌≤◌, ◌<◌}
use mathlib.Core.Path.{◌≡◌, refl, ap, ◌∙◌}
use mathlib.Core.List.{List}
use mathlib.Core.Logic.{◌⊎◌, inl, inr, ⊎_elim}
use native.Mathlib.Decide.{ℕ_discrete}
use native.Mathlib.Nat.{mul_comm, mod-lt, mul-le-mul, mul-lt-mul_of_pos_right, div-lt_iff_lt-mul}
use native.Mathlib.Numerals.{add-one}
use native.Mathlib.Omega.{arith}
use lib.ListN.{length, get_or, set, length-set}
use lib.Seq.{get_or-set_same, get_or-set_other}
use Rattle.trees.specs.Table.{NodeIs}
use Rattle.trees.proofs.Tests.{lt_or_ge}
use Rattle.std.specs.Prelude.{Option, Some, None}
use Rattle.nodes.specs.Nodes.{Front, Rest, Between, Zeroed}
use Rattle.nodes.specs.Chains.{spread, Reaches, here, later, Falling, Chains, joined, Walkable, Sought, ended, found, passed, head_of, Chained}
use Rattle.nodes.proofs.ReadLaws.{stored, stored_is, stored_front}

-- a chain that has ended leads nowhere
reaches_end : (work : List ℕ) (links i p : ℕ) → p ≡ 0 → Reaches work links i p → ⊥
reaches_end work links i p e (here p' f) = omega arith
reaches_end work links i p e (later p' q f r) = omega arith

-- a chain leads to its first place, or on from there
reaches_next : (work : List ℕ) (links i p q : ℕ) → p ≡ suc q → Reaches work links i p → (i ≡ q) ⊎ Reaches work links i (get_or work (links + q) 0)
reaches_next work links i p q e (here p' f) = inl (omega arith)
reaches_next work links i p q e (later p' q' f r) = inr (let z : q ≡ q' = omega arith in rw z r)

-- no place is chained yet
pub chains_none : (head : ℕ → ℕ) (at links : ℕ) (work : List ℕ) → ((x : ℕ) → at ≤ x → x < links → get_or work x 0 ≡ 0) → Chains head at links work 0
chains_none head at links work z = record {
  falls = λ i h. absurd (omega arith);
  starts = λ x h k. omega (arith, z x h k);
  reached = λ i h. absurd (omega arith);
}

-- what joining leaves as it was
pub joined_other : (work : List ℕ) (x links n y : ℕ) → (y ≡ x → ⊥) → (y ≡ links + n → ⊥) → get_or (joined work x links n) y 0 ≡ get_or work y 0
joined_other work x links n y p q =
    get_or-set_other (set work (links + n) (get_or work x 0)) x y (n + 1) 0 p
    ∙ get_or-set_other work (links + n) y (get_or work x 0) 0 q

-- the place n joins the chain of its head
module _ (head : ℕ → ℕ) (at links : ℕ) (work : List ℕ) (n : ℕ) (inside : (i : ℕ) → (at ≤ head i) × (head i < links)) (room : links + n < length work) (c : Chains head at links work n) where
  new : List ℕ
  new = joined work (head n) links n

  head_new : get_or new (head n) 0 ≡ n + 1
  unfolding new
  head_new = get_or-set_same (set work (links + n) (get_or work (head n) 0)) (head n) (n + 1) 0 (rw length-set (omega (arith, (inside n).1)))

  link_new : get_or new (links + n) 0 ≡ get_or work (head n) 0
  unfolding new
  link_new =
      get_or-set_other (set work (links + n) (get_or work (head n) 0)) (head n) (links + n) (n + 1) 0 (λ e. omega (arith, (inside n).1))
      ∙ get_or-set_same work (links + n) (get_or work (head n) 0) 0 room

  old : (x : ℕ) → (x ≡ head n → ⊥) → (x ≡ links + n → ⊥) → get_or new x 0 ≡ get_or work x 0
  unfolding new
  old = joined_other work (head n) links n

  falls_new : Falling new links (n + 1)
  falls_new i h = ⊎_elim
      (λ p. rw (old (links + i) (λ e. omega (arith, (inside n).1)) (λ e. omega arith)) (c.falls i p))
      (λ p. let z : i ≡ n = omega arith in rw (z, link_new) (c.starts (head n) (inside n).0 (inside n).1))
      (lt_or_ge i n)

  starts_new : (x : ℕ) → at ≤ x → x < links → get_or new x 0 ≤ n + 1
  starts_new x h k = go (ℕ_discrete x (head n))
    where
      go : Dec (x ≡ head n) → get_or new x 0 ≤ n + 1
      go (yes e) = rw (e, head_new) (omega arith)
      go (no e) = rw (old x e (λ f. omega arith)) (omega (arith, c.starts x h k))

  -- what was chained stays so
  keep : (i p : ℕ) → p ≤ n → Reaches work links i p → Reaches new links i p
  keep i p h (here p' f) = here p f
  keep i p h (later p' q f r) =
      later p q f (rw (old (links + q) (λ e. omega (arith, (inside n).1)) (λ e. omega arith)) (keep i (get_or work (links + q) 0) (omega (arith, c.falls q (omega arith))) r))

  reached_new : (i : ℕ) → i < n + 1 → Reaches new links i (get_or new (head i) 0)
  reached_new i h = ⊎_elim
      (λ p.
      let r = keep i (get_or work (head i) 0) (c.starts (head i) (inside i).0 (inside i).1) (c.reached i p) in
      go r (ℕ_discrete (head i) (head n)))
      (λ p. let z : i ≡ n = omega arith in rw (z, head_new) (here (n + 1) (add-one n)))
      (lt_or_ge i n)
    where
      go : Reaches new links i (get_or work (head i) 0) → Dec (head i ≡ head n) → Reaches new links i (get_or new (head i) 0)
      go r (yes e) = rw (e, head_new) (later (n + 1) n (add-one n) (rw (link_new, ← e) r))
      go r (no e) = rw (old (head i) e (λ f. omega (arith, (inside i).1))) r

  pub chains_more : Chains head at links (joined work (head n) links n) (n + 1)
  unfolding new
  chains_more = record { falls = falls_new; starts = starts_new; reached = reached_new }

-- a share of m is the same share of `size`
pub share_below : (x m size : ℕ) → 0 < m → 0 < size → x % m * size / m < size
share_below x m size some more = (div-lt_iff_lt-mul {x = x % m * size} some).1 (rw (mul_comm size m) (mul-lt-mul_of_pos_right (mod-lt x some) more))

-- and its product with m fits 64 bits
pub share_fits : (x size : ℕ) → size ≤ 8192 → x % 4294967296 * size ≤ 35184372088832
share_fits x size h = let q = mod-lt x {m = 4294967296} (omega arith) in mul-le-mul {n₂ = 4294967296} (omega arith) h

-- the head of a node is one of the heads, which stand before the links
pub head_within : (ns : List ℕ) (at size links : ℕ) → 0 < size → at + size ≤ links → (i : ℕ) → (at ≤ head_of ns at size i) × (head_of ns at size i < links)
unfolding head_of spread
head_within ns at size links some h i =
    let mixed : ℕ = get_or ns (3 * i) 0 * 625341585 + get_or ns (3 * i + 1) 0 * 668265263 + get_or ns (3 * i + 2) 0 * 374761393 in
    (omega arith, omega (arith, share_below mixed 4294967296 size (omega arith) some))

-- it stands where the bucket says
pub head_is : {ns : List ℕ} {i l a b : ℕ} → NodeIs ns i l a b → (at size s : ℕ) → s ≡ spread l a b size → head_of ns at size i ≡ at + s
unfolding head_of
head_is w at size s e = rw (w.level, w.low, w.high, e)

-- a search that finds nothing: no place on the chain holds the node
sought_none : {ns : List ℕ} {links : ℕ} {work : List ℕ} {l a b p : ℕ} {r : Option ℕ} → Sought ns links work l a b p r → r ≡ None → (i : ℕ) → Reaches work links i p → NodeIs ns i l a b → ⊥
sought_none {links = links} {work} (ended p e) z i w n = reaches_end work links i p e w
sought_none (found p q e h) z i w n = absurd cc
sought_none {links = links} {work} (passed p q r e differ s) z i w n = ⊎_elim (λ f. let y : i ≡ q = f in differ (rw y at n)) (λ t. sought_none s z i t n) (reaches_next work links i p q e w)

-- a search that finds the node, on a chain that starts below n + 1: it stands at a place below n
sought_some : {ns : List ℕ} {links : ℕ} {work : List ℕ} {l a b p : ℕ} {r : Option ℕ} → Sought ns links work l a b p r → (j : ℕ) → r ≡ Some j → (n : ℕ) → Falling work links n → p ≤ n → (j < n) × NodeIs ns j l a b
sought_some (ended p e) j h n fall le = absurd cc
sought_some (found p q e w) j h n fall le = let z : j ≡ q = cc in (omega arith, rw z w)
sought_some (passed p q r e differ s) j h n fall le = sought_some s j h n fall (omega (arith, fall q (omega arith)))

-- two results of one search are the same
pub one_sought : {ns : List ℕ} {links : ℕ} {work : List ℕ} {l a b p : ℕ} {r s : Option ℕ} → Sought ns links work l a b p r → Sought ns links work l a b p s → r ≡ s
one_sought (ended p e) (ended p' g) = refl
one_sought (ended p e) (found p' q g w) = absurd (omega arith)
one_sought (ended p e) (passed p' q s g differ t) = absurd (omega arith)
one_sought (found p q e w) (ended p' g) = absurd (omega arith)
one_sought (found p q e w) (found p' q' g v) = let z : q ≡ q' = omega arith in ap Some z
one_sought (found p q e w) (passed p' q' s g differ t) = let z : q ≡ q' = omega arith in absurd (differ (rw z at w))
one_sought (passed p q r e differ t) (ended p' g) = absurd (omega arith)
one_sought (passed p q r e differ t) (found p' q' g w) = let z : q' ≡ q = omega arith in absurd (differ (rw z at w))
one_sought (passed p q r e differ t) (passed p' q' s g differ' u) = let z : q' ≡ q = omega arith in one_sought t (rw z at u)

-- what is chained depends on the work slice from the heads on
pub chained_same : {ns : List ℕ} {n : ℕ} {w w' : List ℕ} → Chained ns n w → Rest (13 * (length ns / 3)) w w' → Chained ns n w'
unfolding head_of
chained_same {ns} {n} {w} {w'} ch e =
    let c = ch.chains in
    record {
      chains = record {
        falls = λ i h. rw (e.eq (14 * (length ns / 3) + i) (omega arith)) (c.falls i h);
        starts = λ x h k. rw (e.eq x h) (c.starts x h k);
        reached = λ i h. start i (keep i _ (c.reached i h));
      };
    }
  where
    keep : (i p : ℕ) → Reaches w (14 * (length ns / 3)) i p → Reaches w' (14 * (length ns / 3)) i p
    keep i p (here p' f) = here p f
    keep i p (later p' q f r) = later p q f (rw (e.eq (14 * (length ns / 3) + q) (omega arith)) (keep i _ r))

    start : (i : ℕ) → Reaches w' (14 * (length ns / 3)) i (get_or w (head_of ns (13 * (length ns / 3)) (length ns / 3) i) 0)
        → Reaches w' (14 * (length ns / 3)) i (get_or w' (head_of ns (13 * (length ns / 3)) (length ns / 3) i) 0)
    start i r = rw (e.eq (head_of ns (13 * (length ns / 3)) (length ns / 3) i) (omega arith)) r

-- and on the numbers of the nodes that are chained
pub chained_nodes : {ns ns' : List ℕ} {n : ℕ} {w : List ℕ} → Chained ns n w → Front (3 * n) ns ns' → length ns' ≡ length ns → Chained ns' n w
unfolding head_of
chained_nodes {ns} {ns'} {n} {w} ch e size =
    let c = ch.chains in
    record {
      chains = rw size (record {
        falls = c.falls;
        starts = c.starts;
        reached = λ i h. rw (e.eq (3 * i) (omega arith), e.eq (3 * i + 1) (omega arith), e.eq (3 * i + 2) (omega arith)) (c.reached i h);
      });
    }

-- no node is chained yet
pub chained_start : {ns w : List ℕ} → ((x : ℕ) → 13 * (length ns / 3) ≤ x → x < 14 * (length ns / 3) → get_or w x 0 ≡ 0) → Chained ns 0 w
chained_start {ns} {w} z = record { chains = chains_none _ _ _ w z }

-- a node, and where its head stands: s from the first head on
module _ {ns : List ℕ} {n : ℕ} {w : List ℕ} (ch : Chained ns n w) (l a b s : ℕ) (below : s < length ns / 3) (e : s ≡ spread l a b (length ns / 3)) where
  -- its chain starts at a chained place
  pub chained_first : get_or w (13 * (length ns / 3) + s) 0 ≤ n
  chained_first = ch.chains.starts (13 * (length ns / 3) + s) (omega arith) (omega arith)

  -- and can be walked
  pub chained_walk : 3 * n ≤ length ns → 15 * (length ns / 3) ≤ length w → Walkable ns (14 * (length ns / 3)) w (get_or w (13 * (length ns / 3) + s) 0)
  chained_walk fits room =
      let f = chained_first in
      record { places = omega arith; room = omega arith; falls = λ i h. ch.chains.falls i (omega arith) }

  -- a search that finds nothing: no chained place holds the node
  pub chained_missed : Sought ns (14 * (length ns / 3)) w l a b (get_or w (13 * (length ns / 3) + s) 0) None → (j : ℕ) → j < n → NodeIs ns j l a b → ⊥
  chained_missed t j h v = sought_none t refl j (rw (head_is v (13 * (length ns / 3)) (length ns / 3) s e) at (ch.chains.reached j h)) v

  -- a search that finds it: it stands at a chained place
  pub chained_found : {j : ℕ} → Sought ns (14 * (length ns / 3)) w l a b (get_or w (13 * (length ns / 3) + s) 0) (Some j) → (j < n) × NodeIs ns j l a b
  chained_found {j} t = sought_some t j refl n ch.chains.falls chained_first

  -- the node at place n joins
  pub chained_more : NodeIs ns n l a b → n < length ns / 3 → 15 * (length ns / 3) ≤ length w → Chained ns (n + 1) (joined w (13 * (length ns / 3) + s) (14 * (length ns / 3)) n)
  chained_more v h room =
      let c = length ns / 3 in
      let at = head_is v (13 * c) c s e in
      record { chains = rw at at (chains_more (head_of ns (13 * c) c) (13 * c) (14 * c) w n (head_within ns (13 * c) c (14 * c) (omega arith) (omega arith)) (omega arith) ch.chains) }

-- the node is stored at place n and joins
pub chained_stored : {ns : List ℕ} {n : ℕ} {w : List ℕ} → Chained ns n w → (l a b s : ℕ) → s < length ns / 3 → s ≡ spread l a b (length ns / 3)
    → 3 * n + 3 ≤ length ns → 15 * (length ns / 3) ≤ length w → Chained (stored ns n l a b) (n + 1) (joined w (13 * (length ns / 3) + s) (14 * (length ns / 3)) n)
chained_stored {ns} {n} {w} ch l a b s below e fits room =
    let size : length (stored ns n l a b) ≡ length ns = simp length-set in
    let moved = chained_nodes ch (stored_front ns n l a b fits) size in
    record { chains = rw size (rw size at (chained_more moved l a b s (rw size below) (rw size e) (stored_is ns n l a b fits) (rw size (omega arith)) (rw size room)).chains) }

-- only heads and links change
pub joined_between : (at end : ℕ) (work : List ℕ) (x links n : ℕ) → at ≤ x → x < links → links + n < end → Between at end work (joined work x links n)
joined_between at end work x links n low high last = record {
  same = record { eq = λ i h. joined_other work x links n i (λ e. omega arith) (λ e. omega arith) };
  rest = record { eq = λ i h. joined_other work x links n i (λ e. omega arith) (λ e. omega arith) };
}

-- one change after the other
pub between_trans : {j k : ℕ} {xs ys zs : List ℕ} → Between j k xs ys → Between j k ys zs → Between j k xs zs
between_trans p q = record {
  same = record { eq = λ i h. q.same.eq i h ∙ p.same.eq i h };
  rest = record { eq = λ i h. q.rest.eq i h ∙ p.rest.eq i h };
}

-- zeroed numbers are such a change
pub between_zeroed : {j k from to : ℕ} {xs ys : List ℕ} → j ≤ from → to ≤ k → Zeroed from to xs ys → Between j k xs ys
between_zeroed h l z = record {
  same = record { eq = λ i p. z.same.eq i (omega arith) };
  rest = record { eq = λ i p. z.rest.eq i (omega arith) };
}

-- Laws of chains of exists rows: what they say, how long they go, and their variables at inner places. Assumes nothing.
use Prim.Native.Nat.{ℕ, zero, suc, ◌+◌, ◌*◌, ◌-◌, ◌≤◌, ◌<◌}
use mathlib.Core.Path.{◌≡◌, refl, sym, ap, ◌∙◌}
use mathlib.Core.Bool.{Bool, true, false, cond, not, ◌||◌}
use mathlib.Core.List.{List, [], ◌∷◌}
use mathlib.Core.Logic.{◌≢◌, ◌⊎◌, inl, inr, ⊎_elim}
use native.Mathlib.Omega.{arith}
use lib.Dec.{eqb, ltb}
use borrow.Author.Tests.{eq-eqb, eqb-true, lt-ltb, le-ltb}
use lib.ListN.{length, get_or}
use Rattle.trees.specs.Bits.{Bits, Function, Same, Asks, bit, drops}
use Rattle.trees.proofs.Tests.{false_true, iff_eq, lt_or_ge, or_cases, or_l, or_r, EqCase, equal, other, eq_case}
use Rattle.trees.proofs.BitsLaws.{Outside, drops_some, drops_of, drops_same, asks_drops}
use Rattle.binding.specs.First.{Order}
use Rattle.binding.specs.Chain.{Link, negates, removes, before, go_on, chain_from, below, chain_of, chained, among, inner}
use Rattle.binding.specs.Chain as chain

-- the rows say what the chain says over its inner row
module _ (link : ℕ → Link) (k : ℕ) (says : ℕ → Function) (exists-says : (i v r : ℕ) → link i ≡ removes v r → Same (says i) (drops (v * k) k (says r))) where
  pub chain_says : (n i : ℕ) → Same (says i) (chained k (chain_from link n i).variables (says (chain_from link n i).row))
  unfolding chain_from chained go_on before
  chain_says zero i s = refl
  chain_says (suc n) i s = go (link i) refl (chain_says n)
    where
      go : (l : Link) → link i ≡ l → ((r : ℕ) → Same (says r) (chained k (chain_from link n r).variables (says (chain_from link n r).row)))
          → says i s ≡ chained k (go_on l (chain_from link n) i).variables (says (go_on l (chain_from link n) i).row) s
      go (removes v r) e h = exists-says i v r e s ∙ drops_same (v * k) k (says r) (chained k (chain_from link n r).variables (says (chain_from link n r).row)) (h r) s
      go (negates r) e h = refl
      go chain.other e h = refl

-- "The chain is as long as it goes": its inner row is no exists
module _ (link : ℕ → Link) (back : (i v r : ℕ) → link i ≡ removes v r → r < i) where
  pub chain_whole : (n i : ℕ) → i < n → (v r : ℕ) → link (chain_from link n i).row ≡ removes v r → ⊥
  unfolding chain_from go_on before
  chain_whole zero i h v r e = omega arith
  chain_whole (suc n) i h v r e = go (link i) refl (λ j l. chain_whole n j l v r) e
    where
      go : (l : Link) → link i ≡ l → ((j : ℕ) → j < n → link (chain_from link n j).row ≡ removes v r → ⊥) → link (go_on l (chain_from link n) i).row ≡ removes v r → ⊥
      go (removes u q) w f e = f q (omega (arith, back i u q w, h)) e
      go (negates q) w f e = let z : ◌≡◌ {A = ℕ} 0 1 = cc in omega arith
      go chain.other w f e = let z : ◌≡◌ {A = ℕ} 0 1 = cc in omega arith

-- the inner places name the same variables
pub among_inner : (x : ℕ) (vs : List ℕ) → among x (inner vs) ≡ among x vs
unfolding among inner
among_inner x [] = refl
among_inner x (v ∷ vs) = go (among v vs) refl (among_inner x vs)
  where
    same : (b : Bool) → EqCase x v b → among v vs ≡ true → among x vs ≡ (b || among x vs)
    same true (equal e) h = rw e h
    same false (other n) h = refl

    go : (b : Bool) → among v vs ≡ b → among x (inner vs) ≡ among x vs → among x (cond b (inner vs) (v ∷ inner vs)) ≡ (eqb x v || among x vs)
    go true h e = e ∙ same (eqb x v) (eq_case x v) h
    go false h e = ap (λ (b : Bool). eqb x v || b) e

-- each variable is named once
abbrev Once : List ℕ → Type 0
Once [] = Unit {0}
Once (v ∷ vs) = (among v vs ≡ false) × Once vs

inner_once : (vs : List ℕ) → Once (inner vs)
unfolding inner
inner_once [] = tt
inner_once (v ∷ vs) = go (among v vs) refl (inner_once vs)
  where
    go : (b : Bool) → among v vs ≡ b → Once (inner vs) → Once (cond b (inner vs) (v ∷ inner vs))
    go true h o = o
    go false h o = (among_inner v vs ∙ h, o)

-- a variable at some place is among them
among_at : (vs : List ℕ) (i : ℕ) → i < length vs → among (get_or vs i 0) vs ≡ true
unfolding among
among_at [] i h = absurd (omega arith)
among_at (v ∷ vs) zero h = or_l (eqb v v) (among v vs) (eq-eqb v v refl)
among_at (v ∷ vs) (suc i) h = or_r (eqb (get_or vs i 0) v) (among (get_or vs i 0) vs) (among_at vs i (omega arith))

once_differ : (vs : List ℕ) → Once vs → (i j : ℕ) → i < length vs → j < i → get_or vs i 0 ≢ get_or vs j 0
once_differ [] o i j h l e = omega arith
once_differ (v ∷ vs) o zero j h l e = omega arith
once_differ (v ∷ vs) o (suc i) zero h l e = false_true o.0 (rw e at (among_at vs i (omega arith)))
once_differ (v ∷ vs) o (suc i) (suc j) h l e = once_differ vs o.1 i j (omega arith) (omega arith) e

-- the variables are below 4
abbrev pub Few : List ℕ → Type 0
Few vs = (v : ℕ) → among v vs ≡ true → v < 4

-- the inner places are an order
pub inner_order : (vs : List ℕ) → Few vs → Order (inner vs) (length (inner vs))
inner_order vs few = record {
  few = λ i h. few (get_or (inner vs) i 0) (sym (among_inner (get_or (inner vs) i 0) vs) ∙ among_at (inner vs) i h);
  differ = λ i j h l. once_differ (inner vs) (inner_once vs) i j h l;
}

-- and there are at most four of them
four : List ℕ → ℕ
four vs = bit (among 0 vs) + bit (among 1 vs) + bit (among 2 vs) + bit (among 3 vs)

once_few : (vs : List ℕ) → Once vs → Few vs → length vs ≤ four vs
unfolding four among
once_few [] o few = omega arith
once_few (v ∷ vs) o few = go v o.0 (few v (or_l (eqb v v) (among v vs) (eq-eqb v v refl))) (once_few vs o.1 (λ u h. few u (or_r (eqb u v) (among u vs) h)))
  where
    go : (v : ℕ) → among v vs ≡ false → v < 4 → length vs ≤ four vs
        → suc (length vs) ≤ bit (eqb 0 v || among 0 vs) + bit (eqb 1 v || among 1 vs) + bit (eqb 2 v || among 2 vs) + bit (eqb 3 v || among 3 vs)
    go zero h l r = let z = ap bit h in omega arith
    go (suc zero) h l r = let z = ap bit h in omega arith
    go (suc (suc zero)) h l r = let z = ap bit h in omega arith
    go (suc (suc (suc zero))) h l r = let z = ap bit h in omega arith
    go (suc (suc (suc (suc v)))) h l r = absurd (omega arith)

pub inner_four : (vs : List ℕ) → Few vs → length (inner vs) ≤ 4
unfolding four
inner_four vs few =
    let h = once_few (inner vs) (inner_once vs) (λ v e. few v (sym (among_inner v vs) ∙ e)) in
    omega (arith, h, small (among 0 (inner vs)), small (among 1 (inner vs)), small (among 2 (inner vs)), small (among 3 (inner vs)))
  where
    small : (x : Bool) → bit x ≤ 1
    small true = omega arith
    small false = omega arith

-- bits alike but for the levels of some variables
pub record Beside (k : ℕ) (vs : List ℕ) (s t : Bits) : Type 0 where
  pub same : (l : ℕ) → ((v : ℕ) → among v vs ≡ true → (l < v * k) ⊎ (v * k + k ≤ l)) → s l ≡ t l

module _ (k : ℕ) where
  asks_chain : (lo hi : ℕ) (vs : List ℕ) (g : Function) → Asks lo hi g → Asks lo hi (chained k vs g)
  unfolding chained
  asks_chain lo hi [] g a = a
  asks_chain lo hi (v ∷ vs) g a = asks_drops lo hi (v * k) k (chained k vs g) (asks_chain lo hi vs g a)

  -- where the chain holds, its inner function holds for some setting of the chain's variables
  pub chain_some : (vs : List ℕ) (g : Function) (s : Bits) → chained k vs g s ≡ true → (t : Bits) × Beside k vs s t × (g t ≡ true)
  unfolding chained among
  chain_some [] g s h = (s, record { same = λ l f. refl }, h)
  chain_some (v ∷ vs) g s h =
      let r = drops_some (v * k) k (chained k vs g) s h in
      let q = chain_some vs g r.0 r.2 in
      (q.0, record { same = λ l f. r.1 l (f v (or_l (eqb v v) (among v vs) (eq-eqb v v refl))) ∙ q.1.same l (λ u e. f u (or_r (eqb u v) (among u vs) e)) }, q.2)

  -- and the other way round
  pub chain_of_law : (lo hi : ℕ) (vs : List ℕ) (g : Function) → Asks lo hi g → (s t : Bits) → Beside k vs s t → g t ≡ true → chained k vs g s ≡ true
  unfolding chained among
  chain_of_law lo hi [] g a s t b h = a.only s t (λ l p q. b.same l (λ v e. absurd (false_true refl e))) ∙ h
  chain_of_law lo hi (v ∷ vs) g a s t b h =
      drops_of lo hi (v * k) k (chained k vs g) (asks_chain lo hi vs g a) s u near (chain_of_law lo hi vs g a u t (record { same = rest }) h)
    where
      u : Bits
      u l = cond (ltb l (v * k)) (s l) (cond (ltb l (v * k + k)) (t l) (s l))

      low : (l : ℕ) → l < v * k → u l ≡ s l
      low l p = rw (lt-ltb l (v * k) p)

      high : (l : ℕ) → v * k + k ≤ l → u l ≡ s l
      high l p = rw (le-ltb l (v * k) (omega arith), le-ltb l (v * k + k) p)

      mid : (l : ℕ) → v * k ≤ l → l < v * k + k → u l ≡ t l
      mid l p q = rw (le-ltb l (v * k) p, lt-ltb l (v * k + k) q)

      near : Outside (v * k) k s u
      near l (inl p) = sym (low l p)
      near l (inr p) = sym (high l p)

      wide : (l : ℕ) → (l < v * k) ⊎ (v * k + k ≤ l) → ((x : ℕ) → among x vs ≡ true → (l < x * k) ⊎ (x * k + k ≤ l)) → s l ≡ t l
      wide l p f = b.same l (λ x e. ⊎_elim (λ z. away x (eqb-true x v z) p) (λ z. f x z) (or_cases (eqb x v) (among x vs) e))
        where
          away : (x : ℕ) → x ≡ v → (l < v * k) ⊎ (v * k + k ≤ l) → (l < x * k) ⊎ (x * k + k ≤ l)
          away x z p = rw z p

      rest : (l : ℕ) → ((x : ℕ) → among x vs ≡ true → (l < x * k) ⊎ (x * k + k ≤ l)) → u l ≡ t l
      rest l f = ⊎_elim
          (λ p. low l p ∙ wide l (inl p) f)
          (λ p. ⊎_elim (λ q. mid l p q) (λ q. high l q ∙ wide l (inr q) f) (lt_or_ge l (v * k + k)))
          (lt_or_ge l (v * k))

  -- the chain over the inner places says the same
  pub chain_inner : (lo hi : ℕ) (vs : List ℕ) (g : Function) → Asks lo hi g → Same (chained k vs g) (chained k (inner vs) g)
  chain_inner lo hi vs g a s = iff_eq _ _
      (λ h. let r = chain_some vs g s h in chain_of_law lo hi (inner vs) g a s r.0 (record { same = λ l f. r.1.same l (λ v e. f v (among_inner v vs ∙ e)) }) r.2)
      (λ h. let r = chain_some (inner vs) g s h in chain_of_law lo hi vs g a s r.0 (record { same = λ l f. r.1.same l (λ v e. f v (sym (among_inner v vs) ∙ e)) }) r.2)

-- A no of a rule with a chain: the inner row holds for some setting of the chain's variables
module _ (link : ℕ → Link) (k : ℕ) (says : ℕ → Function) (exists-says : (i v r : ℕ) → link i ≡ removes v r → Same (says i) (drops (v * k) k (says r)))
    (not-says : (i r : ℕ) → link i ≡ negates r → Same (says i) (λ s. not (says r s))) where
  pub no_some : (count : ℕ) (s : Bits) → (chain_of link count).variables ≢ [] → says (count - 1) s ≡ false
      → (t : Bits) × Beside k (chain_of link count).variables s t × (says (chain_of link count).row t ≡ true)
  unfolding chain_of below
  no_some count s some off = go (link (count - 1)) refl some
    where
      yes_of : (b : Bool) → not b ≡ false → b ≡ true
      yes_of true e = refl
      yes_of false e = sym e

      go : (l : Link) → link (count - 1) ≡ l → (below l (chain_from link count)).variables ≢ []
          → (t : Bits) × Beside k (below l (chain_from link count)).variables s t × (says (below l (chain_from link count)).row t ≡ true)
      go (negates r) e w =
          let c = chain_from link count r in
          chain_some k c.variables (says c.row) s
          (sym (chain_says link k says exists-says count r s) ∙ yes_of (says r s) (sym (not-says (count - 1) r e s) ∙ off))
      go (removes v r) e w = absurd (w refl)
      go chain.other e w = absurd (w refl)

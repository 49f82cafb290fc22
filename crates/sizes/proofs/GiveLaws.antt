-- Laws of words given to nodes: what the pass over the nodes reaches. Assumes nothing.
use Prim.Native.Nat.{ℕ, zero, suc, ◌+◌, ◌*◌, ◌≤◌, ◌<◌}
use mathlib.Core.Path.{◌≡◌, refl, sym, ap, ◌∙◌}
use mathlib.Core.Bool.{true, ◌||◌}
use mathlib.Core.List.{List}
use mathlib.Core.Logic.{◌≢◌, ◌⊎◌, inl, inr, ⊎_elim}
use native.Mathlib.Decide.{ℕ_discrete}
use native.Mathlib.Nat.{eq-or-lt_of_le}
use native.Mathlib.Omega.{arith}
use borrow.Author.Tests.{eq-eqb, eqb-true}
use lib.ListN.{length, get_or, length-set, get_or-eq_default}
use lib.Seq.{get_or-set_same, get_or-set_other}
use Rattle.trees.proofs.Tests.{lt_or_ge, false_true, or_cases, or_l, or_r}
use Rattle.trees.proofs.ReadLaws.{Back}
use Rattle.sizes.specs.Words.{Word, none, only, give, given, sides, down}

-- row i is in the word of place j
abbrev pub In : List Word → ℕ → ℕ → Type 0
In ws j i = get_or ws j none i ≡ true

pub give_length : (ws : List Word) (r : ℕ) (w : Word) → length (give ws r w) ≡ length ws
unfolding give
give_length ws zero w = refl
give_length ws (suc zero) w = refl
give_length ws (suc (suc j)) w = length-set ws j _

-- a word given to another place
pub give_other : (ws : List Word) (r : ℕ) (w : Word) (j : ℕ) → r ≢ suc (suc j) → get_or (give ws r w) j none ≡ get_or ws j none
unfolding give
give_other ws zero w j h = refl
give_other ws (suc zero) w j h = refl
give_other ws (suc (suc k)) w j h = get_or-set_other ws k j _ none (λ e. h (ap (λ (x : ℕ). suc (suc x)) (sym e)))

pub give_own : (ws : List Word) (j : ℕ) (w : Word) → j < length ws → get_or (give ws (suc (suc j)) w) j none ≡ (λ i. get_or ws j none i || w i)
unfolding give
give_own ws j w h = get_or-set_same ws j _ none h

-- what was there stays
pub give_keeps : (ws : List Word) (r : ℕ) (w : Word) (j i : ℕ) → j < length ws → In ws j i → In (give ws r w) j i
give_keeps ws r w j i h e = elim (ℕ_discrete r (suc (suc j))) [
  | yes z ↦ rw (z, give_own ws j w h) (or_l (get_or ws j none i) (w i) e)
  | no z ↦ rw (give_other ws r w j z) e
]

pub give_new : (ws : List Word) (j : ℕ) (w : Word) (i : ℕ) → j < length ws → w i ≡ true → In (give ws (suc (suc j)) w) j i
give_new ws j w i h e = rw (give_own ws j w h) (or_r (get_or ws j none i) (w i) e)

-- what is there was there, or was given
pub give_from : (ws : List Word) (r : ℕ) (w : Word) (j i : ℕ) → j < length ws → In (give ws r w) j i → (In ws j i) ⊎ ((r ≡ suc (suc j)) × (w i ≡ true))
give_from ws r w j i h e = elim (ℕ_discrete r (suc (suc j))) [
  | yes z ↦ ⊎_elim (λ k. inl k) (λ k. inr (z, k)) (or_cases (get_or ws j none i) (w i) (sym (own z) ∙ e))
  | no z ↦ inl (sym (ap (λ (x : Word). x i) (give_other ws r w j z)) ∙ e)
]
  where
    own : r ≡ suc (suc j) → get_or (give ws r w) j none i ≡ (get_or ws j none i || w i)
    own z = rw z (ap (λ (x : Word). x i) (give_own ws j w h))

-- the pass over the first n of m nodes
module _ (ns : List ℕ) (m : ℕ) (back : Back ns m) where
  abbrev low : ℕ → ℕ
  low j = get_or ns (3 * j + 1) 0

  abbrev high : ℕ → ℕ
  high j = get_or ns (3 * j + 2) 0

  sides_length : (ws : List Word) (j : ℕ) → length (sides ns j ws) ≡ length ws
  unfolding sides
  sides_length ws j = give_length (give ws (low j) (get_or ws j none)) (high j) (get_or ws j none) ∙ give_length ws (low j) (get_or ws j none)

  sides_keeps : (ws : List Word) (k j i : ℕ) → j < length ws → In ws j i → In (sides ns k ws) j i
  unfolding sides
  sides_keeps ws k j i h e =
      give_keeps (give ws (low k) (get_or ws k none)) (high k) (get_or ws k none) j i (rw (give_length ws (low k) (get_or ws k none)) h)
      (give_keeps ws (low k) (get_or ws k none) j i h e)

  pub down_keeps : (n : ℕ) (ws : List Word) (j i : ℕ) → j < length ws → In ws j i → In (down ns n ws) j i
  unfolding down
  down_keeps zero ws j i h e = e
  down_keeps (suc k) ws j i h e = down_keeps k (sides ns k ws) j i (rw (sides_length ws k) h) (sides_keeps ws k j i h e)

  -- places from the last on keep their words
  pub down_past : (n : ℕ) (ws : List Word) (j : ℕ) → n ≤ m → n ≤ suc j → get_or (down ns n ws) j none ≡ get_or ws j none
  unfolding down sides
  down_past zero ws j h k = refl
  down_past (suc n) ws j h k =
      let b = back n (omega arith) in
      down_past n (sides ns n ws) j (omega arith) (omega arith)
      ∙ give_other (give ws (low n) (get_or ws n none)) (high n) (get_or ws n none) j (λ e. omega arith)
      ∙ give_other ws (low n) (get_or ws n none) j (λ e. omega arith)

  -- the place c is that of a side of the node at place j
  abbrev pub Below : ℕ → ℕ → Type 0
  Below j c = (low j ≡ suc (suc c)) ⊎ (high j ≡ suc (suc c))

  sides_new : (ws : List Word) (j c i : ℕ) → j < m → m ≤ length ws → Below j c → In ws j i → In (sides ns j ws) c i
  unfolding sides
  sides_new ws j c i h l (inl z) e =
      let b = back j h in
      give_keeps (give ws (low j) (get_or ws j none)) (high j) (get_or ws j none) c i (rw (give_length ws (low j) (get_or ws j none)) (omega arith))
      (rw z (give_new ws c (get_or ws j none) i (omega arith) e))
  sides_new ws j c i h l (inr z) e =
      let b = back j h in
      rw z (give_new (give ws (low j) (get_or ws j none)) c (get_or ws j none) i (rw (give_length ws (low j) (get_or ws j none)) (omega arith)) e)

  -- a node's rows reach its sides
  pub down_below : (n : ℕ) (ws : List Word) (j c i : ℕ) → n ≤ m → m ≤ length ws → j < n → Below j c → In (down ns n ws) j i → In (down ns n ws) c i
  unfolding down
  down_below zero ws j c i h l k z e = absurd (omega arith)
  down_below (suc n) ws j c i h l k z e = ⊎_elim
      (λ q. here (omega arith))
      (λ q. down_below n (sides ns n ws) j c i (omega arith) (rw (sides_length ws n) l) (omega arith) z e)
      (eq-or-lt_of_le k)
    where
      inside : Below j c → c < length ws
      inside (inl y) = let b = back j (omega arith) in omega arith
      inside (inr y) = let b = back j (omega arith) in omega arith

      here : j ≡ n → In (down ns n (sides ns n ws)) c i
      here q =
          let old = ap (λ (x : Word). x i) (down_past (suc n) ws j h (omega arith)) in
          down_keeps n (sides ns n ws) c i (rw (sides_length ws n) (inside z))
          (sides_new ws n c i (omega arith) l (rw q at z) (rw q at (sym old ∙ e)))

  -- a row reaches what its start reaches: a set of places that holds the sides' places of each of its own
  module _ (i : ℕ) (S : ℕ → Type 0) (closed : (j c : ℕ) → j < m → Below j c → S j → S c) where
    sides_from : (ws : List Word) (j c : ℕ) → j < m → c < length ws → ((c : ℕ) → c < length ws → In ws c i → S c) → In (sides ns j ws) c i → S c
    unfolding sides
    sides_from ws j c h k f e = ⊎_elim
        (λ x. ⊎_elim (λ y. f c k y) (λ y. closed j c h (inl y.0) (own y.1)) (give_from ws (low j) (get_or ws j none) c i k x))
        (λ x. closed j c h (inr x.0) (own x.1))
        (give_from (give ws (low j) (get_or ws j none)) (high j) (get_or ws j none) c i (rw (give_length ws (low j) (get_or ws j none)) k) e)
      where
        own : get_or ws j none i ≡ true → S j
        own y = ⊎_elim (λ z. f j z y) (λ z. absurd (false_true (ap (λ (x : Word). x i) (get_or-eq_default ws none z)) y)) (lt_or_ge j (length ws))

    pub down_from : (n : ℕ) (ws : List Word) → n ≤ m → ((c : ℕ) → c < length ws → In ws c i → S c) → (c : ℕ) → c < length ws → In (down ns n ws) c i → S c
    unfolding down
    down_from zero ws h f c k e = f c k e
    down_from (suc n) ws h f c k e =
        let z = sides_length ws n in
        down_from n (sides ns n ws) (omega arith) (λ c k e. sides_from ws n c (omega arith) (rw z at k) f e) c (rw z k) e

-- rows given to the nodes that they refer to
module _ (ws : List Word) (refs : List ℕ) (base : ℕ) where
  pub given_length : (n : ℕ) → length (given ws refs base n) ≡ length ws
  unfolding given
  given_length zero = refl
  given_length (suc n) = give_length (given ws refs base n) (get_or refs (base + n) 0) (only (base + n)) ∙ given_length n

  pub given_new : (n j t : ℕ) → j < length ws → t < n → get_or refs (base + t) 0 ≡ suc (suc j) → In (given ws refs base n) j (base + t)
  unfolding given
  given_new zero j t h l e = absurd (omega arith)
  given_new (suc n) j t h l e = ⊎_elim
      (λ z. here (omega arith))
      (λ z. give_keeps (given ws refs base n) _ (only (base + n)) j (base + t) (rw (given_length n) h) (given_new n j t h (omega arith) e))
      (eq-or-lt_of_le l)
    where
      here : t ≡ n → In (give (given ws refs base n) (get_or refs (base + n) 0) (only (base + n))) j (base + t)
      here z = rw (← z, e) (give_new (given ws refs base t) j (only (base + t)) (base + t) (rw (given_length t) h) (eq-eqb (base + t) (base + t) refl))

  -- a row is given only to the node that it refers to
  pub given_from : (n j i : ℕ) → j < length ws → In (given ws refs base n) j i
      → (In ws j i) ⊎ ((t : ℕ) × (t < n) × (i ≡ base + t) × (get_or refs (base + t) 0 ≡ suc (suc j)))
  unfolding given
  given_from zero j i h e = inl e
  given_from (suc n) j i h e = ⊎_elim
      (λ x. ⊎_elim (λ y. inl y) (λ y. inr (y.0, omega (arith, y.1), y.2, y.3)) (given_from n j i h x))
      (λ x. inr (n, omega arith, eqb-true i (base + n) x.1, x.0))
      (give_from (given ws refs base n) _ (only (base + n)) j i (rw (given_length n) h) e)

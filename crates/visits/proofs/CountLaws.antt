-- How many numbers below a bound pass a test, and its laws: numbers whose trees differ are no more than the trees of a table
-- that holds them. Assumes nothing.
use Prim.Native.Nat.{ℕ, zero, suc, ◌+◌, ◌≤◌, ◌<◌}
use mathlib.Core.Path.{◌≡◌, refl, sym, ap₂, ◌∙◌}
use mathlib.Core.Bool.{Bool, true, false, cond, ◌||◌}
use mathlib.Core.List.{List, [], ◌∷◌}
use mathlib.Core.Logic.{◌≢◌, ◌⊎◌, inl, inr, ⊎_elim}
use native.Mathlib.Decide.{ℕ_discrete}
use native.Mathlib.Nat.{eq-or-lt_of_le}
use native.Mathlib.Omega.{arith}
use lib.ListN.{length}
use Rattle.trees.specs.Bits.{bit}
use Rattle.trees.specs.Tree.{Tree, same}
use Rattle.trees.specs.Table.{mem}
use Rattle.trees.proofs.Tests.{false_true, or_cases, or_l, or_r}
use Rattle.trees.proofs.TreeLaws.{same_true, same_eq}

-- how many numbers below n pass the test
unfoldable pub count_below : ℕ → (ℕ → Bool) → ℕ
count_below zero q = 0
count_below (suc n) q = bit (q n) + count_below n q

-- tests that agree count alike
count_same : (n : ℕ) (p q : ℕ → Bool) → ((i : ℕ) → i < n → p i ≡ q i) → count_below n p ≡ count_below n q
unfolding count_below
count_same zero p q e = refl
count_same (suc n) p q e = ap₂ (λ (b : Bool) (k : ℕ). bit b + k) (e n (omega arith)) (count_same n p q (λ i h. e i (omega arith)))

-- no more than all
pub count_most : (n : ℕ) (q : ℕ → Bool) → count_below n q ≤ n
unfolding count_below
count_most zero q = omega arith
count_most (suc n) q = go (q n) (count_most n q)
  where
    go : (b : Bool) → count_below n q ≤ n → bit b + count_below n q ≤ suc n
    go true h = omega arith
    go false h = omega arith

-- one number more
pub count_more : (n j : ℕ) (p q : ℕ → Bool) → j < n → p j ≡ false → q j ≡ true → ((i : ℕ) → i ≢ j → q i ≡ p i) → count_below n q ≡ suc (count_below n p)
unfolding count_below
count_more zero j p q h a b e = absurd (omega arith)
count_more (suc n) j p q h a b e = elim (ℕ_discrete n j) [
  | yes z ↦ rw (z, a, b, count_same j q p (λ i k. e i (omega arith))) (omega arith)
  | no z ↦ rw (e n z, count_more n j p q (omega arith) a b e) (omega arith)
]

-- a table without a tree
abbrev without : Tree → List Tree → List Tree
without d [] = []
without d (t ∷ ts) = cond (same d t) (without d ts) (t ∷ without d ts)

without_le : (d : Tree) (ts : List Tree) → length (without d ts) ≤ length ts
without_le d [] = omega arith
without_le d (t ∷ ts) = go (same d t) (without_le d ts)
  where
    go : (q : Bool) → length (without d ts) ≤ length ts → length (cond q (without d ts) (t ∷ without d ts)) ≤ suc (length ts)
    go true h = omega arith
    go false h = omega arith

without_lt : (d : Tree) (ts : List Tree) → mem d ts ≡ true → length (without d ts) < length ts
unfolding mem
without_lt d [] e = absurd (false_true refl e)
without_lt d (t ∷ ts) e = go (same d t) (without_le d ts) (without_lt d ts) e
  where
    go : (q : Bool) → length (without d ts) ≤ length ts → (mem d ts ≡ true → length (without d ts) < length ts) → (q || mem d ts) ≡ true
        → length (cond q (without d ts) (t ∷ without d ts)) < suc (length ts)
    go true h f e = omega arith
    go false h f e = omega (arith, f e)

without_mem : (d e : Tree) (ts : List Tree) → (e ≡ d → ⊥) → mem e ts ≡ true → mem e (without d ts) ≡ true
unfolding mem
without_mem d e [] n h = h
without_mem d e (t ∷ ts) n h = go (same d t) refl (or_cases (same e t) (mem e ts) h) (without_mem d e ts n)
  where
    go : (q : Bool) → same d t ≡ q → (same e t ≡ true) ⊎ (mem e ts ≡ true) → (mem e ts ≡ true → mem e (without d ts) ≡ true) → mem e (cond q (without d ts) (t ∷ without d ts)) ≡ true
    go true z (inl k) f = absurd (n (same_true e t k ∙ sym (same_true d t z)))
    go true z (inr k) f = f k
    go false z (inl k) f = unfold mem in or_l (same e t) (mem e (without d ts)) k
    go false z (inr k) f = unfold mem in or_r (same e t) (mem e (without d ts)) (f k)

-- trees that differ, and are in a table, are no more than its length
pub count_le : (f : ℕ → Tree) (n : ℕ) (q : ℕ → Bool) (ts : List Tree) → ((i j : ℕ) → i < n → j < n → f i ≡ f j → i ≡ j)
    → ((i : ℕ) → i < n → q i ≡ true → mem (f i) ts ≡ true) → count_below n q ≤ length ts
unfolding count_below
count_le f zero q ts one h = omega arith
count_le f (suc n) q ts one h = go (q n) refl (count_le f n q)
  where
    go : (b : Bool) → q n ≡ b
        → ((us : List Tree) → ((i j : ℕ) → i < n → j < n → f i ≡ f j → i ≡ j) → ((i : ℕ) → i < n → q i ≡ true → mem (f i) us ≡ true) → count_below n q ≤ length us)
        → bit b + count_below n q ≤ length ts
    go false e g = let x = g ts (λ i j a b k. one i j (omega arith) (omega arith) k) (λ i a k. h i (omega arith) k) in omega arith
    go true e g =
        let x = g (without (f n) ts) (λ i j a b k. one i j (omega arith) (omega arith) k)
        (λ i a k. without_mem (f n) (f i) ts (λ z. let w = one i n (omega arith) (omega arith) z in omega arith) (h i (omega arith) k)) in
        let y = without_lt (f n) ts (h n (omega arith) e) in
        omega arith

-- the trees of the numbers that pass
abbrev pub chosen : (ℕ → Tree) → ℕ → (ℕ → Bool) → List Tree
chosen f zero q = []
chosen f (suc n) q = cond (q n) (f n ∷ chosen f n q) (chosen f n q)

pub chosen_length : (f : ℕ → Tree) (n : ℕ) (q : ℕ → Bool) → length (chosen f n q) ≡ count_below n q
unfolding count_below
chosen_length f zero q = refl
chosen_length f (suc n) q = go (q n) (chosen_length f n q)
  where
    go : (b : Bool) → length (chosen f n q) ≡ count_below n q → length (cond b (f n ∷ chosen f n q) (chosen f n q)) ≡ bit b + count_below n q
    go true e = omega arith
    go false e = omega arith

pub chosen_mem : (f : ℕ → Tree) (n : ℕ) (q : ℕ → Bool) (i : ℕ) → i < n → q i ≡ true → mem (f i) (chosen f n q) ≡ true
chosen_mem f zero q i h e = absurd (omega arith)
chosen_mem f (suc n) q i h e = ⊎_elim (λ z. here (omega arith)) (λ z. there (q n) (chosen_mem f n q i (omega arith) e)) (eq-or-lt_of_le h)
  where
    here : i ≡ n → mem (f i) (cond (q n) (f n ∷ chosen f n q) (chosen f n q)) ≡ true
    here z = rw (← z, e) (unfold mem in or_l (same (f i) (f i)) _ (same_eq (f i) (f i) refl))

    there : (b : Bool) → mem (f i) (chosen f n q) ≡ true → mem (f i) (cond b (f n ∷ chosen f n q) (chosen f n q)) ≡ true
    there true k = unfold mem in or_r (same (f i) (f n)) _ k
    there false k = k

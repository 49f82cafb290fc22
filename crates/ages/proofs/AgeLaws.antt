-- Laws of ages as functions: what a function of ages shows is the ages, at most one for a binding. Assumes nothing.
use Prim.Native.Nat.{ℕ, zero, suc, ◌+◌, ◌*◌, ◌^◌, ◌≤◌, ◌<◌}
use mathlib.Core.Path.{◌≡◌, refl, ap, ap₂, sym, ◌∙◌, fun_ext}
use mathlib.Core.Bool.{Bool, true, false, cond}
use mathlib.Core.Logic.{◌↔◌, inl, ⊎_elim}
use native.Mathlib.Nat.{eq-or-lt_of_le}
use native.Mathlib.Omega.{arith}
use borrow.Author.Tests.{eqb-true}
use Rattle.trees.specs.Bits.{Bits, Function, Asks, put, number}
use Rattle.ages.specs.Ages.{Limit, Age, none, aged, or_else, ripe, is_age, first_age, with_age, age_at, ages_say, ages_now, OneAge}
use Rattle.trees.proofs.Tests.{lt_or_ge, false_true, eqb_same, iff_eq}
use Rattle.trees.proofs.BitsLaws.{put_other, number_lt, number_agree, write, write_outside, write_number}
use Rattle.trees.proofs.IgnoreLaws.{Ignores}
use Rattle.ages.proofs.WriteLaws.{write_over, write_own, write_put, write_swap}
use Rattle.ages.proofs.ServeLaws.{AtMost}

-- the first number of which a test holds, or none
pub data FirstCase (n : ℕ) (f : ℕ → Bool) : Age → Type 0 where
  missing : ((m : ℕ) → m < n → f m ≡ false) → FirstCase n f none
  found : (m : ℕ) → m < n → f m ≡ true → FirstCase n f (aged m)

pub first_case : (n : ℕ) (f : ℕ → Bool) → FirstCase n f (first_age n f)
unfolding first_age or_else
first_case zero f = missing (λ m h. absurd (omega arith))
first_case (suc n) f = go (first_age n f) (first_case n f) (f n) refl
  where
    go : (x : Age) → FirstCase n f x → (b : Bool) → f n ≡ b → FirstCase (suc n) f (or_else x (cond b (aged n) none))
    go x (found m h e) b q = found m (omega arith) e
    go x (missing h) true q = found n (omega arith) q
    go x (missing h) false q = missing (λ m p. ⊎_elim (λ e. let z : m ≡ n = omega arith in rw z q) (λ p'. h m (omega arith)) (eq-or-lt_of_le p))

is_age_law : (n : ℕ) (x : Age) → is_age n x ≡ true → x ≡ aged n
unfolding is_age
is_age_law n none e = absurd (false_true refl e)
is_age_law n (aged m) e = ap aged (sym (eqb-true n m e))

-- the bits with an age written: the binding's stay, and the others show the age
pub with_below : (k : ℕ) (s : Bits) (n l : ℕ) → l < 4 * k → with_age k s n l ≡ s l
unfolding with_age
with_below k s n l h = write_outside s (4 * k) 11 n l (inl h)

pub with_put : (k : ℕ) (s : Bits) (n l : ℕ) (x : Bool) → l < 4 * k → with_age k (put s l x) n ≡ put (with_age k s n) l x
unfolding with_age
with_put k s n l x h = fun_ext (write_put s (4 * k) 11 n l x (inl h))

pub with_number : (k : ℕ) (s : Bits) (n : ℕ) → n < 2 ^ 11 → number (with_age k s n) (4 * k) 11 ≡ n
unfolding with_age
with_number k s n h = write_number s (4 * k) 11 n h

-- what is written does not hang on what stood there
pub with_agree : (k : ℕ) (s t : Bits) (n l : ℕ) → l < 4 * k + 11 → (l < 4 * k → s l ≡ t l) → with_age k s n l ≡ with_age k t n l
unfolding with_age
with_agree k s t n l h e = write_over s t (4 * k) 11 n l (⊎_elim e (λ r. absurd (omega arith)))

-- ages that hang on the bindings' bits only
abbrev pub Reads : ℕ → (Bits → Age) → Type 0
Reads k age = (s t : Bits) → ((l : ℕ) → l < 4 * k → s l ≡ t l) → age s ≡ age t

pub reads_at : (k : ℕ) (g : Function) → Asks 0 (4 * k + 11) g → Reads k (age_at k g)
unfolding age_at
reads_at k g a s t e = ap (first_age (2 ^ 11)) (fun_ext (λ n. a.only (with_age k s n) (with_age k t n) (λ l p q. with_agree k s t n l q (e l))))

pub reads_now : (k : ℕ) (c : Limit) (t : ℕ) (L R were : Function) → Asks 0 (4 * k) L → Asks 0 (4 * k) R → Asks 0 (4 * k + 11) were → Reads k (ages_now k c t L R were)
unfolding ages_now
reads_now k c t L R were al ar aw s u e = rw (al.only s u (λ l p q. e l q), ar.only s u (λ l p q. e l q), reads_at k were aw s u e)

-- what a function of ages asks
pub asks_ages : (k : ℕ) (age : Bits → Age) → Reads k age → Asks 0 (4 * k + 11) (ages_say k age)
unfolding ages_say
asks_ages k age r = record { only = λ s t e. ap₂ is_age (number_agree s t (4 * k) 11 (λ l p q. e l (omega arith) q)) (r s t (λ l p. e l (omega arith) (omega arith))) }

pub asks_ripe : (k : ℕ) (c : Limit) (age : Bits → Age) → Reads k age → Asks 0 (4 * k) (λ s. ripe c (age s))
asks_ripe k c age r = record { only = λ s t e. ap (ripe c) (r s t (λ l p. e l (omega arith) p)) }

module _ (k top : ℕ) (fits : top < 2 ^ 11) (age : Bits → Age) (reads : Reads k age) (most : (s : Bits) → AtMost top (age s)) where
  -- the function with an age written
  said : (s : Bits) (n : ℕ) → n < 2 ^ 11 → ages_say k age (with_age k s n) ≡ is_age n (age s)
  unfolding ages_say
  said s n h = rw (with_number k s n h, reads (with_age k s n) s (λ l p. with_below k s n l p))

  -- "at most one age", and none that the row can't have
  pub ages_one : OneAge k top (ages_say k age)
  ages_one = record {
    one = λ s m n p q e f. aged_one m n (sym (is_age_law m (age s) (sym (said s m p) ∙ e)) ∙ is_age_law n (age s) (sym (said s n q) ∙ f));
    most = λ s n q f. rw (is_age_law n (age s) (sym (said s n q) ∙ f)) at (most s);
  }
    where
      aged_one : (m n : ℕ) → aged m ≡ aged n → m ≡ n
      aged_one m n e = cc

  -- the ages that the function shows are the ages
  pub age_shown : (s : Bits) → age_at k (ages_say k age) s ≡ age s
  unfolding age_at is_age
  age_shown s = go (first_age (2 ^ 11) f) (first_case (2 ^ 11) f) (age s) refl
    where
      f : ℕ → Bool
      f n = ages_say k age (with_age k s n)

      go : (x : Age) → FirstCase (2 ^ 11) f x → (y : Age) → age s ≡ y → x ≡ y
      go x (found m h e) y q = sym (sym q ∙ is_age_law m (age s) (sym (said s m h) ∙ e))
      go x (missing h) none q = refl
      go x (missing h) (aged n) q =
          let b : n ≤ top = rw q at (most s) in
          absurd (false_true (sym (said s n (omega arith)) ∙ h n (omega arith)) (rw q (eqb_same n)))

-- a function with at most one age says yes exactly where the 11 bits show it
pub age_yes : (k top : ℕ) (g : Function) → OneAge k top g → (s : Bits) (n : ℕ) → n < 2 ^ 11 → (g (with_age k s n) ≡ true) ↔ (age_at k g s ≡ aged n)
unfolding age_at
age_yes k top g o s n h = go (first_age (2 ^ 11) (λ m. g (with_age k s m))) (first_case (2 ^ 11) (λ m. g (with_age k s m)))
  where
    go : (x : Age) → FirstCase (2 ^ 11) (λ m. g (with_age k s m)) x → (g (with_age k s n) ≡ true) ↔ (x ≡ aged n)
    go x (missing q) = (λ e. absurd (false_true (q n h) e), λ e. absurd (let z : ◌≡◌ {A = ℕ} 0 1 = cc in omega arith))
    go x (found m q e) = (λ f. ap aged (o.one s m n q h e f), λ f. let z : m ≡ n = cc in rw (← z) e)

-- nothing shown, no age
pub dark_age : (k : ℕ) (s : Bits) → age_at k (λ _. false) s ≡ none
unfolding age_at
dark_age k s = go (first_age (2 ^ 11) (λ _. false)) (first_case (2 ^ 11) (λ _. false))
  where
    go : (x : Age) → FirstCase (2 ^ 11) (λ _. false) x → x ≡ none
    go x (missing h) = refl
    go x (found m h e) = absurd (false_true refl e)

-- a level that an age function ignores is ignored by the ages, and so is every level past the bindings'
pub at_ignores : (k l : ℕ) (g : Function) → Asks 0 (4 * k + 11) g → (l < 4 * k → Ignores l g) → (s : Bits) (x : Bool) → age_at k g (put s l x) ≡ age_at k g s
unfolding age_at
at_ignores k l g a i s x = ⊎_elim
    (λ h. ap (first_age (2 ^ 11)) (fun_ext (λ n. ap g (with_put k s n l x h) ∙ i h (with_age k s n) x)))
    (λ h. reads_at k g a (put s l x) s (λ m p. put_other s l x m (λ e. omega arith)))
    (lt_or_ge l (4 * k))

-- a number written among the bindings' bits may be written before the age or after it
with_write : (k : ℕ) (s : Bits) (base n m a : ℕ) → base + n ≤ 4 * k → with_age k (write s base n m) a ≡ write (with_age k s a) base n m
unfolding with_age
with_write k s base n m a h = fun_ext (write_swap s base n m (4 * k) 11 a h)

-- where a function does not tell two numbers apart, however the other bits are set, the ages that it gives do not either
pub at_alike : (k base n m j : ℕ) (g : Function) → base + n ≤ 4 * k → ((s : Bits) → g (write s base n m) ≡ g (write s base n j))
    → (s : Bits) → age_at k g (write s base n m) ≡ age_at k g (write s base n j)
unfolding age_at
at_alike k base n m j g h e s = ap (first_age (2 ^ 11)) (fun_ext (λ a. rw (with_write k s base n m a h, with_write k s base n j a h) (e (with_age k s a))))

-- a function with one age for a binding is its ages: bits of the same age, with the same age written, are alike to it
pub age_same : (k top : ℕ) (g : Function) → OneAge k top g → (s t : Bits) → age_at k g s ≡ age_at k g t → number s (4 * k) 11 ≡ number t (4 * k) 11 → g s ≡ g t
age_same k top g o s t e n =
    let own : (u : Bits) → with_age k u (number u (4 * k) 11) ≡ u = λ u. unfold with_age in fun_ext (write_own u (4 * k) 11) in
    let N : ℕ = number s (4 * k) 11 in
    let b : N < 2 ^ 11 = number_lt s (4 * k) 11 in
    let p : (g (with_age k s N) ≡ true) ↔ (age_at k g s ≡ aged N) = age_yes k top g o s N b in
    let q : (g (with_age k t N) ≡ true) ↔ (age_at k g t ≡ aged N) = age_yes k top g o t N b in
    let m : g (with_age k s N) ≡ g (with_age k t N) = iff_eq (g (with_age k s N)) (g (with_age k t N)) (λ z. q.1 (sym e ∙ p.0 z)) (λ z. p.1 (e ∙ q.0 z)) in
    ap g (sym (own s)) ∙ m ∙ ap g (ap (with_age k t) n ∙ own t)

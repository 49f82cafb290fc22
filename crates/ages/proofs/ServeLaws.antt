-- The recursion by ages is the meaning of a time limit: the age is the shortest, or the longest, that serves. Assumes nothing.
use Prim.Native.Nat.{ℕ, suc, ◌+◌, ◌-◌, ◌≤◌, ◌<◌, min}
use mathlib.Core.Path.{◌≡◌, refl, ap, ◌∙◌}
use mathlib.Core.Bool.{Bool, true, false, cond}
use mathlib.Core.Logic.{◌↔◌, ◌⊎◌, inl, inr, ⊎_elim}
use native.Mathlib.Nat.{eq-or-lt_of_le}
use native.Mathlib.Omega.{arith}
use lib.Dec.{leb}
use borrow.Author.Tests.{eqb-true, eq-eqb, leb-true, leb-false, lt-leb}
use Rattle.trees.proofs.Tests.{lt_or_ge, false_true}
use Rattle.ages.specs.Ages.{Limit, within, longer, Meets, Age, none, aged, Serves, AgeIs, or_else, older, next_age, ripe, top_age}

-- what serves at the next position: that position itself, or one that served, where L holds on
module _ (L R : ℕ → Type 0) (i : ℕ) where
  serve_new : R (suc i) → Serves L R (suc i) (suc i)
  serve_new r = record { bound = omega arith; held = r; later = λ n p q. absurd (omega arith) }

  serve_on : (j : ℕ) → L (suc i) → Serves L R i j → Serves L R (suc i) j
  serve_on j l s = record {
    bound = (let b = s.bound in omega arith);
    held = s.held;
    later = λ n p q. ⊎_elim (λ e. rw e l) (λ h. s.later n p (omega arith)) (eq-or-lt_of_le q);
  }

  serve_case : (j : ℕ) → Serves L R (suc i) j → ((j ≡ suc i) × R (suc i)) ⊎ (L (suc i) × Serves L R i j)
  serve_case j s = ⊎_elim
      (λ e. inl (e, rw e at s.held))
      (λ h. inr (s.later (suc i) h (omega arith), record { bound = omega arith; held = s.held; later = λ n p q. s.later n p (omega arith) }))
      (eq-or-lt_of_le s.bound)

-- one step of t, where l and r say whether L and R hold at the new position
module _ (time : ℕ → ℕ) (L R : ℕ → Type 0) (i t : ℕ) (later : time (suc i) ≡ time i + t) (rising : (j : ℕ) → j ≤ i → time j ≤ time i) where
  span_new : time (suc i) - time (suc i) ≡ 0
  span_new = omega arith

  span_on : (j : ℕ) → Serves L R i j → time (suc i) - time j ≡ time i - time j + t
  span_on j s = let b = rising j s.bound in rw later (omega arith)

  -- nothing serves at the new position that R and L do not let serve
  serve_old : (l r : Bool) → (L (suc i) → l ≡ true) → (R (suc i) → r ≡ true) → r ≡ false → (j : ℕ) → Serves L R (suc i) j → (l ≡ true) × Serves L R i j
  serve_old l r lm rm e j s = ⊎_elim (λ p. absurd (false_true e (rm p.1))) (λ p. (lm p.0, p.1)) (serve_case L R i j s)

  next_within : (d : ℕ) (l r : Bool) → ((l ≡ true) ↔ L (suc i)) → ((r ≡ true) ↔ R (suc i)) → (x : Age) → AgeIs time (within d) L R i x
      → AgeIs time (within d) L R (suc i) (next_age (within d) t l r x)
  unfolding next_age or_else older
  next_within d l true lm rm x h = (omega arith, (suc i, serve_new L R i (rm.0 refl), span_new), λ j s. omega arith)
  next_within d false false lm rm x h = λ j s. absurd (false_true refl (serve_old false false lm.1 rm.1 refl j s).0)
  next_within d true false lm rm none h = λ j s.
      let p = serve_old true false lm.1 rm.1 refl j s in
      let g = h j p.1 in
      let u = span_on j p.1 in
      omega arith
  next_within d true false lm rm (aged n) h = go (leb (n + t) d) refl
    where
      old : (j : ℕ) → Serves L R (suc i) j → Serves L R i j
      old j s = (serve_old true false lm.1 rm.1 refl j s).1

      least : (j : ℕ) → Serves L R (suc i) j → n + t ≤ time (suc i) - time j
      least j s = let g = h.2 j (old j s) in let u = span_on j (old j s) in omega arith

      go : (b : Bool) → leb (n + t) d ≡ b → AgeIs time (within d) L R (suc i) (cond b (aged (n + t)) none)
      go true e = (leb-true (n + t) d e, (h.1.0, serve_on L R i h.1.0 (lm.0 refl) h.1.1, span_on h.1.0 h.1.1 ∙ ap (λ (m : ℕ). m + t) h.1.2), least)
      go false e = λ j s. let g = least j s in let u = leb-false (n + t) d e in omega arith

  -- only the new position serves
  only_now : (d : ℕ) → R (suc i) → (L (suc i) → (j : ℕ) → Serves L R i j → ⊥) → AgeIs time (longer d) L R (suc i) (aged 0)
  only_now d r z = (
    (suc i, serve_new L R i r, now (suc i) refl),
    λ j s. ⊎_elim
        (λ p. let u = now j p.0 in omega arith)
        (λ p. absurd (z p.0 j p.1))
        (serve_case L R i j s),
  )
    where
      now : (j : ℕ) → j ≡ suc i → min (time (suc i) - time j) (suc d) ≡ 0
      now j e = rw e (let u = span_new in omega arith)

  next_longer : (d : ℕ) (l r : Bool) → ((l ≡ true) ↔ L (suc i)) → ((r ≡ true) ↔ R (suc i)) → (x : Age) → AgeIs time (longer d) L R i x
      → AgeIs time (longer d) L R (suc i) (next_age (longer d) t l r x)
  unfolding next_age or_else older
  next_longer d false false lm rm x h = λ j s. absurd (false_true refl (serve_old false false lm.1 rm.1 refl j s).0)
  next_longer d false true lm rm x h = only_now d (rm.0 refl) (λ p. absurd (false_true refl (lm.1 p)))
  next_longer d true false lm rm none h = λ j s. h j (serve_old true false lm.1 rm.1 refl j s).1
  next_longer d true true lm rm none h = only_now d (rm.0 refl) (λ p. h)
  next_longer d true r lm rm (aged n) h = ((h.0.0, serve_on L R i h.0.0 (lm.0 refl) h.0.1, first), most)
    where
      first : min (time (suc i) - time h.0.0) (suc d) ≡ min (n + t) (suc d)
      first = let u = span_on h.0.0 h.0.1 in let v = h.0.2 in omega arith

      most : (j : ℕ) → Serves L R (suc i) j → min (time (suc i) - time j) (suc d) ≤ min (n + t) (suc d)
      most j s = ⊎_elim
          (λ p. let e = p.0 in rw e (let u = span_new in omega arith))
          (λ p. let u = span_on j p.1 in let v = h.1 j p.1 in omega arith)
          (serve_case L R i j s)

  -- the next age is what document 02 says of it
  pub next_is : (c : Limit) (l r : Bool) → ((l ≡ true) ↔ L (suc i)) → ((r ≡ true) ↔ R (suc i)) → (x : Age) → AgeIs time c L R i x
      → AgeIs time c L R (suc i) (next_age c t l r x)
  next_is (within d) l r lm rm x h = next_within d l r lm rm x h
  next_is (longer d) l r lm rm x h = next_longer d l r lm rm x h

-- the row holds exactly of the ages that it is ripe with
pub ripe_is : (time : ℕ → ℕ) (c : Limit) (L R : ℕ → Type 0) (i : ℕ) (x : Age) → AgeIs time c L R i x → (ripe c x ≡ true) ↔ ((j : ℕ) × Serves L R i j × Meets c (time i - time j))
unfolding ripe
ripe_is time (within d) L R i none h = (λ e. absurd (false_true refl e), λ z. absurd (let u = h z.0 z.1 in let v = z.2 in omega arith))
ripe_is time (within d) L R i (aged n) h = (λ e. (h.1.0, h.1.1, (let u = h.1.2 in let v = h.0 in omega arith)), λ z. refl)
ripe_is time (longer d) L R i none h = (λ e. absurd (false_true refl e), λ z. absurd (h z.0 z.1))
ripe_is time (longer d) L R i (aged n) h = (
  λ e. (h.0.0, h.0.1, (let u = h.0.2 in let v = eqb-true n (suc d) e in omega arith)),
  λ z. eq-eqb n (suc d) (let u = h.0.2 in let v = h.1 z.0 z.1 in let w = z.2 in omega arith),
)

-- before the first position nothing serves
pub none_is : (time : ℕ → ℕ) (c : Limit) (L R : ℕ → Type 0) → ((j : ℕ) → Serves L R 0 j → ⊥) → AgeIs time c L R 0 none
none_is time (within d) L R h = λ j s. absurd (h j s)
none_is time (longer d) L R h = h

-- there is one such age
pub age_unique : (time : ℕ → ℕ) (c : Limit) (L R : ℕ → Type 0) (i : ℕ) (x y : Age) → AgeIs time c L R i x → AgeIs time c L R i y → x ≡ y
age_unique time (within d) L R i none none p q = refl
age_unique time (within d) L R i none (aged n) p q = absurd (let u = p q.1.0 q.1.1 in let v = q.1.2 in let w = q.0 in omega arith)
age_unique time (within d) L R i (aged m) none p q = absurd (let u = q p.1.0 p.1.1 in let v = p.1.2 in let w = p.0 in omega arith)
age_unique time (within d) L R i (aged m) (aged n) p q =
    ap aged (let u = p.2 q.1.0 q.1.1 in let v = q.2 p.1.0 p.1.1 in let w = p.1.2 in let z = q.1.2 in omega arith)
age_unique time (longer d) L R i none none p q = refl
age_unique time (longer d) L R i none (aged n) p q = absurd (p q.0.0 q.0.1)
age_unique time (longer d) L R i (aged m) none p q = absurd (q p.0.0 p.0.1)
age_unique time (longer d) L R i (aged m) (aged n) p q =
    ap aged (let u = p.1 q.0.0 q.0.1 in let v = q.1 p.0.0 p.0.1 in let w = p.0.2 in let z = q.0.2 in omega arith)

-- an age is at most top
abbrev pub AtMost : ℕ → Age → Type 0
AtMost top none = Unit {0}
AtMost top (aged n) = n ≤ top

older_most : (c : Limit) (t : ℕ) (x : Age) → AtMost (top_age c) (older c t x)
unfolding older top_age
older_most (within d) t none = tt
older_most (within d) t (aged n) = go (leb (n + t) d) refl
  where
    go : (b : Bool) → leb (n + t) d ≡ b → AtMost d (cond b (aged (n + t)) none)
    go true e = leb-true (n + t) d e
    go false e = tt
older_most (longer d) t none = tt
older_most (longer d) t (aged n) = omega arith

else_most : (top : ℕ) (x y : Age) → AtMost top x → AtMost top y → AtMost top (or_else x y)
unfolding or_else
else_most top none y a b = b
else_most top (aged n) y a b = a

cond_most : (top : ℕ) (b : Bool) (x : Age) → AtMost top x → AtMost top (cond b x none)
cond_most top true x a = a
cond_most top false x a = tt

-- no next age is one that the row can't have, whatever the old ones were
pub next_most : (c : Limit) (t : ℕ) (l r : Bool) (x : Age) → AtMost (top_age c) (next_age c t l r x)
unfolding next_age top_age
next_most (within d) t l r x = else_most d _ _ (cond_most d r (aged 0) (omega arith)) (cond_most d l _ (older_most (within d) t x))
next_most (longer d) t l r x = else_most (suc d) _ _ (cond_most (suc d) l _ (older_most (longer d) t x)) (cond_most (suc d) r (aged 0) (omega arith))

-- a step over the greatest age is like that age, so that no sum grows past 11 bits
pub older_cap : (c : Limit) (t m : ℕ) (x : Age) → top_age c < m → older c t x ≡ older c (min t m) x
unfolding older top_age
older_cap (within d) t m none h = refl
older_cap (within d) t m (aged n) h = ⊎_elim
    (λ p. let e : min t m ≡ t = omega arith in rw e)
    (λ p. rw (lt-leb (n + t) d (omega arith), lt-leb (n + min t m) d (omega arith)))
    (lt_or_ge t m)
older_cap (longer d) t m none h = refl
older_cap (longer d) t m (aged n) h = ap aged (omega arith)

pub next_cap : (c : Limit) (t m : ℕ) (l r : Bool) (x : Age) → top_age c < m → next_age c t l r x ≡ next_age c (min t m) l r x
unfolding next_age
next_cap (within d) t m l r x h = rw (older_cap (within d) t m x h)
next_cap (longer d) t m l r x h = rw (older_cap (longer d) t m x h)

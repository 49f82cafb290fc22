-- Ages: the step of an age, functions of bits and diagrams that show ages. Assumes nothing: these are definitions.
use Rattle.std.specs.Prelude.{ℕ, zero, suc, ◌+◌, ◌-◌, ◌*◌, ◌^◌, ◌≤◌, ◌<◌, min, ◌≡◌, Bool, true, false, cond, not, ◌&&◌, eqb, ltb, leb}
use Rattle.trees.specs.Bits.{Bits, Function, number}
use Rattle.trees.specs.Tree.{Tree, off, on, node, eval, same, tree_from, tree_of}
use Rattle.trees.specs.Kept.{all_below}
use Rattle.trees.proofs.BitsLaws.{write}

-- the time limit of a since: "within d", "longer than d"
pub data Limit : Type 0 where
  within longer : ℕ → Limit

-- a time of n is "at most d", is "more than d"
abbrev pub Meets : Limit → ℕ → Type 0
Meets (within d) n = n ≤ d
Meets (longer d) n = d < n

-- "A binding has at most one age"
pub data Age : Type 0 where
  none : Age
  aged : ℕ → Age

-- Of positions with times, at some of which L holds, and R: "R held at some j up to now, L at every later position to now".
pub record Serves (L R : ℕ → Type 0) (i j : ℕ) : Type 0 where
  pub bound : j ≤ i
  pub held : R j
  pub later : (n : ℕ) → j < n → n ≤ i → L n

-- What the age x is at the position i: "for kind 8 the shortest that serves, none if over d; for kind 9 the longest, with d + 1 for any longer".
abbrev pub AgeIs : (ℕ → ℕ) → Limit → (ℕ → Type 0) → (ℕ → Type 0) → ℕ → Age → Type 0
AgeIs time (within d) L R i none = (j : ℕ) → Serves L R i j → d < time i - time j
AgeIs time (within d) L R i (aged n) = (n ≤ d) × ((j : ℕ) × Serves L R i j × (time i - time j ≡ n)) × ((j : ℕ) → Serves L R i j → n ≤ time i - time j)
AgeIs time (longer d) L R i none = (j : ℕ) → Serves L R i j → ⊥
AgeIs time (longer d) L R i (aged n) = ((j : ℕ) × Serves L R i j × (min (time i - time j) (suc d) ≡ n)) × ((j : ℕ) → Serves L R i j → min (time i - time j) (suc d) ≤ n)

-- the first age, and, where there is none, the second
unfoldable pub or_else : Age → Age → Age
or_else none y = y
or_else (aged n) y = aged n

-- an old age after a step of t: kind 8 has "none if over d", kind 9 "d + 1 for any longer"
unfoldable pub older : Limit → ℕ → Age → Age
older (within d) t none = none
older (within d) t (aged n) = cond (leb (n + t) d) (aged (n + t)) none
older (longer d) t none = none
older (longer d) t (aged n) = aged (min (n + t) (suc d))

-- The age after a step of t, where l and r say whether L and R hold now: "for kind 8 the shortest that serves .. for kind 9 the longest".
-- That it is so is a theorem.
unfoldable pub next_age : Limit → ℕ → Bool → Bool → Age → Age
next_age (within d) t l r old = or_else (cond r (aged 0) none) (cond l (older (within d) t old) none)
next_age (longer d) t l r old = or_else (cond l (older (longer d) t old) none) (cond r (aged 0) none)

-- whether the row holds of a binding of this age: kind 8 has one; kind 9 has d + 1
unfoldable pub ripe : Limit → Age → Bool
ripe (within d) none = false
ripe (within d) (aged n) = true
ripe (longer d) none = false
ripe (longer d) (aged n) = eqb n (suc d)

-- the greatest age that the row can have
unfoldable pub top_age : Limit → ℕ
top_age (within d) = d
top_age (longer d) = suc d

-- the age is n
unfoldable pub is_age : ℕ → Age → Bool
is_age n none = false
is_age n (aged m) = eqb n m

-- the first number below n of which the test holds, as an age
unfoldable pub first_age : ℕ → (ℕ → Bool) → Age
first_age zero f = none
first_age (suc n) f = or_else (first_age n f) (cond (f n) (aged n) none)

-- "11 further bits, below all others and least first": the levels from 4 × k on, of the bits with the age n written there
unfoldable pub with_age : ℕ → Bits → ℕ → Bits
with_age k s n = write s (4 * k) 11 n

-- the age that a function of 4 × k + 11 bits gives the binding of some bits
unfoldable pub age_at : ℕ → Function → Bits → Age
age_at k g s = first_age (2 ^ 11) (λ n. g (with_age k s n))

-- "An age diagram says yes exactly where 11 further bits .. equal the binding's age."
unfoldable pub ages_say : ℕ → (Bits → Age) → Function
ages_say k age s = is_age (number s (4 * k) 11) (age s)

-- the age of each binding after a step of t, where L and R are now and the ages were were
unfoldable pub ages_now : ℕ → Limit → ℕ → Function → Function → Function → Bits → Age
ages_now k c t L R were s = next_age c t (L s) (R s) (age_at k were s)

-- over 4 × k + 11 levels: the age diagram after a step of t, of left, right and old together; over 4 × k: where the ages are ripe
unfoldable pub age_t : ℕ → Limit → ℕ → Tree → Tree → Tree → Tree
age_t k c t l r o = tree_of (4 * k + 11) (ages_say k (ages_now k c t (eval l) (eval r) (eval o)))

unfoldable pub ripe_t : ℕ → Limit → Tree → Tree
ripe_t k c o = tree_of (4 * k) (λ s. ripe c (age_at k (eval o) s))

-- The clauses of refusal 4 on the age diagram of a row that can have ages up to top: "an age diagram with two ages for a binding,
-- or an age its row can't have".
pub record OneAge (k top : ℕ) (g : Function) : Type 0 where
  pub one : (s : Bits) (m n : ℕ) → m < 2 ^ 11 → n < 2 ^ 11 → g (with_age k s m) ≡ true → g (with_age k s n) ≡ true → m ≡ n
  pub most : (s : Bits) (n : ℕ) → n < 2 ^ 11 → g (with_age k s n) ≡ true → n ≤ top

-- the same, as a test that walks the diagram: under the bindings' levels, those below base, stands no or the diagram of one age
unfoldable pub age_diagram : ℕ → ℕ → Tree
age_diagram base n = tree_from base 11 (λ s. eqb (number s base 11) n)

unfoldable pub shown_age : ℕ → ℕ → Tree → Bool
shown_age base top u = not (all_below (suc top) (λ n. not (same u (age_diagram base n))))

unfoldable pub ages_right : ℕ → ℕ → Tree → Bool
ages_right base top off = true
ages_right base top on = false
ages_right base top (node l a b) = cond (ltb l base) (ages_right base top a && ages_right base top b) (shown_age base top (node l a b))

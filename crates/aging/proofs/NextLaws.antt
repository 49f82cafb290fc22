-- The age after a step. Assumes nothing.
use Prim.Native.Nat.{ℕ, suc, ◌+◌, ◌≤◌, ◌<◌, min}
use mathlib.Core.Path.{◌≡◌, refl, sym, ◌∙◌}
use mathlib.Core.Bool.{Bool, true, false, cond}
use mathlib.Core.Logic.{⊎_elim}
use native.Mathlib.Omega.{arith}
use lib.Dec.{leb}
use borrow.Author.Tests.{lt-leb, le-leb}
use Rattle.std.specs.Prelude.{Option, Some, None, IfSome}
use Rattle.std.specs.Bool.{then_some}
use Rattle.std.specs.Option.{option_or}
use Rattle.trees.proofs.Tests.{lt_or_ge}
use Rattle.ages.specs.Ages.{within, longer, Age, none, aged, or_else, older, next_age, top_age}
use Rattle.ages.proofs.ServeLaws.{older_cap}
use Rattle.aging.specs.declared.Bound.{Bound}
use Rattle.aging.specs.declared.Bound.TheVariants.{Within, Longer}
use Rattle.aging.specs.Dates.{limit_of, Short, age_of}

-- none stays none
pub older_none : (b : Bound) (t : ℕ) → age_of None ≡ older (limit_of b) t (age_of None)
unfolding older age_of
older_none (Within d) t = refl
older_none (Longer d) t = refl

-- an old age, with a step that is as long as any that matters
module _ (d t n y : ℕ) (e : y ≡ n + min t 2048) where
  -- within d
  older_over : Short (Within d) → d < y → age_of None ≡ older (within d) t (age_of (Some n))
  unfolding older age_of top_age
  older_over s h = sym (older_cap (within d) t 2048 (aged n) (omega arith) ∙ rw (lt-leb (n + min t 2048) d (omega arith)))

  older_in : Short (Within d) → y ≤ d → (age_of (Some y) ≡ older (within d) t (age_of (Some n))) × (y < 2048)
  unfolding older age_of top_age
  older_in s h = (rw e (sym (older_cap (within d) t 2048 (aged n) (omega arith) ∙ rw (le-leb (n + min t 2048) d (omega arith)))), omega arith)

  pub older_within : Short (Within d) → (age_of (then_some (leb y d) y) ≡ older (within d) t (age_of (Some n))) × IfSome (then_some (leb y d) y) (λ m. m < 2048)
  older_within s = ⊎_elim (λ h. rw (lt-leb y d h) (older_over s h, tt)) (λ h. rw (le-leb y d h) (older_in s h)) (lt_or_ge d y)

  -- longer than d
  pub older_longer : Short (Longer d) → (z : ℕ) → z ≡ min y (d + 1) → (age_of (Some z) ≡ older (longer d) t (age_of (Some n))) × (z < 2048)
  unfolding older age_of top_age
  older_longer s z f =
      let g : z ≡ min (n + min t 2048) (suc d) = omega arith in
      (rw g (sym (older_cap (longer d) t 2048 (aged n) (omega arith))), omega arith)

-- the first of two ages
or_is : (x y : Option ℕ) → age_of (option_or x y) ≡ or_else (age_of x) (age_of y)
unfolding age_of or_else
or_is None y = refl
or_is (Some n) y = refl

or_small : (x y : Option ℕ) → IfSome x (λ n. n < 2048) → IfSome y (λ n. n < 2048) → IfSome (option_or x y) (λ n. n < 2048)
or_small None y p q = q
or_small (Some n) y p q = p

-- the age of what holds now
new_small : (r : Bool) → IfSome (then_some r 0) (λ n. n < 2048)
new_small true = omega arith
new_small false = tt

now : (r : Bool) → age_of (then_some r 0) ≡ cond r (aged 0) none
unfolding age_of
now true = refl
now false = refl

-- where L does not hold, R alone decides
pub next_right : (b : Bound) (t : ℕ) (r : Bool) (x : Age) → (age_of (then_some r 0) ≡ next_age (limit_of b) t false r x) × IfSome (then_some r 0) (λ n. n < 2048)
unfolding next_age or_else age_of
next_right (Within d) t true x = (refl, new_small true)
next_right (Within d) t false x = (refl, new_small false)
next_right (Longer d) t true x = (refl, new_small true)
next_right (Longer d) t false x = (refl, new_small false)

-- where L holds: within d, R comes first, and then the old age; longer than d, the old age comes first
module _ (d t : ℕ) (r : Bool) (x : Age) (kept : Option ℕ) (small : IfSome kept (λ n. n < 2048)) where
  pub next_within : age_of kept ≡ older (within d) t x → (age_of (option_or (then_some r 0) kept) ≡ next_age (within d) t true r x) × IfSome (option_or (then_some r 0) kept) (λ n. n < 2048)
  unfolding next_age
  next_within e = (or_is (then_some r 0) kept ∙ rw (e, now r), or_small (then_some r 0) kept (new_small r) small)

  pub next_longer : age_of kept ≡ older (longer d) t x → (age_of (option_or kept (then_some r 0)) ≡ next_age (longer d) t true r x) × IfSome (option_or kept (then_some r 0)) (λ n. n < 2048)
  unfolding next_age
  next_longer e = (or_is kept (then_some r 0) ∙ rw (e, now r), or_small kept (then_some r 0) small (new_small r))

-- What the references alone tell of since. Assumes nothing.
use Prim.Native.Nat.{ℕ, ◌≤◌, ◌<◌, min, max}
use mathlib.Core.Path.{◌≡◌, refl, sym, ◌∙◌}
use mathlib.Core.Bool.{Bool, true, false, ◌&&◌, ◌||◌, or-false, or-true, and-false, and-true, and_self}
use mathlib.Core.Logic.{⊎_elim}
use native.Mathlib.Omega.{arith}
use Rattle.trees.proofs.Tests.{lt_or_ge}
use Rattle.walks.specs.Walks.{Among, none, sure, the_left, the_right, the_old, Alike, Eased}

-- a reference among those among others
among_trans : {l r o l₁ r₁ o₁ : ℕ} → Alike l r o l₁ r₁ o₁ → (d : ℕ) → Among l₁ r₁ o₁ d → Among l r o d
among_trans x d none = none
among_trans x d sure = sure
among_trans x d the_left = x.left
among_trans x d the_right = x.right
among_trans x d the_old = x.old

-- one change after the other
eased_after : {l r o l₁ r₁ o₁ l₂ r₂ o₂ : ℕ} → Alike l r o l₁ r₁ o₁ → Eased l₁ r₁ o₁ l₂ r₂ o₂ → Eased l r o l₂ r₂ o₂
eased_after x y =
    let z = y.alike in
    record {
      alike = record { left = among_trans x _ z.left; right = among_trans x _ z.right; old = among_trans x _ z.old; says = λ e no yes'. z.says e no yes' ∙ x.says e no yes' };
      level = y.level;
    }

and_comm : (x y : Bool) → (x && y) ≡ (y && x)
and_comm true y = sym (and-true y)
and_comm false y = sym (and-false y)

or_comm : (x y : Bool) → (x || y) ≡ (y || x)
or_comm true y = sym (or-true y)
or_comm false y = sym (or-false y)

-- x, or x and y
or_and_own : (x y : Bool) → x ≡ (x || (x && y))
or_and_own true y = refl
or_and_own false y = refl

-- x, or y and x
or_and_last : (x y : Bool) → x ≡ (x || (y && x))
or_and_last true y = refl
or_and_last false y = sym (and-false y)

module _ (l r o : ℕ) where
  -- the result is d
  is : {d : ℕ} → Among l r o d → ((e : ℕ → Bool) → e 0 ≡ false → e 1 ≡ true → e d ≡ (e r || (e l && e o))) → Eased l r o 0 d 0
  is {d} a s = record {
    alike = record { left = none; right = a; old = none; says = λ e no yes'. plain (e d) (e 0) no ∙ s e no yes' };
    level = λ h. absurd (omega arith);
  }
    where
      plain : (x y : Bool) → y ≡ false → (x || (y && y)) ≡ x
      plain x y h = rw h (or-false x)

  -- right is yes
  pub right_yes : r ≡ 1 → Eased l r o 0 r 0
  right_yes p = is the_right (λ e no yes'. rw (p, yes'))

  -- left is no
  pub left_no : l ≡ 0 → Eased l r o 0 r 0
  left_no p = is the_right (λ e no yes'. rw (p, no) (sym (or-false (e r))))

  -- right is left
  pub right_left : r ≡ l → Eased l r o 0 r 0
  right_left p = is the_right (λ e no yes'. rw p (or_and_own (e l) (e o)))

  -- right is old
  pub right_old : r ≡ o → Eased l r o 0 r 0
  right_old p = is the_right (λ e no yes'. rw p (or_and_last (e o) (e l)))

  -- left and old are one: right, or it
  pub left_old : {l₂ r₂ o₂ : ℕ} → l ≡ o → Eased 1 r o l₂ r₂ o₂ → Eased l r o l₂ r₂ o₂
  left_old p = eased_after (record { left = sure; right = the_right; old = the_old; says = λ e no yes'. rw (p, yes', and_self (e o)) })

  -- left is yes
  pub left_yes : {l₂ r₂ o₂ : ℕ} → l ≡ 1 → Eased 1 r o l₂ r₂ o₂ → Eased l r o l₂ r₂ o₂
  left_yes p x = rw p x

  -- left is a node
  pub left_node : (l ≡ 0 → ⊥) → (l ≡ 1 → ⊥) → Eased l r o l r o
  left_node p q = record { alike = record { left = the_left; right = the_right; old = the_old; says = λ e no yes'. refl }; level = λ h. omega arith }

  -- left and old in their order
  pub in_order : {l₂ r₂ o₂ : ℕ} → Eased (min l o) r (max l o) l₂ r₂ o₂ → Eased l r o l₂ r₂ o₂
  in_order x = ⊎_elim
      (λ h. let a : min l o ≡ l = omega arith in let b : max l o ≡ o = omega arith in rw (a, b) at x)
      (λ h.
      let a : min l o ≡ o = omega arith in
      let b : max l o ≡ l = omega arith in
      eased_after (record { left = the_old; right = the_right; old = the_left; says = λ e no yes'. rw (and_comm (e o)) refl }) (rw (a, b) at x))
      (lt_or_ge l o)

-- right, or old
module _ (r o : ℕ) where
  -- right is no
  pub or_no : r ≡ 0 → Eased 1 r o 0 o 0
  or_no p = is 1 r o the_old (λ e no yes'. rw (p, no, yes'))

  -- old is yes
  pub or_yes : o ≡ 1 → Eased 1 r o 0 1 0
  or_yes p = is 1 r o sure (λ e no yes'. rw (p, yes') (sym (or-true (e r))))

  -- both in the other order
  pub or_swapped : 1 ≤ o → o < r → Eased 1 r o 1 o r
  or_swapped h k = record { alike = record { left = sure; right = the_old; old = the_right; says = λ e no yes'. rw yes' (or_comm (e o) (e r)) }; level = λ _. omega arith }

  -- both as they are
  pub or_stays : 1 ≤ o → (o ≡ 1 → ⊥) → Eased 1 r o 1 r o
  or_stays h k = record { alike = record { left = sure; right = the_right; old = the_old; says = λ e no yes'. refl }; level = λ _. omega arith }

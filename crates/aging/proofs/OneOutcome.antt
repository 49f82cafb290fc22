-- Two outcomes that keep a promise of this crate are the same: the age that is read, the age after a step, whether an age is ripe. What
-- `make_age`, `age_walk` and `ripe_walk` promise is `Added`, of which crates/laws shows the same (`one_added`): the answer and the node
-- slice. What is left in the work slice from 5 * c on is not promised. Assumes nothing.
use Prim.Native.Nat.{ℕ}
use mathlib.Core.Path.{◌≡◌, refl, sym, ap, ◌∙◌}
use mathlib.Core.Bool.{Bool}
use native.Mathlib.Omega.{arith}
use Rattle.std.specs.Prelude.{Option, Some, None}
use Rattle.trees.specs.Tree.{Tree}
use Rattle.ages.specs.Ages.{ripe}
use Rattle.aging.specs.declared.Bound.{Bound}
use Rattle.aging.specs.Dates.{limit_of, age_of, ReadAge}
use Rattle.aging.proofs.EndLaws.{read_under}

-- an age is shown one way
pub one_age : (x y : Option ℕ) → age_of x ≡ age_of y → x ≡ y
unfolding age_of
one_age None None e = refl
one_age None (Some n) e = absurd (let z : ◌≡◌ {A = ℕ} 0 1 = cc in omega arith)
one_age (Some m) None e = absurd (let z : ◌≡◌ {A = ℕ} 0 1 = cc in omega arith)
one_age (Some m) (Some n) e = ap Some cc

pub one_read : (k : ℕ) (d : Tree) (x y : Option ℕ) → ReadAge k d x → ReadAge k d y → x ≡ y
one_read k d x y p q = one_age x y (sym (read_under k x p) ∙ read_under k y q)

-- `is_ripe`
pub one_leaf : (b : Bound) (a : Option ℕ) (x y : Bool) → x ≡ ripe (limit_of b) (age_of a) → y ≡ ripe (limit_of b) (age_of a) → x ≡ y
one_leaf b a x y p q = p ∙ sym q

-- Laws of functions of bits: and, not, and the removal of bits. Assumes nothing.
use Prim.Native.Nat.{ℕ, zero, suc, ◌+◌}
use mathlib.Core.Path.{◌≡◌, refl, sym, ap, ◌∙◌, fun_ext}
use mathlib.Core.Bool.{Bool, true, false, not, ◌&&◌, ◌||◌}
use mathlib.Core.Logic.{◌≢◌}
use native.Mathlib.Decide.{ℕ_discrete}
use Rattle.trees.specs.Bits.{Function, Same, put, drop, drops}
use Rattle.trees.proofs.BitsLaws.{put_swap, drops_same}

pub and_comm : (a b : Bool) → (a && b) ≡ (b && a)
and_comm true true = refl
and_comm true false = refl
and_comm false true = refl
and_comm false false = refl

pub and_assoc : (a b c : Bool) → ((a && b) && c) ≡ (a && (b && c))
and_assoc true b c = refl
and_assoc false b c = refl

pub and_idem : (a : Bool) → (a && a) ≡ a
and_idem true = refl
and_idem false = refl

pub not_not : (a : Bool) → not (not a) ≡ a
not_not true = refl
not_not false = refl

-- or, by not and and
pub or_by_not : (a b : Bool) → not (not a && not b) ≡ (a || b)
or_by_not true b = refl
or_by_not false b = not_not b

or_middle : (a b c d : Bool) → ((a || b) || (c || d)) ≡ ((a || c) || (b || d))
or_middle true b true d = refl
or_middle true b false d = refl
or_middle false true true d = refl
or_middle false false true d = refl
or_middle false true false d = refl
or_middle false false false d = refl

-- two bits may be removed in either order
drop_swap : (l m : ℕ) (g : Function) → Same (drop l (drop m g)) (drop m (drop l g))
unfolding drop
drop_swap l m g s = elim (ℕ_discrete l m) [ yes e ↦ rw e | no h ↦ other h ]
  where
    swap : l ≢ m → (x y : Bool) → g (put (put s l x) m y) ≡ g (put (put s m y) l x)
    swap h x y = ap g (fun_ext (put_swap s l m x y h))

    other : l ≢ m → ((g (put (put s l false) m false) || g (put (put s l false) m true)) || (g (put (put s l true) m false) || g (put (put s l true) m true)))
        ≡ ((g (put (put s m false) l false) || g (put (put s m false) l true)) || (g (put (put s m true) l false) || g (put (put s m true) l true)))
    other h = rw (swap h false false, swap h false true, swap h true false, swap h true true)
        (or_middle (g (put (put s m false) l false)) (g (put (put s m true) l false)) (g (put (put s m false) l true)) (g (put (put s m true) l true)))

-- a bit, and the bits of a variable
drop_drops : (l base n : ℕ) (g : Function) → Same (drop l (drops base n g)) (drops base n (drop l g))
unfolding drops
drop_drops l base zero g s = refl
drop_drops l base (suc n) g s =
    drop_drops l base n (drop (base + n) g) s ∙ drops_same base n _ _ (drop_swap l (base + n) g) s

-- two variables may be removed in either order
pub drops_swap : (base n v m : ℕ) (g : Function) → Same (drops base n (drops v m g)) (drops v m (drops base n g))
unfolding drops
drops_swap base n v zero g s = refl
drops_swap base n v (suc m) g s =
    drops_swap base n v m (drop (v + m) g) s ∙ drops_same v m _ _ (λ t. sym (drop_drops (v + m) base n g t)) s

-- a bit removed from an or is the or of the removals
drop_or : (l : ℕ) (f g : Function) → Same (drop l (λ s. f s || g s)) (λ s. drop l f s || drop l g s)
unfolding drop
drop_or l f g s = or_middle (f (put s l false)) (g (put s l false)) (f (put s l true)) (g (put s l true))

-- and so is a variable
pub drops_or : (base n : ℕ) (f g : Function) → Same (drops base n (λ s. f s || g s)) (λ s. drops base n f s || drops base n g s)
unfolding drops
drops_or base zero f g s = refl
drops_or base (suc n) f g s = drops_same base n _ _ (drop_or (base + n) f g) s ∙ drops_or base n (drop (base + n) f) (drop (base + n) g) s

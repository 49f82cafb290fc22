-- Laws of what a tree can say with some bits fixed. Assumes nothing.
use Prim.Native.Nat.{ℕ, suc, ◌<◌}
use mathlib.Core.Path.{◌≡◌, refl, sym, ap, ◌∙◌}
use mathlib.Core.Bool.{Bool, true, false, cond, ◌||◌}
use mathlib.Core.List.{List}
use mathlib.Core.Logic.{◌≢◌, ⊎_elim}
use native.Mathlib.Decide.{ℕ_discrete}
use native.Mathlib.Omega.{arith}
use lib.ListN.{length, get_or, set}
use lib.Seq.{get_or-set_same, get_or-set_other}
use Rattle.std.specs.Prelude.{Option, Some, None}
use Rattle.std.specs.Option.{unwrap_or}
use Rattle.trees.specs.Bits.{Bits, bit, put}
use Rattle.trees.specs.Tree.{Tree, off, on, node, eval, Fine}
use Rattle.trees.proofs.Tests.{false_true, or_cases, or_l, or_r}
use Rattle.trees.proofs.BitsLaws.{put_own, put_other}
use Rattle.trees.proofs.TreeLaws.{eval_agree, node_fine}
use Rattle.binding.specs.Fixing.{Meets, either, can}

-- a bit as a number is below 2
pub bit_small : (x : Bool) → bit x < 2
bit_small true = omega arith
bit_small false = omega arith

-- a tree that says yes for bits as fixed can say yes
pub can_of : (fs : List (Option Bool)) (d : Tree) (s : Bits) → Meets fs s → eval d s ≡ true → can fs d ≡ true
unfolding can eval either
can_of fs off s w e = e
can_of fs on s w e = refl
can_of fs (node l x y) s w e = go (get_or fs l None) refl (s l) refl e (can_of fs x s w) (can_of fs y s w)
  where
    go : (f : Option Bool) → get_or fs l None ≡ f → (b : Bool) → s l ≡ b → cond b (eval y s) (eval x s) ≡ true → (eval x s ≡ true → can fs x ≡ true) → (eval y s ≡ true → can fs y ≡ true)
        → either f (can fs x) (can fs y) ≡ true
    go None z true u h f g = or_r (can fs x) (can fs y) (g h)
    go None z false u h f g = or_l (can fs x) (can fs y) (f h)
    go (Some false) z true u h f g = absurd (false_true (w.each l false z) u)
    go (Some false) z false u h f g = f h
    go (Some true) z true u h f g = g h
    go (Some true) z false u h f g = absurd (false_true u (w.each l true z))

-- an open level is not fixed
pub clash : {x : Bool} → None ≡ Some x → ⊥
clash e = cc

-- an open level may have either bit
meets_put : (fs : List (Option Bool)) (s : Bits) (l : ℕ) (b : Bool) → get_or fs l None ≡ None → Meets fs s → Meets fs (put s l b)
meets_put fs s l b n w = record {
  each = λ i x e. elim (ℕ_discrete i l) [
    | yes q ↦ absurd (clash (sym n ∙ ap (λ (j : ℕ). get_or fs j None) (sym q) ∙ e))
    | no q ↦ put_other s l b i q ∙ w.each i x e
  ];
}

-- a tree that can say yes does so for some bits as fixed
some_from : (fs : List (Option Bool)) (lo hi : ℕ) (d : Tree) → Fine lo hi d → (s : Bits) → Meets fs s → can fs d ≡ true → (t : Bits) × Meets fs t × (eval d t ≡ true)
unfolding can eval either
some_from fs lo hi off f s w e = absurd (false_true refl e)
some_from fs lo hi on f s w e = (s, w, refl)
some_from fs lo hi (node l x y) f s w e =
    let g = node_fine lo hi l x y f in
    go (get_or fs l None) refl e (some_from fs (suc l) hi x g.2 s w) (some_from fs (suc l) hi y g.3 s w) g.2 g.3
  where
    keep : (d : Tree) (b : Bool) (t : Bits) → Fine (suc l) hi d → eval d (put t l b) ≡ eval d t
    keep d b t h = eval_agree (suc l) hi d h (put t l b) t (λ i p q. put_other t l b i (λ z. omega arith))

    go : (f : Option Bool) → get_or fs l None ≡ f → either f (can fs x) (can fs y) ≡ true
        → (can fs x ≡ true → (t : Bits) × Meets fs t × (eval x t ≡ true)) → (can fs y ≡ true → (t : Bits) × Meets fs t × (eval y t ≡ true))
        → Fine (suc l) hi x → Fine (suc l) hi y → (t : Bits) × Meets fs t × (cond (t l) (eval y t) (eval x t) ≡ true)
    go None n h p q fx fy = ⊎_elim
        (λ k. let r = p k in (put r.0 l false, meets_put fs r.0 l false n r.1, rw (put_own r.0 l false) (keep x false r.0 fx ∙ r.2)))
        (λ k. let r = q k in (put r.0 l true, meets_put fs r.0 l true n r.1, rw (put_own r.0 l true) (keep y true r.0 fy ∙ r.2)))
        (or_cases (can fs x) (can fs y) h)
    go (Some false) z h p q fx fy = let r = p h in (r.0, r.1, rw (r.1.each l false z) r.2)
    go (Some true) z h p q fx fy = let r = q h in (r.0, r.1, rw (r.1.each l true z) r.2)

-- bits as fixed, 0 at the open levels
shows : List (Option Bool) → Bits
shows fs l = unwrap_or (get_or fs l None) false

shows_meets : (fs : List (Option Bool)) → Meets fs (shows fs)
unfolding shows
shows_meets fs = record { each = λ l x e. ap (λ (o : Option Bool). unwrap_or o false) e }

pub can_some : (fs : List (Option Bool)) (hi : ℕ) (d : Tree) → Fine 0 hi d → can fs d ≡ true → (t : Bits) × Meets fs t × (eval d t ≡ true)
can_some fs hi d f e = some_from fs 0 hi d f (shows fs) (shows_meets fs) e

-- with nothing fixed every tree but no can say yes
pub can_free : (fs : List (Option Bool)) → ((l : ℕ) → get_or fs l None ≡ None) → (lo hi : ℕ) (d : Tree) → Fine lo hi d → d ≢ off → can fs d ≡ true
unfolding can either
can_free fs z lo hi off f n = absurd (n refl)
can_free fs z lo hi on f n = refl
can_free fs z lo hi (node l x y) f n =
    let g = node_fine lo hi l x y f in
    rw (z l) (go x y g.4 (can_free fs z (suc l) hi x g.2) (can_free fs z (suc l) hi y g.3))
  where
    go : (x y : Tree) → (x ≡ y → ⊥) → (x ≢ off → can fs x ≡ true) → (y ≢ off → can fs y ≡ true) → (can fs x || can fs y) ≡ true
    go off off d p q = absurd (d refl)
    go off on d p q = q (λ e. let z : ◌≡◌ {A = ℕ} 0 1 = cc in omega arith)
    go off (node m u v) d p q = q (λ e. let z : ◌≡◌ {A = ℕ} 0 1 = cc in omega arith)
    go on y d p q = or_l (can fs on) (can fs y) (p (λ e. let z : ◌≡◌ {A = ℕ} 0 1 = cc in omega arith))
    go (node m u v) y d p q = or_l (can fs (node m u v)) (can fs y) (p (λ e. let z : ◌≡◌ {A = ℕ} 0 1 = cc in omega arith))

-- one level more fixed
pub meets_set : (fs : List (Option Bool)) (l : ℕ) (x : Bool) (s : Bits) → l < length fs → Meets fs s → s l ≡ x → Meets (set fs l (Some x)) s
meets_set fs l x s h w e = record {
  each = λ i y z. elim (ℕ_discrete i l) [
    | yes q ↦ ap s q ∙ e ∙ same i y q z
    | no q ↦ w.each i y (sym (get_or-set_other fs l i (Some x) None q) ∙ z)
  ];
}
  where
    same : (i : ℕ) (y : Bool) → i ≡ l → get_or (set fs l (Some x)) i None ≡ Some y → x ≡ y
    same i y q z = let u = sym (get_or-set_same fs l (Some x) None h) ∙ ap (λ (j : ℕ). get_or (set fs l (Some x)) j None) (sym q) ∙ z in cc

-- and the other way round, where it was open
pub set_meets : (fs : List (Option Bool)) (l : ℕ) (x : Bool) (s : Bits) → l < length fs → get_or fs l None ≡ None → Meets (set fs l (Some x)) s → Meets fs s × (s l ≡ x)
set_meets fs l x s h o w = (
  record {
    each = λ i y z. elim (ℕ_discrete i l) [
      | yes q ↦ absurd (clash (sym o ∙ ap (λ (j : ℕ). get_or fs j None) (sym q) ∙ z))
      | no q ↦ w.each i y (get_or-set_other fs l i (Some x) None q ∙ z)
    ];
  },
  w.each l x (get_or-set_same fs l (Some x) None h),
)

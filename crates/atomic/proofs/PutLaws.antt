-- One argument more in an atom's nine numbers. Assumes nothing.
use Prim.Native.Nat.{ℕ, ◌+◌, ◌*◌, ◌≤◌, ◌<◌}
use native.Mathlib.Omega.{arith}
use mathlib.Core.Path.{◌≡◌, refl, ap, ◌∙◌}
use mathlib.Core.List.{List, [], ◌∷◌, ◌++◌}
use lib.ListN.{length, get_or, set, length-set}
use Rattle.meaning.specs.Qtl.{Argument}
use Rattle.meaning.specs.Rows
use Rattle.text.specs.Parts.{mark_of, content_of, pairs_of, nine}
use Rattle.atomic.specs.Arguments.{Puts}

count_is : (p : ℕ) (gs : List Argument) → get_or (nine (Rows.atom p gs)) 2 0 ≡ length gs
unfolding nine
count_is p gs = refl

module _ (before : List ℕ) (m v : ℕ) where
  counted : (p : ℕ) (gs : List Argument) → before ≡ nine (Rows.atom p gs) → get_or before 2 0 ≡ length gs
  counted p gs e = ap (λ (l : List ℕ). get_or l 2 0) e ∙ count_is p gs

  pub put_more : (n : ℕ) → n ≡ get_or before 2 0 → n < 3 → Puts before m v (set (set (set before (3 + 2 * n) m) (3 + 2 * n + 1) v) 2 (n + 1))
  put_more n c h = record {
    sized = λ s. length-set (set (set before (3 + 2 * n) m) (3 + 2 * n + 1) v) 2 (n + 1) ∙ length-set (set before (3 + 2 * n) m) (3 + 2 * n + 1) v ∙ length-set before (3 + 2 * n) m ∙ s;
    puts = by;
  }
    where
      by : (p : ℕ) (gs : List Argument) (g : Argument) → before ≡ nine (Rows.atom p gs) → length gs < 3 → m ≡ mark_of g → v ≡ content_of g
          → set (set (set before (3 + 2 * n) m) (3 + 2 * n + 1) v) 2 (n + 1) ≡ nine (Rows.atom p (gs ++ (g ∷ [])))
      by p [] g e l a b = let z : n ≡ 0 = c ∙ counted p [] e in rw (z, e, a, b) (done p g)
        where
          done : (p : ℕ) (g : Argument) → set (set (set (nine (Rows.atom p [])) 3 (mark_of g)) 4 (content_of g)) 2 1 ≡ nine (Rows.atom p (g ∷ []))
          done p g = unfold nine pairs_of in refl
      by p (x ∷ []) g e l a b = let z : n ≡ 1 = c ∙ counted p (x ∷ []) e in rw (z, e, a, b) (done p x g)
        where
          done : (p : ℕ) (x g : Argument) → set (set (set (nine (Rows.atom p (x ∷ []))) 5 (mark_of g)) 6 (content_of g)) 2 2 ≡ nine (Rows.atom p (x ∷ g ∷ []))
          done p x g = unfold nine pairs_of in refl
      by p (x ∷ y ∷ []) g e l a b = let z : n ≡ 2 = c ∙ counted p (x ∷ y ∷ []) e in rw (z, e, a, b) (done p x y g)
        where
          done : (p : ℕ) (x y g : Argument) → set (set (set (nine (Rows.atom p (x ∷ y ∷ []))) 7 (mark_of g)) 8 (content_of g)) 2 3 ≡ nine (Rows.atom p (x ∷ y ∷ g ∷ []))
          done p x y g = unfold nine pairs_of in refl
      by p (x ∷ y ∷ z ∷ gs) g e l a b = absurd (omega arith)

  pub put_none : 3 ≤ get_or before 2 0 → Puts before m v before
  put_none i = record { sized = λ s. s; puts = λ p gs g e l a b. absurd (omega (arith, counted p gs e)) }

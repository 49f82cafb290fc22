-- Where an atom matches, the cube of its places says what its arguments say. Assumes nothing.
use Prim.Native.Nat.{ℕ, zero, suc, ◌*◌, ◌^◌, ◌%◌, ◌<◌}
use mathlib.Core.Path.{◌≡◌, refl, ap, sym, ◌∙◌}
use mathlib.Core.Bool.{Bool, true, false, cond, not, ◌&&◌, ◌||◌}
use mathlib.Core.List.{List, [], ◌∷◌}
use mathlib.Core.Logic.{◌≢◌, ◌⊎◌, inl, inr, ⊎_elim}
use native.Mathlib.Nat.{mod-eq_of_lt}
use native.Mathlib.Omega.{arith}
use lib.Dec.{eqb}
use lib.ListN.{length}
use lib.Pow.{pow_pos}
use borrow.Author.Tests.{lt-ltb, eqb-true}
use Rattle.trees.specs.Bits.{Bits, number}
use Rattle.trees.proofs.Tests.{EqCase, equal, other, eq_case, eqb_same, false_true, and_true_l, and_true_r}
use Rattle.meaning.specs.Qtl.{Argument, variable, constant}
use Rattle.meaning.specs.Numbering.{Lists, place, listed, repeats, fits}
use Rattle.meaning.specs.Step.{arguments_say}
use Rattle.meaning.proofs.RowsLaws.{ArgumentsOk}
use Rattle.meaning.proofs.AskingLaws.{has_place, Asked, InLists}
use Rattle.meaning.proofs.Simulation.{Enough}
use Rattle.std.specs.Prelude.{Option, Some, None}
use Rattle.making.specs.declared.Number.{Number}
use Rattle.making.specs.Cubes.{place_says, cube_says}
use Rattle.instructions.specs.Plan.{place_of}

-- a test of each of the four variables
abbrev pub four : (ℕ → Bool) → Bool
four f = f 0 && (f 1 && (f 2 && f 3))

four_same : (f g : ℕ → Bool) → ((w : ℕ) → f w ≡ g w) → four f ≡ four g
four_same f g h = rw (h 0, h 1, h 2, h 3)

and_no : (a : Bool) → (a && false) ≡ false
and_no true = refl
and_no false = refl

four_no : (f : ℕ → Bool) (v : ℕ) → v < 4 → f v ≡ false → four f ≡ false
four_no f zero h e = rw e
four_no f (suc zero) h e = rw e (and_no (f 0))
four_no f (suc (suc zero)) h e = rw (e, and_no (f 1), and_no (f 0))
four_no f (suc (suc (suc zero))) h e = rw (e, and_no (f 2), and_no (f 1), and_no (f 0))
four_no f (suc (suc (suc (suc v)))) h e = absurd (omega arith)

-- one variable's test replaced by x, where it was x already or nothing was asked of it
four_with : (f g : ℕ → Bool) (v : ℕ) (x : Bool) → v < 4 → g v ≡ x → ((w : ℕ) → w ≢ v → g w ≡ f w) → (f v ≡ true) ⊎ (f v ≡ x) → (x && four f) ≡ four g
four_with f g v false h e o c = sym (four_no g v h e)
four_with f g v true h e o c = four_same f g λ w. go w (eqb w v) (eq_case w v)
  where
    go : (w : ℕ) (t : Bool) → EqCase w v t → f w ≡ g w
    go w true (equal q) = rw (q, e) (⊎_elim (λ (z : f v ≡ true). z) (λ (z : f v ≡ true). z) c)
    go w false (other q) = sym (o w q)

-- a variable that repeats has one number
repeat_place : (L : Lists) (v y : ℕ) (gs : List Argument) (ys : List ℕ) → repeats v y gs ys ≡ true
    → (place_of L v gs ys ≡ None) ⊎ (place_of L v gs ys ≡ Some (record { 0 = place (L v) y }))
unfolding repeats place_of
repeat_place L v y [] ys h = inl refl
repeat_place L v y (g ∷ gs) [] h = inl refl
repeat_place L v y (variable w ∷ gs) (z ∷ ys) h = go (eqb v w) (eqb w v) (eq_case v w) (eq_case w v) h (repeat_place L v y gs ys)
  where
    go : (t u : Bool) → EqCase v w t → EqCase w v u → ((not t || eqb y z) && repeats v y gs ys) ≡ true
        → (repeats v y gs ys ≡ true → (place_of L v gs ys ≡ None) ⊎ (place_of L v gs ys ≡ Some (record { 0 = place (L v) y })))
        → (cond u (Some (record { 0 = place (L v) z })) (place_of L v gs ys) ≡ None) ⊎ (cond u (Some (record { 0 = place (L v) z })) (place_of L v gs ys) ≡ Some (record { 0 = place (L v) y }))
    go true true a b q later = inr (ap (λ (x : ℕ). Some (record { 0 = place (L v) x })) (sym (eqb-true y z (and_true_l (eqb y z) (repeats v y gs ys) q))))
    go true false (equal a) (other b) q later = absurd (b (sym a))
    go false true (other a) (equal b) q later = absurd (a (sym b))
    go false false a b q later = later q
repeat_place L v y (constant c ∷ gs) (z ∷ ys) h = repeat_place L v y gs ys h

module _ (k : ℕ) (L : Lists) (enough : Enough k L) (s : Bits) where
  -- what the bits of variable v are asked
  abbrev pub at : List Argument → List ℕ → ℕ → Bool
  at gs ys v = place_says (v * k) k (place_of L v gs ys) s

  pub arguments_four : (gs : List Argument) (ys : List ℕ) → ArgumentsOk gs → Asked (InLists L) gs ys → fits gs ys ≡ true → arguments_say k L gs ys s ≡ four (at gs ys)
  unfolding arguments_say listed fits place_of
  arguments_four [] [] o i f = refl
  arguments_four [] (y ∷ ys) o i f = absurd (false_true refl f)
  arguments_four (g ∷ gs) [] o i f = absurd (false_true refl f)
  arguments_four (constant c ∷ gs) (y ∷ ys) o i f =
      rw (and_true_l (eqb c y) (fits gs ys) f) (arguments_four gs ys o.1 i (and_true_r (eqb c y) (fits gs ys) f))
  arguments_four (variable v ∷ gs) (y ∷ ys) o i f =
      let p : place (L v) y < length (L v) = has_place (L v) y i.0 in
      let m : place (L v) y % 2 ^ k ≡ place (L v) y = mod-eq_of_lt (let e = enough v o.0 in let q = pow_pos k in omega arith) in
      rw (lt-ltb _ _ p, arguments_four gs ys o.1 i.1 (and_true_r (repeats v y gs ys) (fits gs ys) f))
      (four_with (at gs ys) (at (variable v ∷ gs) (y ∷ ys)) v (eqb (number s (v * k) k) (place (L v) y)) o.0
      (rw (eqb_same v, m)) (λ w q. go w (eqb v w) (eq_case v w) q)
      (⊎_elim (λ e. inl (rw e)) (λ e. inr (ap (λ (x : Option Number). place_says (v * k) k x s) e ∙ ap (λ (x : ℕ). eqb (number s (v * k) k) x) m)) (repeat_place L v y gs ys (and_true_l (repeats v y gs ys) (fits gs ys) f))))
    where
      go : (w : ℕ) (t : Bool) → EqCase v w t → w ≢ v
          → place_says (w * k) k (cond t (Some (record { 0 = place (L w) y })) (place_of L w gs ys)) s ≡ place_says (w * k) k (place_of L w gs ys) s
      go w true (equal e) q = absurd (q (sym e))
      go w false e q = refl

  -- the cube of the places
  pub cube_four : (gs : List Argument) (ys : List ℕ)
      → cube_says k (place_of L 0 gs ys ∷ place_of L 1 gs ys ∷ place_of L 2 gs ys ∷ place_of L 3 gs ys ∷ []) s ≡ four (at gs ys)
  unfolding cube_says
  cube_four gs ys =
      let a : 0 * k ≡ 0 = omega arith in
      let b : 1 * k ≡ k = omega arith in
      rw (a, b)

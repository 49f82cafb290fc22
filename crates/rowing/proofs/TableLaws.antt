-- Tables of rows: finding one, and one more. Assumes nothing.
use Prim.Native.Nat.{ℕ, suc, ◌+◌, ◌≤◌, ◌<◌}
use native.Mathlib.Omega.{arith}
use native.Mathlib.Numerals.{add-one}
use mathlib.Core.Path.{◌≡◌, refl, sym, ap, ◌∙◌}
use mathlib.Core.Bool.{Bool, true, false, cond, ◌&&◌}
use mathlib.Core.List.{List, [], ◌∷◌, ◌++◌}
use mathlib.Core.Logic.{⊎_elim}
use lib.Dec.{eqb, ltb}
use lib.ListN.{length, get_or, take, drop, set, length-append}
use lib.Seq.{drop-cons, drop-length, take-suc-set, length-take-le}
use borrow.Author.Tests.{eq-eqb, ne_eqb, lt-ltb, le-ltb, ltb-true, ltb-false}
use Rattle.std.specs.Prelude.{Option, Some, None, position, nat_eq}
use Rattle.std.specs.List.{position_or_len}
use Rattle.std.specs.Cmp.Lexicographic.{pointwise}
use Rattle.std.proofs.lemmas.List.Recursion.{is_position_or_len}
use Rattle.trees.proofs.Tests.{lt_or_ge}
use Rattle.text.specs.Words.{same}
use Rattle.text.specs.Emit.{find_row, make_row}

-- make_row, old and new
pub make_old : (rows : List (List ℕ)) (x : List ℕ) → find_row rows x < length rows → make_row rows x ≡ record { rows = rows; row = find_row rows x }
unfolding make_row
make_old rows x h = rw (lt-ltb (find_row rows x) (length rows) h, make_row)

pub make_new : (rows : List (List ℕ)) (x : List ℕ) → length rows ≤ find_row rows x → make_row rows x ≡ record { rows = rows ++ (x ∷ []); row = length rows }
unfolding make_row
make_new rows x h = rw (le-ltb (find_row rows x) (length rows) h, make_row)

-- rows never go
pub make_longer : (rows : List (List ℕ)) (x : List ℕ) → length rows ≤ length (make_row rows x).rows
make_longer rows x = ⊎_elim
    (λ h. rw (make_old rows x h) (omega arith))
    (λ h. rw (make_new rows x h) (omega (arith, length-append rows (x ∷ []))))
    (lt_or_ge (find_row rows x) (length rows))

-- the row is looked for number by number
same_is : (xs ys : List ℕ) → same xs ys ≡ pointwise nat_eq xs ys
unfolding same
same_is [] [] = refl
same_is [] (y ∷ ys) = refl
same_is (x ∷ xs) [] = refl
same_is (x ∷ xs) (y ∷ ys) = ap (λ (b : Bool). eqb x y && b) (same_is xs ys)

find_is : (x : List ℕ) (rows : List (List ℕ)) → find_row rows x ≡ position_or_len (λ y. pointwise nat_eq y x) rows
unfolding find_row
find_is x = is_position_or_len (λ rows. find_row rows x) (λ y. pointwise nat_eq y x) refl (λ y ys. rw (← (same_is y x)) (by (same y x) (find_row ys x)))
  where
    by : (b : Bool) (n : ℕ) → elim b [ true ↦ 0 | false ↦ suc n ] ≡ cond b 0 (1 + n)
    by true n = refl
    by false n = omega arith

-- what is left to compare
module _ (a b : List ℕ) (i : ℕ) (l : pointwise nat_eq a b ≡ pointwise nat_eq (drop i a) (drop i b)) where
  compared : i < length a → i < length b → pointwise nat_eq a b ≡ (eqb (get_or a i 0) (get_or b i 0) && pointwise nat_eq (drop (suc i) a) (drop (suc i) b))
  compared h k = l ∙ rw (drop-cons a i 0 h, drop-cons b i 0 k)

  pub alike_more : i < length a → i < length b → get_or a i 0 ≡ get_or b i 0 → pointwise nat_eq a b ≡ pointwise nat_eq (drop (i + 1) a) (drop (i + 1) b)
  alike_more h k e = rw (add-one i) (compared h k ∙ rw (eq-eqb (get_or a i 0) (get_or b i 0) e))

  pub alike_other : i < length a → i < length b → (get_or a i 0 ≡ get_or b i 0 → ⊥) → false ≡ pointwise nat_eq a b
  alike_other h k n = sym (compared h k ∙ rw (ne_eqb (get_or a i 0) (get_or b i 0) n))

  pub alike_all : i ≡ length a → i ≡ length b → true ≡ pointwise nat_eq a b
  alike_all h k =
      let e : drop i a ≡ [] = rw (h, drop-length a) in
      let f : drop i b ≡ [] = rw (k, drop-length b) in
      sym (l ∙ rw (e, f))

module _ (rows : List (List ℕ)) (x : List ℕ) where
  some_place : (n k row : ℕ) → Some row ≡ cond (ltb k n) (Some k) None → (k < n) × (row ≡ k)
  some_place n k row e = by (ltb k n) refl e
    where
      by : (b : Bool) → ltb k n ≡ b → Some row ≡ cond b (Some k) None → (k < n) × (row ≡ k)
      by true t e = (ltb-true k n t, cc)
      by false t e = absurd cc

  no_place : (n k : ℕ) → ◌≡◌ {A = Option ℕ} None (cond (ltb k n) (Some k) None) → n ≤ k
  no_place n k e = by (ltb k n) refl e
    where
      by : (b : Bool) → ltb k n ≡ b → ◌≡◌ {A = Option ℕ} None (cond b (Some k) None) → n ≤ k
      by true t e = absurd cc
      by false t e = ltb-false k n t

  -- found
  pub row_found : (row : ℕ) → Some row ≡ position (λ y. pointwise nat_eq y x) rows → record { rows = rows; row = row } ≡ make_row rows x
  row_found row e =
      let s = some_place (length rows) (position_or_len (λ y. pointwise nat_eq y x) rows) row e in
      let k : row ≡ find_row rows x = s.1 ∙ sym (find_is x rows) in
      sym (make_old rows x (omega (arith, find_is x rows, s.0)) ∙ rw k refl)

  pub row_new : ◌≡◌ {A = Option ℕ} None (position (λ y. pointwise nat_eq y x) rows) → make_row rows x ≡ record { rows = rows ++ (x ∷ []); row = length rows }
  row_new e =
      let l : length rows ≤ position_or_len (λ y. pointwise nat_eq y x) rows = no_place (length rows) (position_or_len (λ y. pointwise nat_eq y x) rows) e in
      make_new rows x (omega (arith, find_is x rows))

-- made, in a table with room for it or without
module _ (all : List (List ℕ)) (n : ℕ) (x : List ℕ) (sized : length all ≡ 64) (e : ◌≡◌ {A = Option ℕ} None (position (λ y. pointwise nat_eq y x) (take n all))) where
  pub row_made : n ≤ 64 → (n ≡ 64 → ⊥) → record { rows = take (n + 1) (set all n x); row = n } ≡ make_row (take n all) x
  row_made l o =
      let k : length (take n all) ≡ n = length-take-le n all (omega arith) in
      sym (row_new (take n all) x e ∙ rw (k, add-one n, take-suc-set all n x (short n l o)) refl)
    where
      short : (n : ℕ) → n ≤ 64 → (n ≡ 64 → ⊥) → n < length all
      short n l o = ⊎_elim (λ q. omega arith) (λ q. absurd (o (omega arith))) (lt_or_ge n 64)

  pub row_over : n ≡ 64 → 64 < length (make_row (take n all) x).rows
  row_over l =
      let k : length (take n all) ≡ n = length-take-le n all (omega arith) in
      rw (row_new (take n all) x e) (omega (arith, length-append (take n all) (x ∷ [])))

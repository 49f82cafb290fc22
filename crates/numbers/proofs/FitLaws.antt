-- Laws of matching: what the decoded arguments of a row say of a fact's values, place by place. Assumes nothing.
use Prim.Native.Nat.{ℕ, zero, suc, min, ◌+◌, ◌-◌, ◌≤◌, ◌<◌}
use mathlib.Core.Path.{◌≡◌, refl, ap, ap₂, sym, ◌∙◌}
use mathlib.Core.Bool.{Bool, true, false, ◌&&◌}
use mathlib.Core.List.{List, [], ◌∷◌, map}
use native.Mathlib.Numerals.{add-one}
use native.Mathlib.Omega.{arith}
use lib.Dec.{eqb}
use lib.ListN.{length, get_or, take, drop, length-map, length-take, length-drop}
use lib.Seq.{drop-cons, take_all}
use borrow.Author.Tests.{eq-eqb, ne_eqb}
use Rattle.std.specs.List.{zip, list_all}
use Rattle.meaning.specs.declared.Fact.{Fact as Handed}
use Rattle.meaning.specs.declared.Value.{Value}
use Rattle.meaning.specs.Qtl
use Rattle.meaning.specs.Qtl.{variable, constant}
use Rattle.meaning.specs.Numbering.{repeats, fits}
use Rattle.meaning.specs.Outcome.{fact_of}
use Rattle.rule.specs.declared.Argument.{Argument}
use Rattle.rule.specs.declared.Argument.TheVariants.{Variable, Constant}
use Rattle.rule.specs.declared.Atom
use Rattle.rule.specs.declared.Row.{Row}
use Rattle.rule.specs.declared.Row.TheVariants.{True, Atom, And, Not, Since, Previous, Exists}
use Rattle.rule.specs.Decoded.{argument_of, row_of}
use Rattle.numbers.specs.Matching.{matches_row, same_at, fits_first, bare}

pub and_none : (b : Bool) → (b && false) ≡ false
and_none true = refl
and_none false = refl

-- one place says of the variable v and its value y: it is another variable, this one, or a constant
module _ (v y : ℕ) (g : Argument) (z : ℕ) where
  pub again_other : (w : ℕ) → g ≡ Variable w → (v ≡ w → ⊥) → true ≡ same_at v y (argument_of g) z
  unfolding same_at argument_of
  again_other w e h = rw (e, ne_eqb v w h)

  pub again_same : (w : ℕ) → g ≡ Variable w → v ≡ w → eqb y z ≡ same_at v y (argument_of g) z
  unfolding same_at argument_of
  again_same w e h = rw (e, eq-eqb v w h)

  pub again_constant : (k : Value) → g ≡ Constant k → true ≡ same_at v y (argument_of g) z
  unfolding same_at argument_of
  again_constant k e = rw e

-- one place of the walk over a variable's later places
repeats_first : (v x : ℕ) (g : Qtl.Argument) (y : ℕ) (gs : List Qtl.Argument) (ys : List ℕ) → repeats v x (g ∷ gs) (y ∷ ys) ≡ (same_at v x g y && repeats v x gs ys)
unfolding repeats same_at
repeats_first v x (variable w) y gs ys = refl
repeats_first v x (constant c) y gs ys = refl

-- the walk over them
pub repeats_are : (v x : ℕ) (gs : List Argument) (ys : List Value)
    → list_all (λ (p : Argument × Value). same_at v x (argument_of p.0) p.1.0) (zip gs ys) ≡ repeats v x (map argument_of gs) (bare ys)
unfolding repeats
repeats_are v x [] ys = refl
repeats_are v x (g ∷ gs) [] = refl
repeats_are v x (g ∷ gs) (y ∷ ys) =
    rw (repeats_are v x gs ys) (sym (repeats_first v x (argument_of g) y.0 (map argument_of gs) (bare ys)))

-- an argument that is a variable, and one that is a constant
pub first_variable : (g : Argument) (v y : ℕ) (gs : List Qtl.Argument) (ys : List ℕ) → g ≡ Variable v → repeats v y gs ys ≡ fits_first (argument_of g) y gs ys
unfolding fits_first argument_of
first_variable g v y gs ys e = rw e

pub first_constant : (g : Argument) (k : Value) (y : ℕ) (gs : List Qtl.Argument) (ys : List ℕ) → g ≡ Constant k → eqb k.0 y ≡ fits_first (argument_of g) y gs ys
unfolding fits_first argument_of
first_constant g k y gs ys e = rw e

-- one place of the walk over the arguments
fits_first_law : (g : Qtl.Argument) (y : ℕ) (gs : List Qtl.Argument) (ys : List ℕ) → fits (g ∷ gs) (y ∷ ys) ≡ (fits_first g y gs ys && fits gs ys)
unfolding fits fits_first
fits_first_law (variable v) y gs ys = refl
fits_first_law (constant c) y gs ys = refl

-- the walk over the arguments, from the place i on
fits_at : (i : ℕ) (gs : List Argument) (ys : List Value) (g : Argument) (y : Value) → i < length gs → i < length ys
    → fits (map argument_of (drop i gs)) (bare (drop i ys))
    ≡ (fits_first (argument_of (get_or gs i g)) (get_or ys i y).0 (map argument_of (drop (i + 1) gs)) (bare (drop (i + 1) ys))
    && fits (map argument_of (drop (i + 1) gs)) (bare (drop (i + 1) ys)))
fits_at i gs ys g y h k =
    rw (add-one i, drop-cons gs i g h, drop-cons ys i y k)
    (fits_first_law (argument_of (get_or gs i g)) (get_or ys i y).0 (map argument_of (drop (suc i) gs)) (bare (drop (suc i) ys)))

-- where the argument there does not fit, and where it does
module _ (i : ℕ) (gs : List Argument) (ys : List Value) (g : Argument) (y : Value) (h : i < length gs) (k : i < length ys) {r : Bool}
    (e : r ≡ fits_first (argument_of (get_or gs i g)) (get_or ys i y).0 (map argument_of (take (length gs - (i + 1)) (drop (i + 1) gs))) (bare (take (length ys - (i + 1)) (drop (i + 1) ys)))) where
  rest_of : {A : Type 0} (n : ℕ) (xs : List A) → take (length xs - n) (drop n xs) ≡ drop n xs
  rest_of n xs = take_all (length xs - n) (drop n xs) (rw length-drop (omega arith))

  is : r ≡ fits_first (argument_of (get_or gs i g)) (get_or ys i y).0 (map argument_of (drop (i + 1) gs)) (bare (drop (i + 1) ys))
  is = rw (rest_of (i + 1) gs, rest_of (i + 1) ys) at e

  pub fits_off : r ≡ false → fits (map argument_of (drop i gs)) (bare (drop i ys)) ≡ false
  fits_off q = fits_at i gs ys g y h k ∙ rw (sym is ∙ q)

  pub fits_on : r ≡ true → fits (map argument_of (drop i gs)) (bare (drop i ys)) ≡ fits (map argument_of (drop (i + 1) gs)) (bare (drop (i + 1) ys))
  fits_on q = fits_at i gs ys g y h k ∙ rw (sym is ∙ q)

-- where they end, they fit
pub fits_end : (i : ℕ) (gs : List Argument) (ys : List Value) → length gs ≤ i → length ys ≤ i → fits (map argument_of (drop i gs)) (bare (drop i ys)) ≡ true
unfolding fits
fits_end i gs ys h k = rw (drop_end i gs h, drop_end i ys k)
  where
    drop_end : {A : Type 0} (i : ℕ) (xs : List A) → length xs ≤ i → drop i xs ≡ []
    drop_end zero [] h = refl
    drop_end zero (x ∷ xs) h = absurd (omega arith)
    drop_end (suc i) [] h = refl
    drop_end (suc i) (x ∷ xs) h = drop_end i xs (omega arith)

-- lists of different lengths never fit
pub fits_length : (gs : List Qtl.Argument) (ys : List ℕ) → (length gs ≡ length ys → ⊥) → fits gs ys ≡ false
unfolding fits
fits_length [] [] h = absurd (h refl)
fits_length [] (y ∷ ys) h = refl
fits_length (g ∷ gs) [] h = refl
fits_length (variable v ∷ gs) (y ∷ ys) h = rw (fits_length gs ys (λ e. h (ap suc e))) (and_none (repeats v y gs ys))
fits_length (constant c ∷ gs) (y ∷ ys) h = rw (fits_length gs ys (λ e. h (ap suc e))) (and_none (eqb c y))

-- the first n of three are the first of them that a row can use
take_three : {A : Type 0} (n : ℕ) (xs : List A) → length xs ≡ 3 → take (min n 3) xs ≡ take n xs
take_three n [] h = absurd (omega arith)
take_three n (x ∷ []) h = absurd (omega arith)
take_three n (x ∷ y ∷ []) h = absurd (omega arith)
take_three zero (x ∷ y ∷ z ∷ []) h = refl
take_three (suc zero) (x ∷ y ∷ z ∷ []) h = refl
take_three (suc (suc zero)) (x ∷ y ∷ z ∷ []) h = refl
take_three (suc (suc (suc n))) (x ∷ y ∷ z ∷ []) h = let e : min (suc (suc (suc n))) 3 ≡ 3 = omega arith in rw (e, take_nil n)
  where
    take_nil : {A : Type 0} (n : ℕ) → take {A = A} n [] ≡ []
    take_nil zero = refl
    take_nil (suc n) = refl
take_three n (x ∷ y ∷ z ∷ w ∷ xs) h = absurd (omega arith)

mapped_first : {A B : Type 0} (f : A → B) (n : ℕ) (xs : List A) → map f (take n xs) ≡ take n (map f xs)
mapped_first f zero xs = refl
mapped_first f (suc n) [] = refl
mapped_first f (suc n) (x ∷ xs) = rw (mapped_first f n xs)

-- no other row matches
pub other_row : (e : Handed) (row : Row) → ((a : Atom.Atom) → row ≡ Atom a → ⊥) → false ≡ matches_row (fact_of e) (row_of row)
unfolding matches_row row_of
other_row e True h = refl
other_row e (Atom a) h = absurd (h a refl)
other_row e (And l r) h = refl
other_row e (Not r) h = refl
other_row e (Since l r) h = refl
other_row e (Previous r) h = refl
other_row e (Exists x r) h = refl

-- the row is an atom: of another predicate, of another count, or one whose arguments decide
module _ (e : Handed) (row : Row) (a : Atom.Atom) (is : row ≡ Atom a) where
  pub match_predicate : (e.predicate ≡ a.predicate → ⊥) → false ≡ matches_row (fact_of e) (row_of row)
  unfolding matches_row row_of fact_of
  match_predicate h = rw (is, ne_eqb e.predicate a.predicate h)

  module _ (values : length e.values ≡ 3) (arguments : length a.arguments ≡ 3) where
    pub match_count : (min e.count 3 ≡ min a.count 3 → ⊥) → false ≡ matches_row (fact_of e) (row_of row)
    unfolding matches_row row_of fact_of
    match_count h =
        let apart = fits_length (take a.count (map argument_of a.arguments)) (map (λ v. v.0) (take e.count e.values))
        (λ z. h (omega (arith, z, length-take a.count (map argument_of a.arguments), length-map a.arguments argument_of, length-map (take e.count e.values) (λ (v : Value). v.0), length-take e.count e.values))) in
        rw (is, apart) (sym (and_none (eqb e.predicate a.predicate)))

    pub match_fits : e.predicate ≡ a.predicate → min e.count 3 ≡ min a.count 3
        → fits (map argument_of (take (min a.count 3) a.arguments)) (bare (take (min a.count 3) e.values)) ≡ matches_row (fact_of e) (row_of row)
    unfolding matches_row row_of fact_of
    match_fits h k =
        rw (is, eq-eqb e.predicate a.predicate h)
        (ap₂ fits (ap (map argument_of) (take_three a.count a.arguments arguments) ∙ mapped_first argument_of a.count a.arguments)
        (ap bare (ap (λ (n : ℕ). take n e.values) (sym k) ∙ take_three e.count e.values values)))

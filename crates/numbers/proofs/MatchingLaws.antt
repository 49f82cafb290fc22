-- Laws of matching: a fact's values and a row's arguments place by place. Assumes nothing.
use Prim.Native.Nat.{ℕ, zero, suc, ◌+◌, ◌*◌, ◌≤◌, ◌<◌}
use mathlib.Core.Path.{◌≡◌, refl, ap, sym, ◌∙◌}
use mathlib.Core.Bool.{Bool, true, false, ◌&&◌}
use mathlib.Core.List.{List, [], ◌∷◌, map}
use native.Mathlib.Omega.{arith}
use lib.Dec.{eqb, ltb, leb}
use lib.ListN.{length, get_or, take, length-map, get_or-map}
use lib.Seq.{get_or-take, length-take-le}
use borrow.Author.Tests.{eq-eqb, ne_eqb, leb-true}
use Rattle.trees.proofs.Tests.{and_true_l, and_true_r}
use Rattle.meaning.specs.declared.Fact.{Fact as Handed}
use Rattle.meaning.specs.declared.Value.{Value}
use Rattle.meaning.specs.Qtl.{Argument, variable, constant, Fact}
use Rattle.meaning.specs.Rows.{atom, field, field_right, use_of, uses, row_right, argument_at, of_kind, row_at}
use Rattle.meaning.specs.Outcome.{fact_of}
use Rattle.numbers.specs.Matching.{matches_row, arguments_of, Sized}
use Rattle.numbers.proofs.FitLaws.{and_none, fits_length}

-- an array of three values, as the arguments of a function have it
pub sized_of : {X : Type 0} (f : Value → X) (e : Handed) → e.count ≤ 3 → length (map f e.values) ≡ 3 → Sized e
sized_of f e few three = record { few = few; three = sym (length-map e.values f) ∙ three }

-- the values of a fact
pub values_length : (e : Handed) → Sized e → length (fact_of e).values ≡ e.count
unfolding fact_of
values_length e s = length-map (take e.count e.values) (λ v. v.0) ∙ length-take-le e.count e.values (let f = s.few in let t = s.three in omega arith)

pub value_is : (e : Handed) (j : ℕ) → j < e.count → get_or (fact_of e).values j 0 ≡ (get_or e.values j (record { 0 = 0 })).0
unfolding fact_of
value_is e j h = get_or-map (λ v. v.0) (take e.count e.values) j (record { 0 = 0 }) ∙ ap (λ v. v.0) (get_or-take e.count e.values j (record { 0 = 0 }) h)

-- the arguments of a row
pub arguments_length : (raw : List ℕ) (i n : ℕ) → n ≤ 3 → length (arguments_of raw i n) ≡ n
unfolding arguments_of
arguments_length raw i n h = length-take-le n _ h

pub argument_is : (raw : List ℕ) (i n j : ℕ) → j < n → n ≤ 3 → get_or (arguments_of raw i n) j (constant 0) ≡ argument_at raw i j
unfolding arguments_of
argument_is raw i n j h k = get_or-take n _ j (constant 0) h ∙ go j (omega arith)
  where
    go : (j : ℕ) → j < 3 → get_or (argument_at raw i 0 ∷ argument_at raw i 1 ∷ argument_at raw i 2 ∷ []) j (constant 0) ≡ argument_at raw i j
    go zero q = refl
    go (suc zero) q = refl
    go (suc (suc zero)) q = refl
    go (suc (suc (suc j))) q = absurd (omega arith)

-- the mark tells a variable from a constant
pub is_variable : (raw : List ℕ) (i j : ℕ) → get_or raw (9 * i + (3 + 2 * j)) 0 ≡ 0 → argument_at raw i j ≡ variable (get_or raw (9 * i + (4 + 2 * j)) 0)
unfolding argument_at field
is_variable raw i j h = rw (eq-eqb (get_or raw (9 * i + (3 + 2 * j)) 0) 0 h)

pub is_constant : (raw : List ℕ) (i j : ℕ) → (get_or raw (9 * i + (3 + 2 * j)) 0 ≡ 0 → ⊥) → argument_at raw i j ≡ constant (get_or raw (9 * i + (4 + 2 * j)) 0)
unfolding argument_at field
is_constant raw i j h = rw (ne_eqb (get_or raw (9 * i + (3 + 2 * j)) 0) 0 h)

-- only atoms match
other_kind : (e : Fact) (kind p q : ℕ) (gs : List Argument) → (kind ≡ 2 → ⊥) → matches_row e (of_kind kind p q gs) ≡ false
unfolding matches_row of_kind
other_kind e zero p q gs h = refl
other_kind e (suc zero) p q gs h = refl
other_kind e (suc (suc zero)) p q gs h = absurd (h refl)
other_kind e (suc (suc (suc zero))) p q gs h = refl
other_kind e (suc (suc (suc (suc zero)))) p q gs h = refl
other_kind e (suc (suc (suc (suc (suc zero))))) p q gs h = refl
other_kind e (suc (suc (suc (suc (suc (suc zero)))))) p q gs h = refl
other_kind e (suc (suc (suc (suc (suc (suc (suc kind))))))) p q gs h = refl

-- the row at place i, where it is an atom
pub atom_is : (raw : List ℕ) (i : ℕ) → get_or raw (9 * i) 0 ≡ 2 → row_at raw i ≡ atom (get_or raw (9 * i + 1) 0) (arguments_of raw i (get_or raw (9 * i + 2) 0))
unfolding row_at of_kind arguments_of field
atom_is raw i h =
    let z : 9 * i + 0 ≡ 9 * i = omega arith in
    rw (z, h)

-- an atom that keeps the row rules has at most three arguments
of_count : (i kind q : ℕ) → kind ≡ 2 → field_right i (use_of kind 1) q ≡ true → q ≤ 3
unfolding field_right use_of uses
of_count i kind q e r = leb-true q 3 (rw e at r)

kind_is : (raw : List ℕ) (i : ℕ) → field raw i 0 ≡ get_or raw (9 * i) 0
unfolding field
kind_is raw i = let z : 9 * i + 0 ≡ 9 * i = omega arith in rw z

count_le : (raw : List ℕ) (i : ℕ) → row_right raw i ≡ true → get_or raw (9 * i) 0 ≡ 2 → get_or raw (9 * i + 2) 0 ≤ 3
unfolding row_right field
count_le raw i h k =
    let p : Bool = field_right i (use_of (field raw i 0) 0) (field raw i 1) in
    let q : Bool = field_right i (use_of (field raw i 0) 1) (field raw i 2) in
    of_count i (field raw i 0) (field raw i 2) (kind_is raw i ∙ k) (and_true_r p q (and_true_l (p && q) _ (and_true_r (ltb 0 (field raw i 0) && leb (field raw i 0) 7) _ h)))

-- the row at place i is no atom, or one of another count
module _ (raw : List ℕ) (i : ℕ) (e : Handed) where
  pub match_kind : (get_or raw (9 * i) 0 ≡ 2 → ⊥) → false ≡ matches_row (fact_of e) (row_at raw i)
  unfolding row_at
  match_kind h = sym (other_kind (fact_of e) (field raw i 0) (field raw i 1) (field raw i 2) _ (λ z. h (sym (kind_is raw i) ∙ z)))

  pub match_count : get_or raw (9 * i) 0 ≡ 2 → row_right raw i ≡ true → Sized e → (get_or raw (9 * i + 2) 0 ≡ e.count → ⊥) → false ≡ matches_row (fact_of e) (row_at raw i)
  unfolding matches_row
  match_count h q s k =
      let n = get_or raw (9 * i + 2) 0 in
      let few : n ≤ 3 = count_le raw i q h in
      let apart : length (arguments_of raw i n) ≡ length (fact_of e).values → ⊥ = λ z. k (sym (arguments_length raw i n few) ∙ (z ∙ values_length e s)) in
      rw (atom_is raw i h, fits_length (arguments_of raw i n) (fact_of e).values apart) (sym (and_none (eqb (fact_of e).predicate (get_or raw (9 * i + 1) 0))))

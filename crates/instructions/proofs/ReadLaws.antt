-- What the code reads from a row is what the plan has, where the numbers of the facts' values are right. Assumes nothing.
use Prim.Native.Nat.{ℕ, zero, suc, ◌+◌, ◌*◌, ◌<◌}
use mathlib.Core.Path.{◌≡◌, refl, ap}
use mathlib.Core.Bool.{Bool, true, false, cond, ◌&&◌}
use mathlib.Core.List.{List, [], ◌∷◌, map}
use native.Mathlib.Omega.{arith}
use lib.Dec.{eqb}
use lib.ListN.{length, get_or, take}
use Rattle.trees.proofs.Tests.{EqCase, equal, eq_case, false_true, and_true_r}
use Rattle.meaning.specs.Qtl.{Argument, variable, constant, Fact}
use Rattle.meaning.specs.Rows
use Rattle.meaning.specs.Rows.{truth, atom, both, neg, since, previous, exists}
use Rattle.meaning.specs.Numbering.{Lists, place, repeats, fits}
use Rattle.numbers.specs.Matching.{matches_row, arguments_in}
use Rattle.std.specs.Option.{unwrap_or}
use Rattle.numbers.specs.Asking.{AsksFor, numbered, number_at}
use Rattle.rule.specs.declared.Row.{Row}
use Rattle.rule.specs.declared.Row.TheVariants as variants
use Rattle.rule.specs.declared.Atom.{Atom}
use Rattle.rule.specs.declared.Argument
use Rattle.rule.specs.Decoded.{argument_of, row_of}
use Rattle.making.specs.declared.Number.{Number}
use Rattle.std.specs.Prelude.{Option, Some, None}
use Rattle.diagram.specs.Steps.{Turn}
use Rattle.instructions.specs.Plan.{place_of, turn_of}
use Rattle.instructions.specs.Read.{names, number_read, place_read, turn_read, row_turn, is_atom}

-- what is read of the variant that a value is found to be is read of the value
pub argument_is : {a b : Argument.Argument} {r : Bool} (v : ℕ) → a ≡ b → r ≡ names v (argument_of b) → r ≡ names v (argument_of a)
argument_is v e p = rw e p

pub row_is : {a b : Row} {r : Turn} (matched : Bool) (given : List (Option Number)) (f : ℕ) → a ≡ b → r ≡ row_turn (row_of b) matched given f → r ≡ row_turn (row_of a) matched given f
row_is matched given f e p = rw e p

-- the place read argument by argument
module _ (v : ℕ) (given : List (Option Number)) (f : ℕ) where
  -- the variable's first place is i
  place_found : (j q : ℕ) (gs : List Argument.Argument) (i : ℕ) (d : Argument.Argument) → i < q → i < length gs → names v (argument_of (get_or gs i d)) ≡ true
      → ((k : ℕ) → k < i → names v (argument_of (get_or gs k d)) ≡ false) → Some (number_read given f v (j + i)) ≡ place_read v j (take q (map argument_of gs)) given f
  unfolding place_read
  place_found j q [] i d h l n e = absurd (omega arith)
  place_found j zero (g ∷ gs) i d h l n e = absurd (omega arith)
  place_found j (suc q) (g ∷ gs) zero d h l n e = rw (n, let z : j + 0 ≡ j = omega arith in z) refl
  place_found j (suc q) (g ∷ gs) (suc i) d h l n e =
      rw (e 0 (omega arith), let z : j + suc i ≡ suc j + i = omega arith in z) (place_found (suc j) q gs i d (omega arith) (omega arith) n (λ k m. e (suc k) (omega arith)))

  pub place_first : (q : ℕ) (gs : List Argument.Argument) (i : ℕ) (d : Argument.Argument) → i < q → i < length gs → names v (argument_of (get_or gs i d)) ≡ true
      → ((k : ℕ) → k < i → names v (argument_of (get_or gs k d)) ≡ false) → Some (number_read given f v i) ≡ place_read v 0 (take q (map argument_of gs)) given f
  place_first q gs i d h l n e = rw (let z : 0 + i ≡ i = omega arith in z) at (place_found 0 q gs i d h l n e)

  -- it has none
  pub place_nowhere : (j q : ℕ) (gs : List Argument.Argument) (d : Argument.Argument) → ((k : ℕ) → k < q → k < length gs → names v (argument_of (get_or gs k d)) ≡ false)
      → None ≡ place_read v j (take q (map argument_of gs)) given f
  unfolding place_read
  place_nowhere j zero gs d e = refl
  place_nowhere j (suc q) [] d e = refl
  place_nowhere j (suc q) (g ∷ gs) d e = rw (e 0 (omega arith) (omega arith)) (place_nowhere (suc j) q gs d (λ k m l. e (suc k) (omega arith) (omega arith)))

-- what is read of an atom that matches, and of one that does not
module _ (gs : List Argument) (matched : Bool) (given : List (Option Number)) (f : ℕ) where
  pub hit_yes : {a b c d : Option Number} → matched ≡ true → a ≡ place_read 0 0 gs given f → b ≡ place_read 1 0 gs given f → c ≡ place_read 2 0 gs given f
      → d ≡ place_read 3 0 gs given f → Some (a ∷ b ∷ c ∷ d ∷ []) ≡ turn_read matched gs given f
  unfolding turn_read
  hit_yes m p q r s = rw (m, p, q, r, s)

  pub hit_no : matched ≡ false → None ≡ turn_read matched gs given f
  unfolding turn_read
  hit_no m = rw m

-- a row that is no atom is none of the meaning, and nothing is added to it
pub no_atom : (r : Row) → ((a : Atom) → r ≡ variants.Atom a → ⊥) → is_atom (row_of r) ≡ false
unfolding row_of is_atom
no_atom variants.True h = refl
no_atom (variants.Atom a) h = absurd (h a refl)
no_atom (variants.And l r) h = refl
no_atom (variants.Not r) h = refl
no_atom (variants.Since l r) h = refl
no_atom (variants.Previous r) h = refl
no_atom (variants.Exists x r) h = refl

pub no_turn : (r : Row) (matched : Bool) (given : List (Option Number)) (f : ℕ) → ((a : Atom) → r ≡ variants.Atom a → ⊥) → None ≡ row_turn (row_of r) matched given f
unfolding row_of row_turn
no_turn variants.True matched given f h = refl
no_turn (variants.Atom a) matched given f h = absurd (h a refl)
no_turn (variants.And l r) matched given f h = refl
no_turn (variants.Not r) matched given f h = refl
no_turn (variants.Since l r) matched given f h = refl
no_turn (variants.Previous r) matched given f h = refl
no_turn (variants.Exists x r) matched given f h = refl

-- where the row matches fact f, the table has the numbers of its variables' values
abbrev pub NumbersRight : Fact → Lists → Rows.Row → List (Option Number) → ℕ → Type 0
NumbersRight e L r given f = (v j : ℕ) → v < 4 → AsksFor e r v j → get_or given (12 * f + (3 * v + j)) None ≡ numbered (place (L v) (get_or e.values j 0))

module _ (L : Lists) (given : List (Option Number)) (f : ℕ) where
  -- from the place j on: the table has the numbers of the variables that are left
  abbrev From : ℕ → List Argument → List ℕ → Type 0
  From j gs ys = (v i : ℕ) → v < 4 → get_or gs i (constant 0) ≡ variable v → get_or given (12 * f + (3 * v + (j + i))) None ≡ numbered (place (L v) (get_or ys i 0))

  from_next : (j y : ℕ) (g : Argument) (gs : List Argument) (ys : List ℕ) → From j (g ∷ gs) (y ∷ ys) → From (suc j) gs ys
  from_next j y g gs ys h v i lv e = rw (let z : j + suc i ≡ suc j + i = omega arith in z) at (h v (suc i) lv e)

  from_here : (j y v : ℕ) (gs : List Argument) (ys : List ℕ) → From j (variable v ∷ gs) (y ∷ ys) → v < 4 → number_read given f v j ≡ record { 0 = place (L v) y }
  unfolding number_at
  from_here j y v gs ys h lv = ap (λ (n : Option Number). unwrap_or n (record { 0 = 4294967295 })) (rw (let z : j + 0 ≡ j = omega arith in z) at (h v 0 lv refl))

  place_reads : (gs : List Argument) (ys : List ℕ) (v j : ℕ) → v < 4 → From j gs ys → fits gs ys ≡ true → place_read v j gs given f ≡ place_of L v gs ys
  unfolding place_read place_of names fits
  place_reads [] ys v j lv n q = refl
  place_reads (g ∷ gs) [] v j lv n q = absurd (false_true refl q)
  place_reads (constant c ∷ gs) (y ∷ ys) v j lv n q = place_reads gs ys v (suc j) lv (from_next j y (constant c) gs ys n) (and_true_r (eqb c y) (fits gs ys) q)
  place_reads (variable w ∷ gs) (y ∷ ys) v j lv n q =
      go (eqb w v) (eq_case w v) (place_reads gs ys v (suc j) lv (from_next j y (variable w) gs ys n) (and_true_r (repeats w y gs ys) (fits gs ys) q))
    where
      go : (t : Bool) → EqCase w v t → place_read v (suc j) gs given f ≡ place_of L v gs ys
          → cond t (Some (number_read given f v j)) (place_read v (suc j) gs given f) ≡ cond t (Some (record { 0 = place (L v) y })) (place_of L v gs ys)
      go true (equal z) later = ap (λ (x : Number). Some x) (from_here j y v gs ys (rw z at n) lv)
      go false z later = later

  -- what is read of a fact is what it adds
  pub turn_reads : (e : Fact) (p : ℕ) (gs : List Argument) → NumbersRight e L (atom p gs) given f
      → turn_read (eqb e.predicate p && fits gs e.values) gs given f ≡ turn_of L p gs e
  unfolding turn_read turn_of matches_row arguments_in
  turn_reads e p gs n = go (eqb e.predicate p && fits gs e.values) refl
    where
      go : (t : Bool) → (eqb e.predicate p && fits gs e.values) ≡ t
          → cond t (Some (place_read 0 0 gs given f ∷ place_read 1 0 gs given f ∷ place_read 2 0 gs given f ∷ place_read 3 0 gs given f ∷ [])) None
          ≡ cond t (Some (place_of L 0 gs e.values ∷ place_of L 1 gs e.values ∷ place_of L 2 gs e.values ∷ place_of L 3 gs e.values ∷ [])) None
      go false h = refl
      go true h =
          let start : From 0 gs e.values = λ v i lv q. rw (let z : 0 + i ≡ i = omega arith in z) (n v i lv (record { matches = h; names = q })) in
          let one : (v : ℕ) → v < 4 → place_read v 0 gs given f ≡ place_of L v gs e.values =
          λ v l. place_reads gs e.values v 0 l start (and_true_r (eqb e.predicate p) (fits gs e.values) h) in
          rw (one 0 (omega arith), one 1 (omega arith), one 2 (omega arith), one 3 (omega arith))

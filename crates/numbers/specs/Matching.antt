-- When a row is an atom that matches a fact, and the parts of that. Assumes nothing: these are definitions.
use Rattle.std.specs.Prelude.{ℕ, ◌/◌, ◌≤◌, ◌<◌, ◌≡◌, Bool, true, false, not, ◌&&◌, ◌||◌, List, [], ◌∷◌, map, eqb, length, take}
use Rattle.meaning.specs.declared.Fact.{Fact as Handed}
use Rattle.meaning.specs.declared.Value.{Value}
use Rattle.meaning.specs.Qtl.{Argument, variable, constant, Fact}
use Rattle.meaning.specs.Rows.{Row, truth, atom, both, neg, since, previous, exists, argument_at}
use Rattle.meaning.specs.Numbering.{repeats, fits}

-- "Each atom that matches the event [the fact] (predicate, constants, and equal values where a variable repeats)"
unfoldable pub matches_row : Fact → Row → Bool
matches_row e truth = false
matches_row e (atom p gs) = eqb e.predicate p && fits gs e.values
matches_row e (both l r) = false
matches_row e (neg r) = false
matches_row e (since l r) = false
matches_row e (previous r) = false
matches_row e (exists x r) = false

-- the arguments of a row: only an atom has any
unfoldable pub arguments_in : Row → List Argument
arguments_in truth = []
arguments_in (atom p gs) = gs
arguments_in (both l r) = []
arguments_in (neg r) = []
arguments_in (since l r) = []
arguments_in (previous r) = []
arguments_in (exists x r) = []

-- the first n arguments of the row at place i
unfoldable pub arguments_of : List ℕ → ℕ → ℕ → List Argument
arguments_of raw i n = take n (argument_at raw i 0 ∷ argument_at raw i 1 ∷ argument_at raw i 2 ∷ [])

-- values as plain numbers
abbrev pub bare : List Value → List ℕ
bare ys = map (λ (y : Value). y.0) ys

-- where the argument is the variable v, the value z is y
unfoldable pub same_at : ℕ → ℕ → Argument → ℕ → Bool
same_at v y (variable w) z = not (eqb v w) || eqb y z
same_at v y (constant c) z = true

-- the argument fits the value y, with the later arguments and values behind it
unfoldable pub fits_first : Argument → ℕ → List Argument → List ℕ → Bool
fits_first (variable v) y gs ys = repeats v y gs ys
fits_first (constant c) y gs ys = eqb c y

-- a fact has an array of three values, of which at most three count
pub record Sized (e : Handed) : Type 0 where
  pub few : e.count ≤ 3
  pub three : length e.values ≡ 3

-- the row at place i is one of the slice's, and the fact is sized
pub record Readable (raw : List ℕ) (i : ℕ) (e : Handed) : Type 0 where
  pub inside : i < length raw / 9
  pub sized : Sized e

-- Numbers for values: each variable has its own numbering. Assumes nothing: these are definitions.
use Rattle.std.specs.Prelude.{ℕ, suc, ◌-◌, ◌*◌, ◌/◌, ◌%◌, ◌^◌, ◌≤◌, ◌<◌, ◌≡◌, Bool, true, false, cond, not, ◌&&◌, ◌||◌, List, [], ◌∷◌, ◌++◌, ◌≢◌, eqb, ltb, length, get_or}
use Rattle.trees.specs.Bits.{Bits, number}
use Rattle.meaning.specs.Qtl.{Argument, variable, constant, Fact, Assignment}
use Rattle.meaning.specs.Rows.{Row, truth, atom, both, neg, since, previous, exists}

-- for each variable the values that have a number, in number order: a value's number is its place
abbrev pub Lists : Type 0
Lists = ℕ → List ℕ

-- the place of a value, or the length where it has none
unfoldable pub place : List ℕ → ℕ → ℕ
place [] y = 0
place (x ∷ xs) y = cond (eqb x y) 0 (suc (place xs y))

-- whether a value has a number
unfoldable pub listed : List ℕ → ℕ → Bool
listed xs y = ltb (place xs y) (length xs)

-- "in order of first need": the list with the value at its end, where it has no number yet
unfoldable pub noted : List ℕ → ℕ → List ℕ
noted xs y = cond (listed xs y) xs (xs ++ y ∷ [])

-- variable v asks a number for the value y
unfoldable pub ask : Lists → ℕ → ℕ → Lists
ask L v y w = cond (eqb w v) (noted (L w) y) (L w)

-- the variable v has the value x at each of its later places
unfoldable pub repeats : ℕ → ℕ → List Argument → List ℕ → Bool
repeats v x [] ys = true
repeats v x (g ∷ gs) [] = true
repeats v x (variable w ∷ gs) (y ∷ ys) = (not (eqb v w) || eqb x y) && repeats v x gs ys
repeats v x (constant c ∷ gs) (y ∷ ys) = repeats v x gs ys

-- "constants, and equal values where a variable repeats"
unfoldable pub fits : List Argument → List ℕ → Bool
fits [] [] = true
fits [] (y ∷ ys) = false
fits (g ∷ gs) [] = false
fits (variable v ∷ gs) (y ∷ ys) = repeats v y gs ys && fits gs ys
fits (constant c ∷ gs) (y ∷ ys) = eqb c y && fits gs ys

-- "asks a number for each of its variables' values, in argument order, where that variable has none yet"
unfoldable pub ask_arguments : Lists → List Argument → List ℕ → Lists
ask_arguments L [] ys = L
ask_arguments L (g ∷ gs) [] = L
ask_arguments L (variable v ∷ gs) (y ∷ ys) = ask_arguments (ask L v y) gs ys
ask_arguments L (constant c ∷ gs) (y ∷ ys) = ask_arguments L gs ys

-- "Each atom that matches the event [the fact] (predicate, constants, and equal values where a variable repeats)"
unfoldable pub ask_row : Fact → Lists → Row → Lists
ask_row e L truth = L
ask_row e L (atom p gs) = cond (eqb e.predicate p && fits gs e.values) (ask_arguments L gs e.values) L
ask_row e L (both l r) = L
ask_row e L (neg r) = L
ask_row e L (since l r) = L
ask_row e L (previous r) = L
ask_row e L (exists x r) = L

-- "For an event, walk the rows in order", of one fact
unfoldable pub ask_rows : Fact → Lists → List Row → Lists
ask_rows e L [] = L
ask_rows e L (r ∷ rs) = ask_rows e (ask_row e L r) rs

-- "Numbers are asked fact by fact, rows in order within each."
unfoldable pub ask_facts : List Fact → Lists → List Row → Lists
ask_facts [] L rs = L
ask_facts (e ∷ es) L rs = ask_facts es (ask_rows e L rs) rs

-- no place of the list has the value
abbrev pub Unseen : List ℕ → ℕ → Type 0
Unseen xs x = (j : ℕ) → j < length xs → get_or xs j 0 ≢ x

-- the number n stands for the value x: it is x's place, or, "An unassigned number also stands for an unseen value", no place at all
pub data Stands (xs : List ℕ) (n x : ℕ) : Type 0 where
  known : n < length xs → get_or xs n 0 ≡ x → Stands xs n x
  unseen : length xs ≤ n → Unseen xs x → Stands xs n x

-- the number of a value: its place, or, "2^k − 1 is reserved for all values without a number", the reserved number
unfoldable pub number_of : ℕ → List ℕ → ℕ → ℕ
number_of k xs x = cond (listed xs x) (place xs x) (2 ^ k - 1)

-- "Level of bit b of variable v: v × k + b, bit 0 being the least": the bits that show a number for each variable
unfoldable pub bits_of : ℕ → (ℕ → ℕ) → Bits
bits_of k c l = eqb (c (l / k) / 2 ^ (l % k) % 2) 1

-- the bits of an assignment's numbers
unfoldable pub shown : ℕ → Lists → Assignment → Bits
unfolding bits_of
shown k L a = bits_of k (λ v. number_of k (L v) (a v))

-- the bits show, for each variable, a number that stands for its value: every number that may stand for it counts
abbrev pub Shows : ℕ → Lists → Bits → Assignment → Type 0
Shows k L s a = (v : ℕ) → v < 4 → Stands (L v) (number s (v * k) k) (a v)

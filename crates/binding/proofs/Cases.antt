-- Small chains, computed. Assumes nothing.
use Prim.Native.Nat.{ℕ}
use mathlib.Core.Path.{◌≡◌, refl}
use mathlib.Core.List.{List, [], ◌∷◌}
use lib.ListN.{get_or}
use Rattle.binding.specs.Chain.{Link, negates, removes, other, before, go_on, chain_from, below, chain_of, among, inner}

abbrev reads : List Link → ℕ → Link
reads rows i = get_or rows i other

-- a not of exists 2 of exists 1 of the row 0
two : chain_of (reads (other ∷ removes 1 0 ∷ removes 2 1 ∷ negates 2 ∷ [])) 4 ≡ record { variables = 2 ∷ 1 ∷ []; row = 0 }
unfolding chain_of below chain_from go_on before
two = refl

-- "Other rules get none": no not, and a not of another row than an exists
no_not : (chain_of (reads (other ∷ removes 1 0 ∷ [])) 2).variables ≡ []
unfolding chain_of below
no_not = refl

no_exists : (chain_of (reads (other ∷ negates 0 ∷ [])) 2).variables ≡ []
unfolding chain_of below chain_from go_on
no_exists = refl

-- "Where a chain names a variable twice, the inner one is shown."
twice : inner (0 ∷ 1 ∷ 0 ∷ []) ≡ 1 ∷ 0 ∷ []
unfolding inner among
twice = refl

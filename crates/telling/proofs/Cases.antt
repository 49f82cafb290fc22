-- A set told number by number, computed. Assumes nothing.
use Prim.Native.Nat.{ℕ}
use mathlib.Core.Path.{◌≡◌, refl}
use mathlib.Core.Bool.{Bool, true, false}
use mathlib.Core.List.{List, [], ◌∷◌, map}
use Rattle.trees.specs.Tree.{Tree, off, on, node, same}
use Rattle.telling.specs.Follow.{bit_of, follow, untold}

-- two variables of two bits: the first is 3, and the second is 1 or 2
abbrev pair : Tree
pair = node 0 off (node 1 off (node 2 (node 3 off on) (node 3 on off)))

-- which numbers of the variable at base it does not tell apart from 3
abbrev answers : ℕ → Tree → List Bool
answers base t = map (λ (n : ℕ). untold base 2 n 3 t) (0 ∷ 1 ∷ 2 ∷ 3 ∷ [])

-- of the second variable 0 alone may be freed; of the first none, since the set tells the reserved number itself
pub cases_hold : (answers 2 pair ≡ true ∷ false ∷ false ∷ true ∷ []) × (answers 0 pair ≡ false ∷ false ∷ false ∷ true ∷ [])
unfolding untold follow bit_of same
cases_hold = (refl, refl)

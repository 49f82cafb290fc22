-- Laws of `Every`. Assumes nothing.
use Prim.Native.Nat.{ℕ, zero, suc}
use mathlib.Core.List.{List, [], ◌∷◌, ◌++◌}
use lib.ListN.{set, take}
use Rattle.lines.specs.Format.{Every}

-- what holds of each of two lists holds of the two joined
pub every_append : (P : ℕ → Type 0) (xs ys : List ℕ) → Every P xs → Every P ys → Every P (xs ++ ys)
every_append P [] ys a b = b
every_append P (x ∷ xs) ys a b = (a.0, every_append P xs ys a.1 b)

-- what holds of each number goes on holding after a store
pub every_set : (P : ℕ → Type 0) (ns : List ℕ) (i n : ℕ) → Every P ns → P n → Every P (set ns i n)
every_set P [] i n a b = tt
every_set P (m ∷ ns) zero n a b = (b, a.1)
every_set P (m ∷ ns) (suc i) n a b = (a.0, every_set P ns i n a.1 b)

-- what holds of each number holds of each of the first ones
pub every_take : (P : ℕ → Type 0) (k : ℕ) (ns : List ℕ) → Every P ns → Every P (take k ns)
every_take P zero ns a = tt
every_take P (suc k) [] a = tt
every_take P (suc k) (n ∷ ns) a = (a.0, every_take P k ns a.1)

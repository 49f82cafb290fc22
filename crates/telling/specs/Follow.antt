-- Whether a set tells two numbers of a variable apart: the claim about its function, and the test on its diagram, which follows paths and makes no node.
-- Assumes nothing: these are definitions.
use Rattle.std.specs.Prelude.{ℕ, ◌+◌, ◌-◌, ◌/◌, ◌%◌, ◌^◌, ◌≡◌, Bool, true, not, cond, ◌&&◌, eqb, ltb}
use Rattle.trees.specs.Bits.{Bits, Function}
use Rattle.trees.specs.Tree.{Tree, off, on, node, same}
use Rattle.trees.proofs.BitsLaws.{write}

-- the set says the same with the k bits from base on showing n as with them showing m, "however the other bits are set"
abbrev pub Untold : ℕ → ℕ → ℕ → ℕ → Function → Type 0
Untold base k n m g = (s : Bits) → g (write s base k n) ≡ g (write s base k m)

-- bit j of a number
unfoldable pub bit_of : ℕ → ℕ → Bool
bit_of n j = not (eqb (n / 2 ^ j % 2) 0)

-- of a diagram with levels from base on: the side that n's bits lead to at the k levels from base on
unfoldable pub follow : ℕ → ℕ → ℕ → Tree → Tree
follow base k n off = off
follow base k n on = on
follow base k n (node l a b) = cond (ltb l (base + k)) (cond (bit_of n (l - base)) (follow base k n b) (follow base k n a)) (node l a b)

-- whether n and m lead to the same side wherever the diagram comes to those levels
unfoldable pub untold : ℕ → ℕ → ℕ → ℕ → Tree → Bool
untold base k n m off = true
untold base k n m on = true
untold base k n m (node l a b) = cond (ltb l base) (untold base k n m a && untold base k n m b) (same (follow base k n (node l a b)) (follow base k m (node l a b)))

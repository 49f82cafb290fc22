-- Functions of the bits at the levels. Assumes nothing: these are definitions.
use Rattle.std.specs.Prelude.{ℕ, zero, suc, ◌+◌, ◌*◌, ◌≤◌, ◌<◌, ◌≡◌, Bool, true, false, cond, ◌||◌, eqb, ltb}

-- a bit for each level
abbrev pub Bits : Type 0
Bits = ℕ → Bool

-- whether a set holds of the bits
abbrev pub Function : Type 0
Function = Bits → Bool

-- the same answer for all bits
abbrev pub Same : Function → Function → Type 0
Same f g = (s : Bits) → f s ≡ g s

-- one answer for all bits
abbrev pub Constant : Function → Type 0
Constant f = (x : Bool) × ((s : Bits) → f s ≡ x)

-- the bits with the one at a level replaced
unfoldable pub put : Bits → ℕ → Bool → Bits
put s l x i = cond (eqb i l) x (s i)

-- the bits with those at the first j levels fixed as in a
unfoldable pub fixed : ℕ → Bits → Bits → Bits
fixed j a s i = cond (ltb i j) (a i) (s i)

-- the function asks only levels from lo on and below hi
pub record Asks (lo hi : ℕ) (g : Function) : Type 0 where
  pub only : (s t : Bits) → ((i : ℕ) → lo ≤ i → i < hi → s i ≡ t i) → g s ≡ g t

-- a bit as a number
abbrev pub bit : Bool → ℕ
bit true = 1
bit false = 0

-- the number that n bits show, the least at the level base
unfoldable pub number : Bits → ℕ → ℕ → ℕ
number s base zero = 0
number s base (suc n) = bit (s base) + 2 * number s (suc base) n

-- g with the bit at a level removed: it holds for some bit there
unfoldable pub drop : ℕ → Function → Function
drop l g s = g (put s l false) || g (put s l true)

-- g with the n bits from base on removed one at a time, from the highest down
unfoldable pub drops : ℕ → ℕ → Function → Function
drops base zero g = g
drops base (suc n) g = drops base n (drop (base + n) g)

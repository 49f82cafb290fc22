-- Some bits fixed: for each level the bit that it is fixed to, or none where it is open. Assumes nothing: these are definitions.
use Rattle.std.specs.Prelude.{ℕ, ◌+◌, ◌≤◌, ◌<◌, ◌≡◌, Bool, true, false, not, ◌||◌, Option, Some, None, List, ◌⊎◌, length, get_or, set}
use Rattle.trees.specs.Bits.{Bits, bit, number}
use Rattle.trees.specs.Tree.{Tree, off, on, node, eval}
use Rattle.trees.specs.Table.{at, trees_of}

-- the bits are as fixed
pub record Meets (fs : List (Option Bool)) (s : Bits) : Type 0 where
  pub each : (l : ℕ) (x : Bool) → get_or fs l None ≡ Some x → s l ≡ x

-- the n levels from base on are open
pub record Free (base n : ℕ) (fs : List (Option Bool)) : Type 0 where
  pub each : (l : ℕ) → base ≤ l → l < base + n → get_or fs l None ≡ None

-- of two sides, what one that the bit allows says
unfoldable pub either : Option Bool → Bool → Bool → Bool
either None x y = x || y
either (Some false) x y = x
either (Some true) x y = y

-- whether a tree says yes for some bits as fixed
unfoldable pub can : List (Option Bool) → Tree → Bool
can fs off = false
can fs on = true
can fs (node l a b) = either (get_or fs l None) (can fs a) (can fs b)

-- each reference before r is marked with 1 where its tree can say yes, and with 0 elsewhere
pub record Marks (ns : List ℕ) (kept : ℕ) (fs : List (Option Bool)) (work : List ℕ) (r : ℕ) : Type 0 where
  pub is : (q : ℕ) → q < r → get_or work q 0 ≡ bit (can fs (at (trees_of ns kept) q))

-- the bit at the level l is fixed: to 0 where d can still say yes, and else to 1
pub record Settles (d : Tree) (l : ℕ) (fs fs' : List (Option Bool)) (x : Bool) : Type 0 where
  pub bit_is : x ≡ not (can (set fs l (Some false)) d)
  pub fixed_is : fs' ≡ set fs l (Some x)

-- the n bits from base on, and no others, are now fixed too: they show the least number m for which d can say yes
pub record Fixes (d : Tree) (base n : ℕ) (fs fs' : List (Option Bool)) (m : ℕ) : Type 0 where
  pub size : length fs' ≡ length fs
  pub met : (s : Bits) → Meets fs' s → Meets fs s × (number s base n ≡ m)
  pub meets : (s : Bits) → Meets fs s → number s base n ≡ m → Meets fs' s
  pub can_still : can fs' d ≡ true
  pub least : (t : Bits) → Meets fs t → eval d t ≡ true → m ≤ number t base n
  pub rest : (l : ℕ) → (l < base) ⊎ (base + n ≤ l) → get_or fs' l None ≡ get_or fs l None

-- The number that a pass from the leaves up gives each kept node: whether its diagram is an age diagram, and up to which age.
-- Assumes nothing: these are definitions.
use Rattle.std.specs.Prelude.{ℕ, suc, ◌+◌, ◌-◌, ◌<◌, max, ◌≡◌, ◌≢◌, Option, Some, None, true, cond, List, ltb, get_or}
use Rattle.trees.specs.Tree.{Tree, off, on, node}
use Rattle.trees.specs.Table.{at, trees_of}
use Rattle.ages.specs.Ages.{Age, none, aged, ages_right}
use Rattle.ages.proofs.AgeRead.{read_age}

-- one more than the age; past all ages where there is none
abbrev pub numbered : Age → ℕ
numbered none = 4096
numbered (aged n) = suc n

-- one more than the greatest age that a diagram gives a binding: 0 where it gives no age to any, past all ages where it gives one
-- binding something else than one age
unfoldable pub oldest : ℕ → Tree → ℕ
oldest base off = 0
oldest base on = 4096
oldest base (node l a b) = cond (ltb l base) (max (oldest base a) (oldest base b)) (numbered (read_age base 11 (node l a b)))

-- the mark of a diagram: the same above the ages' levels, and among them what the bits of an age from its own level on show
unfoldable pub mark : ℕ → Tree → ℕ
mark base off = 0
mark base on = 4096
mark base (node l a b) = cond (ltb l base) (max (oldest base a) (oldest base b)) (numbered (read_age l (base + 11 - l) (node l a b)))

-- a number that may be one of these, or none past all ages
abbrev pub Coded : Option ℕ → ℕ → Type 0
Coded (Some n) m = (m ≡ n) × (n ≢ 4096)
Coded None m = m ≡ 4096

-- the first m references are marked
pub record Marked (base : ℕ) (ns : List ℕ) (kept : ℕ) (w : List ℕ) (m : ℕ) : Type 0 where
  pub is : (r : ℕ) → r < m → get_or w r 0 ≡ mark base (at (trees_of ns kept) r)

-- "an age diagram with two ages for a binding, or an age its row can't have": no row has one, of the first count, with ages up to
-- its own greatest
pub record AgesRight (base : ℕ) (ns : List ℕ) (kept : ℕ) (refs tops : List ℕ) (count : ℕ) : Type 0 where
  pub each : (i : ℕ) → i < count → ages_right base (get_or tops i 0) (at (trees_of ns kept) (get_or refs i 0)) ≡ true

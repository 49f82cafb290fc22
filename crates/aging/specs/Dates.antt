-- Limits and ages as the code has them, and references to age diagrams. Assumes nothing: these are definitions.
use Rattle.std.specs.Prelude.{ℕ, ◌+◌, ◌*◌, ◌-◌, ◌^◌, ◌≤◌, ◌<◌, ◌≡◌, true, Option, Some, None, IfSome, List, ◌⊎◌}
use Rattle.trees.specs.Tree.{Tree, off, Fine}
use Rattle.trees.specs.Table.{at, trees_of}
use Rattle.ages.specs.Ages.{Limit, within, longer, Age, none, aged, top_age, ages_right}
use Rattle.ages.proofs.AgeWalk.{chain, shown_t}
use Rattle.aging.specs.declared.Bound.{Bound}
use Rattle.aging.specs.declared.Bound.TheVariants.{Within, Longer}

-- the time limit of a row: at most d, more than d
abbrev pub limit_of : Bound → Limit
limit_of (Within d) = within d
limit_of (Longer d) = longer d

-- d is from 0 to 1,023, so that every age of the row has 11 bits
abbrev pub Short : Bound → Type 0
Short b = top_age (limit_of b) ≤ 1024

-- an age as the code has it
unfoldable pub age_of : Option ℕ → Age
age_of None = none
age_of (Some n) = aged n

-- the diagram shows m bits of an age, from the level l on
pub record Chain (l m : ℕ) (d : Tree) : Type 0 where
  pub age : ℕ
  pub small : age < 2 ^ m
  pub is : d ≡ chain l m age

-- what stands under the bindings' levels: no, or one age
abbrev pub Under : ℕ → Tree → Type 0
Under k d = (d ≡ off) ⊎ Chain (4 * k) 11 d

-- the number n is the one that they show
pub record ReadBits (l m : ℕ) (d : Tree) (n : ℕ) : Type 0 where
  pub small : n < 2 ^ m
  pub is : d ≡ chain l m n

-- what the diagram shows under the bindings' levels is an age, or none, and x is that age
pub record ReadAge (k : ℕ) (d : Tree) (x : Option ℕ) : Type 0 where
  pub small : IfSome x (λ n. n < 2 ^ 11)
  pub is : d ≡ shown_t k (age_of x)

-- p leads to an age diagram that passes the test of refusal 4 for a row with ages up to top, and asks only the last `left` of the
-- bindings' levels, and the ages'
pub record Dated (ns : List ℕ) (n k left top p : ℕ) : Type 0 where
  pub below : p < n + 2
  pub fine : Fine (4 * k - left) (4 * k + 11) (at (trees_of ns n) p)
  pub right : ages_right (4 * k) top (at (trees_of ns n) p) ≡ true

-- p leads to a diagram over the bindings' levels
pub record Plain (ns : List ℕ) (n k p : ℕ) : Type 0 where
  pub below : p < n + 2
  pub fine : Fine 0 (4 * k) (at (trees_of ns n) p)

-- p leads to an age diagram that passes the test of refusal 4 for a row with ages up to top
pub record Ageing (ns : List ℕ) (n k top p : ℕ) : Type 0 where
  pub below : p < n + 2
  pub fine : Fine 0 (4 * k + 11) (at (trees_of ns n) p)
  pub right : ages_right (4 * k) top (at (trees_of ns n) p) ≡ true

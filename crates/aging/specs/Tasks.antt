-- What the walk is to make, and what the references alone tell of it. Assumes nothing: these are definitions.
use Rattle.std.specs.Prelude.{ℕ, ◌≡◌}
use Rattle.trees.specs.Tree.{Tree}
use Rattle.ages.specs.Ages.{age_t, ripe_t}
use Rattle.aging.specs.declared.Bound.{Bound}
use Rattle.aging.specs.declared.Bound.TheVariants.{Within}
use Rattle.aging.specs.declared.Task.{Task}
use Rattle.aging.specs.declared.Task.TheVariants.{Ages, Ripe}
use Rattle.aging.specs.Dates.{limit_of}

-- the time limit of the row
abbrev pub bound_of : Task → Bound
bound_of (Ages b t) = b
bound_of (Ripe b) = b

-- the result of a task: the age diagram after a step of t, of left, right and old ages together; where the ages are ripe
unfoldable pub does : ℕ → Task → Tree → Tree → Tree → Tree
does k (Ages b t) l r o = age_t k (limit_of b) t l r o
does k (Ripe b) l r o = ripe_t k (limit_of b) o

-- the three references as they are, or no for the left side and the old ages, where they do not matter to the new ages
pub data Eased (task : Task) (l r o : ℕ) : ℕ → ℕ → ℕ → Type 0 where
  as_is : Eased task l r o l r o
  no_left : (b : Bound) (t : ℕ) → task ≡ Ages b t → l ≡ 0 → Eased task l r o 0 r 0
  right_now : (d t : ℕ) → task ≡ Ages (Within d) t → r ≡ 1 → Eased task l r o 0 r 0

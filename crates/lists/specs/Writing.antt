-- What it is to write an event's fresh values into the value slice. Assumes nothing: these are definitions.
use Rattle.std.specs.Prelude.{ℕ, zero, suc, ◌+◌, ◌*◌, ◌≤◌, ◌<◌, ◌≡◌, List, Option, Some, None, length, get_or, set}
use Rattle.meaning.specs.Tables.{most, list_of, lay_values}
use Rattle.numbers.specs.declared.Asked.{Asked}
use Rattle.numbers.specs.Asking.{with_counts}

-- the lowest variable that is short, or 4 where none is
unfoldable pub lowest : Option ℕ → ℕ
lowest None = 4
lowest (Some v) = v

-- what `write_fresh` may assume
pub record Writable (k : ℕ) (before : List ℕ) (a : Asked) (values : List ℕ) : Type 0 where
  pub bits : k ≤ 10
  pub parts : length values ≡ 4 * most k
  pub laid : lay_values k (list_of k (with_counts before) values) ≡ values
  pub grown : (v : ℕ) → v < 4 → get_or before v 0 ≤ get_or a.counts v 0
  pub few : (v : ℕ) → v < 4 → get_or a.counts v 0 ≤ get_or before v 0 + 24
  pub room : (v : ℕ) → v < 4 → get_or a.counts v 0 ≤ most k

-- the value slice with the first j fresh values of the variable v written behind its b values, where the parts have m numbers
unfoldable pub written : ℕ → ℕ → List ℕ → ℕ → ℕ → List ℕ → List ℕ
written m b fresh v zero values = values
written m b fresh v (suc j) values = set (written m b fresh v j values) (v * m + b + j) (get_or fresh (24 * v + j) 0)

-- what is known where the fresh values of the variable v are written: it had b values, and now has n
pub record WritableAt (m b n : ℕ) (values : List ℕ) (v : ℕ) : Type 0 where
  pub small : m ≤ 1023
  pub variable : v < 4
  pub parts : length values ≡ 4 * m
  pub grown : b ≤ n
  pub few : n ≤ b + 24
  pub room : n ≤ m

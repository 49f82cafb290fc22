-- What is asked of the references whose sizes are found. Assumes nothing: these are definitions.
use Rattle.std.specs.Prelude.{ℕ, ◌+◌, ◌≤◌, ◌<◌, ◌≡◌, List, length, get_or}

-- the first count of 64 references lead to kept nodes or leaves
pub record Leading (refs : List ℕ) (count kept : ℕ) : Type 0 where
  pub few : count ≤ 64
  pub wide : length refs ≡ 64
  pub inside : (i : ℕ) → i < count → get_or refs i 0 < kept + 2

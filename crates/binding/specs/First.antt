-- Document 02, "Which lot broke it?": the first binding, "in order of numbers, the outermost variable first". Assumes nothing: these
-- are definitions.
use Rattle.std.specs.Prelude.{ℕ, ◌*◌, ◌≤◌, ◌<◌, ◌≡◌, true, List, ◌≢◌, get_or}
use Rattle.trees.specs.Bits.{Bits, Function, number}

-- an order of different variables, the outermost first
pub record Order (vs : List ℕ) (count : ℕ) : Type 0 where
  pub few : (i : ℕ) → i < count → get_or vs i 0 < 4
  pub differ : (i j : ℕ) → i < count → j < i → get_or vs i 0 ≢ get_or vs j 0

-- the number that the bits show for the variable at place i of the order: variable v has the k bits from the level v * k on
unfoldable pub shown : ℕ → List ℕ → Bits → ℕ → ℕ
shown k vs s i = number s (get_or vs i 0 * k) k

-- the bits show the first n of the numbers
pub record Shows (k : ℕ) (vs ms : List ℕ) (n : ℕ) (s : Bits) : Type 0 where
  pub each : (i : ℕ) → i < n → shown k vs s i ≡ get_or ms i 0

-- ms is the first binding of the first count variables for which g holds, for some setting of the other bits: it is one, and at
-- each place no smaller number will do after the numbers before it
pub record First (k : ℕ) (g : Function) (vs : List ℕ) (count : ℕ) (ms : List ℕ) : Type 0 where
  pub some : (s : Bits) × Shows k vs ms count s × (g s ≡ true)
  pub least : (i : ℕ) → i < count → (t : Bits) → Shows k vs ms i t → g t ≡ true → get_or ms i 0 ≤ shown k vs t i

-- One pass over the kept nodes that finds sizes: each node has a word, the rows whose diagrams it belongs to. Assumes nothing: these are definitions.
use Rattle.std.specs.Prelude.{ℕ, zero, suc, ◌+◌, ◌*◌, ◌/◌, ◌%◌, ◌≤◌, ◌<◌, ◌≡◌, Bool, false, ◌||◌, List, eqb, length, get_or, set}
use Rattle.trees.specs.Bits.{bit}
use Rattle.trees.specs.Table.{at, trees_of}
use Rattle.trees.specs.Sizes.{node_count}
use Rattle.visits.proofs.CountLaws.{count_below}

-- a word of rows: whether row i is in it
abbrev pub Word : Type 0
Word = ℕ → Bool

abbrev pub none : Word
none i = false

abbrev pub only : ℕ → Word
only k i = eqb i k

-- bit i of a number, the least first
unfoldable pub has_bit : ℕ → Word
has_bit n zero = eqb (n % 2) 1
has_bit n (suc i) = has_bit (n / 2) i

-- the word that a number is, its least bit being the row base
unfoldable pub has_row : ℕ → ℕ → Word
has_row zero n i = has_bit n i
has_row (suc base) n zero = false
has_row (suc base) n (suc i) = has_row base n i

-- the rows w joined to the word of the node that a reference leads to
unfoldable pub give : List Word → ℕ → Word → List Word
give ws zero w = ws
give ws (suc zero) w = ws
give ws (suc (suc j)) w = set ws j (λ i. get_or ws j none i || w i)

-- the n rows from base on, each given to the node that it refers to
unfoldable pub given : List Word → List ℕ → ℕ → ℕ → List Word
given ws refs base zero = ws
given ws refs base (suc n) = give (given ws refs base n) (get_or refs (base + n) 0) (only (base + n))

-- the node at place j gives its word to both its sides
unfoldable pub sides : List ℕ → ℕ → List Word → List Word
sides ns j ws = give (give ws (get_or ns (3 * j + 1) 0) (get_or ws j none)) (get_or ns (3 * j + 2) 0) (get_or ws j none)

-- the first n nodes do so, the last of them first: children stand before parents
unfoldable pub down : List ℕ → ℕ → List Word → List Word
down ns zero ws = ws
down ns (suc j) ws = down ns j (sides ns j ws)

-- how many of the first n nodes have row i after the pass over them
unfoldable pub marked : List ℕ → ℕ → List Word → ℕ → ℕ
marked ns n ws i = count_below n (λ j. get_or (down ns n ws) j none i)

-- the sizes of the rows in w are one more
pub record Counts (w : Word) (xs ys : List ℕ) : Type 0 where
  pub size : length ys ≡ length xs
  pub each : (i : ℕ) → i < length xs → get_or ys i 0 ≡ get_or xs i 0 + bit (w i)

-- the size of each row is more by the nodes that have it after the pass over all of them
pub record Pushed (ns : List ℕ) (kept : ℕ) (ws : List Word) (xs ys : List ℕ) : Type 0 where
  pub size : length ys ≡ length xs
  pub each : (i : ℕ) → i < length xs → get_or ys i 0 ≡ get_or xs i 0 + marked ns kept ws i

-- the sizes of the n rows from base on are more by the counts of their diagrams' different nodes, and the others as they were
pub record Sized (ns : List ℕ) (kept : ℕ) (refs : List ℕ) (base n : ℕ) (xs ys : List ℕ) : Type 0 where
  pub size : length ys ≡ length xs
  pub each : (t : ℕ) → t < n → get_or ys (base + t) 0 ≡ get_or xs (base + t) 0 + node_count (at (trees_of ns kept) (get_or refs (base + t) 0))
  pub before : (i : ℕ) → i < base → get_or ys i 0 ≡ get_or xs i 0
  pub after : (i : ℕ) → base + n ≤ i → get_or ys i 0 ≡ get_or xs i 0

-- Document 02: "Where the last row is a not of a chain of exists rows". Which rows these are, and what they say together. Assumes
-- nothing: these are definitions.
use Rattle.std.specs.Prelude.{ℕ, zero, suc, ◌*◌, ◌-◌, Bool, false, cond, ◌||◌, List, [], ◌∷◌, eqb}
use Rattle.trees.specs.Bits.{Function, drops}

-- what a row is to a chain: a not of a row, an exists of a variable over a row, or anything else
pub data Link : Type 0 where
  negates : ℕ → Link
  removes : ℕ → ℕ → Link
  other : Link

-- a chain: its variables, the outermost first, and its inner row
pub record Chain : Type 0 where
  pub variables : List ℕ
  pub row : ℕ

-- one exists row before a chain
unfoldable pub before : ℕ → Chain → Chain
before v c = record { variables = v ∷ c.variables; row = c.row }

-- the chain from the row i on, as long as it goes: link j tells what the row j is, and n is more than the rows that it may have
unfoldable pub go_on : Link → (ℕ → Chain) → ℕ → Chain
go_on (removes v r) rest i = before v (rest r)
go_on (negates r) rest i = record { variables = []; row = i }
go_on other rest i = record { variables = []; row = i }

unfoldable pub chain_from : (ℕ → Link) → ℕ → ℕ → Chain
chain_from link zero i = record { variables = []; row = i }
chain_from link (suc n) i = go_on (link i) (chain_from link n) i

-- the chain below the last row: without variables where that is no not, or a not of another row than an exists
unfoldable pub below : Link → (ℕ → Chain) → Chain
below (negates r) rest = rest r
below (removes v r) rest = record { variables = []; row = 0 }
below other rest = record { variables = []; row = 0 }

-- the chain of a rule of so many rows
unfoldable pub chain_of : (ℕ → Link) → ℕ → Chain
chain_of link count = below (link (count - 1)) (chain_from link count)

-- what a chain over g says, k bits a variable
unfoldable pub chained : ℕ → List ℕ → Function → Function
chained k [] g = g
chained k (v ∷ vs) g = drops (v * k) k (chained k vs g)

-- whether a variable is among some
unfoldable pub among : ℕ → List ℕ → Bool
among v [] = false
among v (u ∷ us) = eqb v u || among v us

-- "Where a chain names a variable twice, the inner one is shown": each variable at its inner place only
unfoldable pub inner : List ℕ → List ℕ
inner [] = []
inner (v ∷ vs) = cond (among v vs) (inner vs) (v ∷ inner vs)

-- What the canonical sweep keeps, leaves and counts. Assumes nothing: these are definitions.
use Rattle.std.specs.Prelude.{ℕ, ◌+◌, ◌*◌, ◌-◌, ◌/◌, ◌≤◌, ◌<◌, ◌≡◌, Option, Some, None, List, [], ◌++◌, length, get_or, take, drop, replicate}
use Rattle.trees.specs.Tree.{Fine}
use Rattle.trees.specs.Table.{at, ref_of, show, trees_of, Ref}
use Rattle.nodes.specs.Nodes.{Table, Rest, Grown, canonical}
use Rattle.visits.specs.Visits.{Swept, sweep, sweeps, Refines}
use Rattle.sweeping.specs.declared.Swept.{Swept as Found}

-- r leads to a reduced ordered diagram of the first m nodes, over the last `left` levels, or fewer
pub record Ordered (ns : List ℕ) (m left r : ℕ) : Type 0 where
  pub below : r < m + 2
  pub lo : ℕ
  pub hi : ℕ
  pub fine : Fine lo hi (at (trees_of ns m) r)
  pub deep : hi ≤ lo + left

-- the first 3 * c numbers of w hold a table of n nodes, and behind it stands, for each of the first m nodes of ns, 0 or one
-- more than the reference of its tree in the table; every tree of the table has such a note
pub record Noted (ns : List ℕ) (m : ℕ) (w : List ℕ) (c n : ℕ) : Type 0 where
  pub source : Table ns m
  pub size : length ns ≡ 3 * c
  pub room : 4 * c ≤ length w
  pub table : Table (take (3 * c) w) n
  pub right : (i : ℕ) → i < m → 0 < get_or w (3 * c + i) 0 → Ref (trees_of (take (3 * c) w) n) (get_or w (3 * c + i) 0 - 1) (at (trees_of ns m) (i + 2))
  pub each : (p : ℕ) → p < n → (i : ℕ) × (i < m) × (get_or w (3 * c + i) 0 ≡ p + 3)

-- the notes of the first m nodes
abbrev pub notes_of : ℕ → ℕ → List ℕ → List ℕ
notes_of m c w = take m (drop (3 * c) w)

-- the diagram of p was added to the table, r is its reference there, and nothing behind the notes has changed; table, notes,
-- reference and the v visits are those of the definition, whatever levels p's diagram is taken to have
pub record Emitted (ns : List ℕ) (m p : ℕ) (w w' : List ℕ) (c n n' r v : ℕ) : Type 0 where
  pub grown : Grown (take (3 * c) w) (take (3 * c) w') n n' r (at (trees_of ns m) p)
  pub notes : Noted ns m w' c n'
  pub rest : Rest (4 * c) w w'
  pub counted : (lo hi left : ℕ) → Fine lo hi (at (trees_of ns m) p) → hi ≤ lo + left
      → Refines (sweep ns left (trees_of (take (3 * c) w) n) (notes_of m c w) p) (trees_of (take (3 * c) w') n') (notes_of m c w') r v

-- a visit of r that goes no further added nothing; where there is none, r is a node without a note
abbrev pub Known : List ℕ → ℕ → List ℕ → ℕ → ℕ → ℕ → Option Found → Type 0
Known ns m w c n r (Some s) = Emitted ns m r w w c n s.count s.reference s.visits
Known ns m w c n r None = (2 ≤ r) × (get_or w (3 * c + (r - 2)) 0 ≡ 0)

-- 64 numbers that wait for the references of the first `count` rows: 0 past them
pub record Awaits (count : ℕ) (out : List ℕ) : Type 0 where
  pub wide : length out ≡ 64
  pub none : (i : ℕ) → count ≤ i → get_or out i 0 ≡ 0

-- the new references: each diagram's in the canonical table, and 0 past the rows
pub record References (ns : List ℕ) (m : ℕ) (refs : List ℕ) (count : ℕ) (refs' : List ℕ) : Type 0 where
  pub wide : length refs' ≡ 64
  pub is : (i : ℕ) → i < count → get_or refs' i 0 ≡ ref_of (canonical ns m refs count) (at (trees_of ns m) (get_or refs i 0))
  pub none : (i : ℕ) → count ≤ i → get_or refs' i 0 ≡ 0

-- the sweep of the diagrams of the first count references, as it is defined: into an empty table, with no notes
abbrev pub sweep_of : List ℕ → ℕ → ℕ → List ℕ → ℕ → Swept
sweep_of ns m levels refs count = sweeps ns levels [] (replicate m 0) (take count refs)

-- the canonical table stands in the first numbers of w', nothing behind the notes has changed, and the references and the v
-- visits are those of the definition
pub record Copied (ns : List ℕ) (m levels : ℕ) (refs : List ℕ) (count : ℕ) (w w' : List ℕ) (c kept : ℕ) (refs' : List ℕ) (v : ℕ) : Type 0 where
  pub size : kept ≡ length (canonical ns m refs count)
  pub fits : kept ≤ c
  pub numbers : take (3 * kept) w' ≡ show (canonical ns m refs count) (canonical ns m refs count)
  pub references : References ns m refs count refs'
  pub rest : Rest (4 * c) w w'
  pub answers : (sweep_of ns m levels refs count).answers ≡ take count refs'
  pub visits : (sweep_of ns m levels refs count).visits ≡ v

-- the nodes are the canonical table and zeros behind it, and the references and the v visits are those of the definition
pub record Renewal (ns : List ℕ) (m levels : ℕ) (refs : List ℕ) (count : ℕ) (w ns' w' : List ℕ) (kept : ℕ) (refs' : List ℕ) (v : ℕ) : Type 0 where
  pub size : kept ≡ length (canonical ns m refs count)
  pub numbers : ns' ≡ show (canonical ns m refs count) (canonical ns m refs count) ++ replicate (length ns - 3 * length (canonical ns m refs count)) 0
  pub references : References ns m refs count refs'
  pub rest : Rest (4 * (length ns / 3)) w w'
  pub answers : (sweep_of ns m levels refs count).answers ≡ take count refs'
  pub visits : (sweep_of ns m levels refs count).visits ≡ v

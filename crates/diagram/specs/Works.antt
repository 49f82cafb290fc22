-- How the rows of a plan are worked in the node slice and the work slice. Assumes nothing: these are definitions.
use Rattle.std.specs.Prelude.{ℕ, ◌+◌, ◌*◌, ◌/◌, ◌≤◌, ◌<◌, ◌≡◌, Bool, true, false, Option, Some, None, List, map, length, get_or, replicate}
use Rattle.trees.specs.Bits.{Function}
use Rattle.trees.specs.Tree.{Tree, off, eval, Fine, tree_of}
use Rattle.trees.specs.Table.{add_trees, at, trees_of}
use Rattle.making.specs.declared.Number.{Number}
use Rattle.making.specs.declared.Made.{Made}
use Rattle.walks.specs.declared.Seen.{Seen}
use Rattle.diagram.specs.declared.Instruction.{Instruction}
use Rattle.diagram.specs.declared.Instruction.TheVariants.{Yes, And, Not, Since, Old, Drop}
use Rattle.trees.specs.Sizes.{node_count}
use Rattle.visits.specs.Visits.{complement, Refines}
use Rattle.nodes.specs.Nodes.{Table, Front, Rest, To}
use Rattle.making.specs.Cubes.{Over, SameShape}
use Rattle.walks.specs.Walks.{Within}
use Rattle.walks.specs.Desks.{Desk, Remembered}
use Rattle.walks.specs.Complements.{Counted, map_of}
use Rattle.diagram.specs.Steps.{Turn, Task, facts, does, task_says, task_stages, new_trees, stages}
use Rattle.diagram.specs.Counts.{counting, ceiling}

-- the numbers that a step can work with
pub record Fits (k count nodes work : ℕ) : Type 0 where
  pub least : 1 ≤ k
  pub most : k ≤ 10
  pub some : 1 ≤ count
  pub few : count ≤ 64
  pub whole : nodes ≡ 3 * (nodes / 3)
  pub one : 1 ≤ nodes / 3
  pub small : nodes / 3 ≤ 4096
  pub room : 16 * (nodes / 3) + 1024 ≤ work

-- each of 64 references leads to a diagram over the levels
pub record Leads (ns : List ℕ) (n levels : ℕ) (refs : List ℕ) : Type 0 where
  pub wide : length refs ≡ 64
  pub each : (a : ℕ) → Within ns n levels levels (get_or refs a 0)

-- what the check of well kept diagrams gives: a table of reduced ordered diagrams, zeros behind it
pub record Ready (k count : ℕ) (refs : List ℕ) (kept : ℕ) (ns : List ℕ) : Type 0 where
  pub table : Table ns kept
  pub leads : Leads ns kept (4 * k) refs
  pub none : (a : ℕ) → count ≤ a → get_or refs a 0 ≡ 0
  pub rest : (i : ℕ) → 3 * kept ≤ i → get_or ns i 0 ≡ 0

-- the functions that references lead to
unfoldable pub led : List ℕ → ℕ → List ℕ → ℕ → Function
led ns n refs a = eval (at (trees_of ns n) (get_or refs a 0))

-- the level of bit 0 of the variable v: past all levels for a v past the four variables
pub record Base (k v base : ℕ) : Type 0 where
  pub near : v < 4 → base ≡ v * k
  pub far : 4 ≤ v → base ≡ 4 * k
  pub small : base ≤ 4 * k

-- the diagram can take the turn: it is one over the variables that the turn gives numbers to
abbrev pub TurnOver : ℕ → Turn → Tree → Type 0
TurnOver k None t = Fine 0 (4 * k) t
TurnOver k (Some places) t = Over k places t

-- the turn gives numbers to the same variables as these places
abbrev pub Shaped : List (Option Number) → Turn → Type 0
Shaped ps None = Unit {0}
Shaped ps (Some places) = SameShape ps places

-- the trees of the functions gs were added in order, and r leads to the tree of f
pub record Reached (levels : ℕ) (ns ns' : List ℕ) (n n' r : ℕ) (gs : List Function) (f : Function) : Type 0 where
  pub size : length ns' ≡ length ns
  pub trees : trees_of ns' n' ≡ add_trees (trees_of ns n) (map (tree_of levels) gs)
  pub ref : To ns' n' r (tree_of levels f)
  pub same : Front (3 * n) ns ns'
  pub rest : Rest (3 * n') ns ns'

-- there is no room for them all
pub record Short (levels : ℕ) (ns ns' : List ℕ) (n : ℕ) (gs : List Function) : Type 0 where
  pub over : length ns < 3 * length (add_trees (trees_of ns n) (map (tree_of levels) gs))
  pub size : length ns' ≡ length ns
  pub same : Front (3 * n) ns ns'

-- walks that meet the functions gs and end with f, and touch no map, left ns' and w' and said m
abbrev pub Worked : ℕ → List ℕ → List ℕ → ℕ → List Function → Function → List ℕ → List ℕ → ℕ → ℕ → Option Made → Type 0
Worked levels ns ns' n gs f w w' c slots None = Short levels ns ns' n gs
Worked levels ns ns' n gs f w w' c slots (Some m) = Reached levels ns ns' n m.count m.reference gs f × Remembered w ns' m.count levels w' c slots

-- an answer without visits
abbrev pub plainly : Option Made → Option Counted
plainly None = None
plainly (Some m) = Some (record { count = m.count; reference = m.reference; visits = 0 })

-- the same of a reference
abbrev pub quietly : Option ℕ → Option Seen
quietly None = None
quietly (Some r) = Some (record { reference = r; visits = 0 })

-- no complement was walked
pub record Plain (w w' : List ℕ) (c v : ℕ) : Type 0 where
  pub map : map_of c w' ≡ map_of c w
  pub none : v ≡ 0

-- the complement of p's diagram was walked
pub record Walked (levels : ℕ) (ns ns' : List ℕ) (n n' p r : ℕ) (w w' : List ℕ) (c v : ℕ) : Type 0 where
  pub refines : Refines (complement ns levels (trees_of ns n) (map_of c w) p) (trees_of ns' n') (map_of c w') r v
  pub most : v ≤ 2 * node_count (at (trees_of ns n) p) + 1
  pub fits : v ≤ 8193

-- what the work on a row with an instruction leaves of the map, and its visits
abbrev pub Tolled : ℕ → List ℕ → List ℕ → ℕ → ℕ → ℕ → List ℕ → List ℕ → List ℕ → ℕ → ℕ → Instruction → Type 0
Tolled levels ns ns' n n' r news w w' c v Yes = Plain w w' c v
Tolled levels ns ns' n n' r news w w' c v (And a b) = Plain w w' c v
Tolled levels ns ns' n n' r news w w' c v (Not a) = Walked levels ns ns' n n' (get_or news a 0) r w w' c v
Tolled levels ns ns' n n' r news w w' c v (Since a b) = Plain w w' c v
Tolled levels ns ns' n n' r news w w' c v (Old a) = Plain w w' c v
Tolled levels ns ns' n n' r news w w' c v (Drop x a) = Plain w w' c v

-- and with a task: an atom walks no complement
abbrev pub TolledBy : ℕ → List ℕ → List ℕ → ℕ → ℕ → ℕ → List ℕ → List ℕ → List ℕ → ℕ → ℕ → Task → Type 0
TolledBy levels ns ns' n n' r news w w' c v (facts ts) = Plain w w' c v
TolledBy levels ns ns' n n' r news w w' c v (does x) = Tolled levels ns ns' n n' r news w w' c v x

-- the work on row i, whose task is x, left ns' and w' and said m
abbrev pub RowDone : ℕ → List ℕ → List ℕ → ℕ → List ℕ → List ℕ → ℕ → Task → List ℕ → List ℕ → ℕ → ℕ → Option Counted → Type 0
RowDone k ns ns' n olds news i x w w' c slots None = Short (4 * k) ns ns' n (task_stages k (led ns n olds) (led ns n news) i x)
RowDone k ns ns' n olds news i x w w' c slots (Some m) =
    Reached (4 * k) ns ns' n m.count m.reference (task_stages k (led ns n olds) (led ns n news) i x) (task_says k (led ns n olds) (led ns n news) i x)
    × Desk ns' m.count (4 * k) w' c slots
    × TolledBy (4 * k) ns ns' n m.count m.reference news w w' c m.visits x

-- the references lead to these diagrams, and to no past them
abbrev pub Are : List ℕ → ℕ → List ℕ → List Tree → Type 0
Are ns n refs ds = (a : ℕ) → at (trees_of ns n) (get_or refs a 0) ≡ get_or ds a off

-- before the first row: zeros behind the nodes, and an empty map
pub record Fresh (ns : List ℕ) (n : ℕ) (w : List ℕ) (c : ℕ) : Type 0 where
  pub behind : (j : ℕ) → 3 * n ≤ j → get_or ns j 0 ≡ 0
  pub map : map_of c w ≡ replicate c 0

-- the visits v of the first i rows are those of the definition, as are the table and the map that they leave
pub record Tallied (size k : ℕ) (plan : List Task) (old ts : List Tree) (i : ℕ) (us : List Tree) (noted : List ℕ) (v : ℕ) : Type 0 where
  pub table : (counting size k plan old ts i).table ≡ us
  pub notes : (counting size k plan old ts i).notes ≡ noted
  pub visits : (counting size k plan old ts i).visits ≡ v
  pub most : v ≤ ceiling k plan old i
  pub small : v ≤ 8193 * i

-- the first i rows are worked: the table has the diagrams of the functions met, and the references lead to the new diagrams
pub record Through (k : ℕ) (plan : List Task) (old : List Tree) (ns₀ : List ℕ) (kept : ℕ) (ns : List ℕ) (n : ℕ) (w : List ℕ) (c slots : ℕ) (olds news : List ℕ) (i v : ℕ) : Type 0 where
  pub desk : Desk ns n (4 * k) w c slots
  pub size : length ns ≡ length ns₀
  pub same : Front (3 * kept) ns₀ ns
  pub behind : (j : ℕ) → 3 * n ≤ j → get_or ns j 0 ≡ 0
  pub trees : trees_of ns n ≡ add_trees (trees_of ns₀ kept) (map (tree_of (4 * k)) (stages k plan old i))
  pub old_lead : Leads ns n (4 * k) olds
  pub old_are : Are ns n olds old
  pub new_lead : Leads ns n (4 * k) news
  pub new_are : Are ns n news (new_trees k plan old i)
  pub none : (a : ℕ) → i ≤ a → get_or news a 0 ≡ 0
  pub tally : Tallied (length ns₀) k plan old (trees_of ns₀ kept) i (trees_of ns n) (map_of c w) v

-- what the work on all rows says: no room, or all worked with v visits
abbrev pub Ran : ℕ → List Task → List Tree → List ℕ → ℕ → List ℕ → List ℕ → ℕ → ℕ → List ℕ → ℕ → Bool → ℕ → List ℕ → ℕ → Type 0
Ran k plan old ns₀ kept ns w c slots olds count true n news v = Short (4 * k) ns₀ ns kept (stages k plan old count)
Ran k plan old ns₀ kept ns w c slots olds count false n news v = Through k plan old ns₀ kept ns n w c slots olds news count v

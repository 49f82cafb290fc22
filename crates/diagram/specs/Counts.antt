-- The visits of an event: of its complements, one row after the other, and of the sweep that ends it. Assumes nothing: these
-- are definitions.
use Rattle.std.specs.Prelude.{ℕ, zero, suc, ◌+◌, ◌*◌, ◌-◌, ◌/◌, ◌≤◌, ◌≡◌, Ok, Err, List, [], ◌++◌, map, length, get_or, replicate}
use Rattle.trees.specs.Bits.{Function}
use Rattle.trees.specs.Tree.{Tree, off, tree_of}
use Rattle.trees.specs.Table.{add_trees, ref_of, show, trees_of}
use Rattle.trees.specs.Kept.{diagrams}
use Rattle.trees.specs.Sizes.{node_count}
use Rattle.visits.specs.Visits.{complement, sweeps}
use Rattle.diagram.specs.declared.Instruction.{Instruction}
use Rattle.diagram.specs.declared.Instruction.TheVariants.{Yes, And, Not, Since, Old, Drop}
use Rattle.diagram.specs.declared.Refused.TheVariants.{Unfit, Bad, Full}
use Rattle.diagram.specs.Steps.{Told, Task, facts, does, says, stages_of, task_stages, new_trees, work_table}

-- the node slice of `size` numbers that holds a table, zeros behind it
abbrev pub holding : ℕ → List Tree → List ℕ
holding size T = show T T ++ replicate (size - 3 * length T) 0

-- the work on some rows, as it is counted: the table, the map of complements, and the visits of all complements
pub record Counting : Type 0 where
  pub table : List Tree
  pub notes : List ℕ
  pub visits : ℕ

-- a row that is no complement adds the diagrams of the functions that it meets
abbrev pub meets : ℕ → List Function → Counting → Counting
meets levels gs s = record { table = add_trees s.table (map (tree_of levels) gs); notes = s.notes; visits = s.visits }

-- a complement is walked from the reference of the diagram d
abbrev pub walked : ℕ → ℕ → Tree → Counting → Counting
walked size levels d s =
    let w = complement (holding size s.table) levels s.table s.notes (ref_of s.table d) in
    record { table = w.table; notes = w.notes; visits = s.visits + w.visits }

-- the work on row i, by its instruction ..
unfoldable pub count_row : ℕ → ℕ → List Tree → List Tree → ℕ → Instruction → Counting → Counting
count_row size k old now i Yes = meets (4 * k) (stages_of k (says old) (says now) i Yes)
count_row size k old now i (And a b) = meets (4 * k) (stages_of k (says old) (says now) i (And a b))
count_row size k old now i (Not a) = walked size (4 * k) (get_or now a off)
count_row size k old now i (Since l r) = meets (4 * k) (stages_of k (says old) (says now) i (Since l r))
count_row size k old now i (Old a) = meets (4 * k) (stages_of k (says old) (says now) i (Old a))
count_row size k old now i (Drop v a) = meets (4 * k) (stages_of k (says old) (says now) i (Drop v a))

-- .. and by its task
unfoldable pub count_task : ℕ → ℕ → List Tree → List Tree → ℕ → Task → Counting → Counting
count_task size k old now i (facts ts) = meets (4 * k) (task_stages k (says old) (says now) i (facts ts))
count_task size k old now i (does x) = count_row size k old now i x

-- the work on the first n rows, from the kept nodes and an empty map on
unfoldable pub counting : ℕ → ℕ → List Task → List Tree → List Tree → ℕ → Counting
counting size k plan old ts zero = record { table = ts; notes = replicate (size / 3) 0; visits = 0 }
counting size k plan old ts (suc i) = count_task size k old (new_trees k plan old i) i (get_or plan i (does Yes)) (counting size k plan old ts i)

-- the ceiling of a row's visits: "at most 2 × n + 1" for the complement of a diagram of n nodes
unfoldable pub row_ceiling : List Tree → Instruction → ℕ
row_ceiling now Yes = 0
row_ceiling now (And a b) = 0
row_ceiling now (Not a) = 2 * node_count (get_or now a off) + 1
row_ceiling now (Since l r) = 0
row_ceiling now (Old a) = 0
row_ceiling now (Drop v a) = 0

unfoldable pub task_ceiling : List Tree → Task → ℕ
task_ceiling now (facts ts) = 0
task_ceiling now (does x) = row_ceiling now x

-- the ceiling of the first n rows' visits
unfoldable pub ceiling : ℕ → List Task → List Tree → ℕ → ℕ
ceiling k plan old zero = 0
ceiling k plan old (suc i) = ceiling k plan old i + task_ceiling (new_trees k plan old i) (get_or plan i (does Yes))

-- the visits of all complements of an event
unfoldable pub complement_visits : ℕ → ℕ → List Task → List ℕ → ℕ → List ℕ → ℕ
complement_visits k count plan refs kept ns = (counting (length ns) k plan (diagrams ns kept refs count) (trees_of ns kept) count).visits

-- the visits of the sweep of the new diagrams out of the table ts
unfoldable pub sweep_visits : ℕ → ℕ → List Tree → List Tree → ℕ
sweep_visits size levels ts ds = (sweeps (holding size ts) levels [] (replicate (length ts) 0) (map (ref_of ts) ds)).visits

-- an event that is done made just these visits, and no more than the ceilings: for the sweep "2 × kept + rows"
pub record Visited (k count : ℕ) (plan : List Task) (refs : List ℕ) (kept : ℕ) (ns : List ℕ) (kept' complements swept : ℕ) : Type 0 where
  pub complements_are : complements ≡ complement_visits k count plan refs kept ns
  pub complements_most : complements ≤ ceiling k plan (diagrams ns kept refs count) count
  pub sweep_is : swept ≡ sweep_visits (length ns) (4 * k) (work_table k count plan refs kept ns) (new_trees k plan (diagrams ns kept refs count) count)
  pub sweep_most : swept ≤ 2 * kept' + count

-- the visits that a step tells: none where it is refused
abbrev pub Visits : ℕ → ℕ → List Task → List ℕ → ℕ → List ℕ → Told → ℕ → ℕ → Type 0
Visits k count plan refs kept ns (Err Unfit) complements swept = (complements ≡ 0) × (swept ≡ 0)
Visits k count plan refs kept ns (Err Bad) complements swept = (complements ≡ 0) × (swept ≡ 0)
Visits k count plan refs kept ns (Err Full) complements swept = (complements ≡ 0) × (swept ≡ 0)
Visits k count plan refs kept ns (Ok done) complements swept = Visited k count plan refs kept ns done.kept complements swept

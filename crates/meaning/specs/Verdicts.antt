-- What a verdict says: of any well-formed state, and of a run from a fresh start. Assumes nothing: these are definitions.
use Rattle.std.specs.Prelude.{ℕ, suc, ◌-◌, ◌*◌, ◌≤◌, ◌<◌, ◌≡◌, Bool, true, List, [], ◌∷◌, ◌++◌, ◌↔◌, length, get_or}
use Rattle.trees.specs.Bits.{Bits}
use Rattle.trees.specs.Tree.{off, eval}
use Rattle.trees.specs.Room.{Room}
use Rattle.trees.specs.Sizes.{node_count}
use Rattle.meaning.specs.declared.Event.{Event}
use Rattle.meaning.specs.Qtl.{Fact, Assignment, Holds}
use Rattle.meaning.specs.Rows.{rule_of, formula_at}
use Rattle.meaning.specs.Step.{OneStep, counted}
use Rattle.meaning.specs.Tables.{kept_table, well_formed}
use Rattle.meaning.specs.Outcome.{capacity, cleared, facts_of, Machine, shows, log}

-- "Keep the 64 sizes in the state": of each row the count of its diagram's nodes, each node once ("Shared nodes count in each"), and 0 past the rows
pub record Sized (rows : List ℕ) (m : Machine) : Type 0 where
  pub count : length m.state.sizes ≡ 64
  pub row : (i : ℕ) → i < length (rule_of rows) → get_or m.state.sizes i 0 ≡ node_count (get_or (shows rows m).trees i off)
  pub past : (i : ℕ) → length (rule_of rows) ≤ i → get_or m.state.sizes i 0 ≡ 0

-- an event got m, answered y with n kept nodes and room r, and left m'
module _ (rows : List ℕ) (m : Machine) (e : Event) (y : Bool) (n r : ℕ) (m' : Machine) where
  -- the numbers of a verdict: "yes or no, kept nodes and room"
  pub record Counts : Type 0 where
    -- the count of the state, which is that of the nodes of the rows' diagrams, each once
    pub kept : n ≡ m'.state.kept
    pub nodes_kept : n ≡ length (kept_table (shows rows m'))
    -- "The room is the number of different functions so got that are not constant."
    pub room : Room (4 * m.state.k) (counted m.state.k (rule_of rows) (shows rows m) (facts_of e) (shows rows m')) r

  -- "Promise for any well-formed state, from a fresh start or not: the functions shown by the diagrams go to those that one step
  -- of the meaning gives, read over numbers."
  pub record Stepped : Type 0 where
    pub step : OneStep m.state.k (rule_of rows) (shows rows m) (facts_of e) (shows rows m')
    -- the new state is well formed, with the same k and C
    pub formed : well_formed m.state.k (capacity m.nodes) (rule_of rows) m'.state m'.nodes m'.values ≡ true
    pub k_stays : m'.state.k ≡ m.state.k
    pub C-stays : capacity m'.nodes ≡ capacity m.nodes
    -- "the last row is the rule": its diagram says the verdict, whatever the bits
    pub verdict : (s : Bits) → eval (get_or (shows rows m').trees (length (rule_of rows) - 1) off) s ≡ y
    pub counts : Counts
    pub sizes : Sized rows m'
    -- ".. after a verdict its first W numbers are 0 and the rest untouched"
    pub work : m'.work ≡ cleared (capacity m.nodes) m.work

  -- "after every event taken, the verdict [is] what QTL says": fs are the facts of the events taken before this one
  pub record Answered (fs : List (List Fact)) : Type 0 where
    pub verdict : (a : Assignment) → (y ≡ true) ↔ Holds (log (fs ++ facts_of e ∷ [])) (formula_at (rule_of rows) (length (rule_of rows) - 1)) (suc (length fs)) a
    pub counts : Counts

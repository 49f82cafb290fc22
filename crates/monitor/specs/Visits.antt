-- The visits that an event tells with its answer: of the complements that its rows ask for, and of the sweep that ends it. Assumes
-- nothing: these are definitions.
use Rattle.std.specs.Prelude.{ℕ, ◌*◌, ◌≡◌, List, length}
use Rattle.trees.specs.Kept.{diagrams}
use Rattle.meaning.specs.declared.Event.{Event}
use Rattle.meaning.specs.declared.Answer.{Answer}
use Rattle.meaning.specs.declared.Answer.TheVariants.{Started, Verdict, Refused}
use Rattle.meaning.specs.Rows.{rule_of}
use Rattle.meaning.specs.Numbering.{ask_facts}
use Rattle.meaning.specs.Outcome.{facts_of, Machine, shows}
use Rattle.diagram.specs.Steps.{Task, new_trees, work_table}
use Rattle.diagram.specs.Counts.{complement_visits, sweep_visits, Visited}
use Rattle.instructions.specs.Plan.{plan_of}

-- what the rows ask of the diagrams in this event
unfoldable pub event_plan : List ℕ → Machine → Event → List Task
event_plan rows m e = plan_of (ask_facts (facts_of e) (shows rows m).lists (rule_of rows)) (facts_of e) (rule_of rows)

-- the visits of the complements that an event tells with its answer
unfoldable pub complements_told : List ℕ → Machine → Event → Answer → ℕ
complements_told rows m e Started = 0
complements_told rows m e (Verdict y kept room) = complement_visits m.state.k (length (rule_of rows)) (event_plan rows m e) m.state.refs m.state.kept m.nodes
complements_told rows m e (Refused n p) = 0

-- and those of the sweep
unfoldable pub swept_told : List ℕ → Machine → Event → Answer → ℕ
swept_told rows m e Started = 0
swept_told rows m e (Verdict y kept room) =
    let k = m.state.k in
    let n = length (rule_of rows) in
    let plan = event_plan rows m e in
    sweep_visits (length m.nodes) (4 * k) (work_table k n plan m.state.refs m.state.kept m.nodes) (new_trees k plan (diagrams m.nodes m.state.kept m.state.refs n) n)
swept_told rows m e (Refused n p) = 0

-- an event that is taken tells the visits of the definition, no more than both ceilings; one that is refused tells none
abbrev pub Telling : List ℕ → Machine → Event → Answer → ℕ → ℕ → Type 0
Telling rows m e Started complements swept = (complements ≡ 0) × (swept ≡ 0)
Telling rows m e (Verdict y kept room) complements swept =
    Visited m.state.k (length (rule_of rows)) (event_plan rows m e) m.state.refs m.state.kept m.nodes kept complements swept
Telling rows m e (Refused n p) complements swept = (complements ≡ 0) × (swept ≡ 0)

pub record Looks (rows : List ℕ) (m : Machine) (e : Event) (a : Answer) (complements swept : ℕ) : Type 0 where
  pub tells : Telling rows m e a complements swept

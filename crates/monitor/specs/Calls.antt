-- What the calls of the monitor promise, for all input. Assumes nothing: these are definitions.
use Rattle.std.specs.Prelude.{ℕ, ◌≡◌, Bool, List}
use Rattle.meaning.specs.declared.State.{State}
use Rattle.meaning.specs.declared.Event.{Event}
use Rattle.meaning.specs.declared.Turn.{Turn}
use Rattle.meaning.specs.declared.Answer.{Answer}
use Rattle.meaning.specs.declared.Answer.TheVariants.{Started, Verdict, Refused}
use Rattle.meaning.specs.Outcome.{state_of, start_outcome, Machine, event_outcome}

-- an answer that is a verdict, and one that is a refusal
abbrev pub IsVerdict : Answer → Type 0
IsVerdict a = (y : Bool) × (n : ℕ) × (r : ℕ) × (a ≡ Verdict y n r)

abbrev pub IsRefusal : Answer → Type 0
IsRefusal a = (n : ℕ) × (p : ℕ) × (a ≡ Refused n p)

-- the turn of a refused start: "A refused start returns an all-zero state"
unfoldable pub refused_turn : ℕ → ℕ → Turn
refused_turn number place = record { state = state_of 0 0; answer = Refused number place }

-- the turn of a start that is taken
unfoldable pub started_turn : ℕ → ℕ → Turn
started_turn k n = record { state = state_of k n; answer = Started }

-- a start that gave this back and left these slices had the outcome of the definitions
pub record Starts (k : ℕ) (rows nodes values : List ℕ) (t : Turn) (nodes' values' : List ℕ) : Type 0 where
  pub answer : t.answer ≡ (start_outcome k rows nodes values).answer
  pub state : t.state ≡ (start_outcome k rows nodes values).state
  pub nodes_are : nodes' ≡ (start_outcome k rows nodes values).nodes
  pub values_are : values' ≡ (start_outcome k rows nodes values).values

-- the state and the slices that a call got
abbrev pub machine : State → List ℕ → List ℕ → List ℕ → Machine
machine s nodes values work = record { state = s; nodes = nodes; values = values; work = work }

-- an event that gave this back and left these slices had the outcome of the definitions
pub record Happens (rows : List ℕ) (m : Machine) (e : Event) (t : Turn) (nodes' values' work' : List ℕ) : Type 0 where
  pub answer : t.answer ≡ (event_outcome rows m e).answer
  pub state : t.state ≡ (event_outcome rows m e).left.state
  pub nodes_are : nodes' ≡ (event_outcome rows m e).left.nodes
  pub values_are : values' ≡ (event_outcome rows m e).left.values
  pub work_is : work' ≡ (event_outcome rows m e).left.work

-- What each of the three calls gives back and leaves, for all input. Assumes nothing: these are definitions.
use Rattle.std.specs.Prelude.{ℕ, ◌%◌, ◌≡◌, Bool, true, false, ◌&&◌, List, eqb, length, replicate}
use Rattle.meaning.specs.Outcome.{StartOutcome, start_outcome, Machine, EventOutcome, event_outcome}
use Rattle.numbers.specs.declared.Lookup.{Lookup}
use Rattle.numbers.specs.Looking.{look_up}
use Rattle.monitor.specs.Visits.{complements_told, swept_told}
use Rattle.monitor.specs.Numbered.{numbered_told}
use Rattle.linked.specs.Packing.{packed_state, unpacked_state, packed_answer, packed_lookup}
use Rattle.linked.specs.Happening.{event_of}

-- a start is made if the state has 135 numbers and the answer 10
unfoldable pub fits : List ℕ → List ℕ → Bool
fits state answer = eqb (length state) 135 && eqb (length answer) 10

-- what a start gives back, and what each lent slice then holds
pub record StartLeft : Type 0 where
  pub called : Bool
  pub nodes : List ℕ
  pub values : List ℕ
  pub state : List ℕ
  pub answer : List ℕ

-- a call that is made leaves its outcome, and one that is not leaves every slice as it was
unfoldable pub settle_start : Bool → StartOutcome → List ℕ → List ℕ → List ℕ → List ℕ → StartLeft
settle_start true o nodes values state answer = record { called = true; nodes = o.nodes; values = o.values; state = packed_state o.state; answer = packed_answer o.answer 0 0 (replicate 4 0) }
settle_start false o nodes values state answer = record { called = false; nodes = nodes; values = values; state = state; answer = answer }

unfoldable pub start_left : ℕ → List ℕ → List ℕ → List ℕ → List ℕ → List ℕ → StartLeft
start_left k rows nodes values state answer = settle_start (fits state answer) (start_outcome k rows nodes values) nodes values state answer

-- a start that gave this back and left these slices had the outcome of the definitions
pub record LinkedStart (k : ℕ) (rows nodes values state answer : List ℕ) (r : Bool) (nodes' values' state' answer' : List ℕ) : Type 0 where
  pub called : r ≡ (start_left k rows nodes values state answer).called
  pub nodes_are : nodes' ≡ (start_left k rows nodes values state answer).nodes
  pub values_are : values' ≡ (start_left k rows nodes values state answer).values
  pub state_is : state' ≡ (start_left k rows nodes values state answer).state
  pub answer_is : answer' ≡ (start_left k rows nodes values state answer).answer

-- an event is made if the facts are five numbers each, too
unfoldable pub fits_event : List ℕ → List ℕ → List ℕ → Bool
fits_event facts state answer = eqb (length facts % 5) 0 && fits state answer

-- the machine that an event is lent
unfoldable pub machine_of : List ℕ → List ℕ → List ℕ → List ℕ → Machine
machine_of nodes values work state = record { state = unpacked_state state; nodes = nodes; values = values; work = work }

-- what an event gives back, and what each lent slice then holds
pub record EventLeft : Type 0 where
  pub called : Bool
  pub nodes : List ℕ
  pub values : List ℕ
  pub work : List ℕ
  pub state : List ℕ
  pub answer : List ℕ

unfoldable pub settle_event : Bool → EventOutcome → ℕ → ℕ → List ℕ → List ℕ → List ℕ → List ℕ → List ℕ → List ℕ → EventLeft
settle_event true o complements swept numbered nodes values work state answer = record {
  called = true;
  nodes = o.left.nodes;
  values = o.left.values;
  work = o.left.work;
  state = packed_state o.left.state;
  answer = packed_answer o.answer complements swept numbered;
}
settle_event false o complements swept numbered nodes values work state answer = record { called = false; nodes = nodes; values = values; work = work; state = state; answer = answer }

unfoldable pub event_left : List ℕ → List ℕ → List ℕ → List ℕ → List ℕ → List ℕ → List ℕ → EventLeft
event_left rows nodes values work facts state answer =
    let m = machine_of nodes values work state in
    let e = event_of facts in
    let a = (event_outcome rows m e).answer in
    settle_event (fits_event facts state answer) (event_outcome rows m e) (complements_told rows m e a) (swept_told rows m e a) (numbered_told rows m e a) nodes values work state answer

-- an event that gave this back and left these slices had the outcome of the definitions
pub record LinkedEvent (rows nodes values work facts state answer : List ℕ) (r : Bool) (nodes' values' work' state' answer' : List ℕ) : Type 0 where
  pub called : r ≡ (event_left rows nodes values work facts state answer).called
  pub nodes_are : nodes' ≡ (event_left rows nodes values work facts state answer).nodes
  pub values_are : values' ≡ (event_left rows nodes values work facts state answer).values
  pub work_is : work' ≡ (event_left rows nodes values work facts state answer).work
  pub state_is : state' ≡ (event_left rows nodes values work facts state answer).state
  pub answer_is : answer' ≡ (event_left rows nodes values work facts state answer).answer

-- a lookup is made if the state has 135 numbers and the answer 2
unfoldable pub fits_lookup : List ℕ → List ℕ → Bool
fits_lookup state answer = eqb (length state) 135 && eqb (length answer) 2

-- what a lookup gives back, and what the answer then holds
pub record LookupLeft : Type 0 where
  pub called : Bool
  pub answer : List ℕ

unfoldable pub settle_lookup : Bool → Lookup → List ℕ → LookupLeft
settle_lookup true found answer = record { called = true; answer = packed_lookup found }
settle_lookup false found answer = record { called = false; answer = answer }

unfoldable pub lookup_left : List ℕ → List ℕ → ℕ → ℕ → List ℕ → LookupLeft
lookup_left values state v y answer =
    let s = unpacked_state state in
    settle_lookup (fits_lookup state answer) (look_up s.k s.counts values v y) answer

-- a lookup that gave this back and left this answer had the outcome of the definitions
pub record LinkedLookup (values state : List ℕ) (v y : ℕ) (answer : List ℕ) (r : Bool) (answer' : List ℕ) : Type 0 where
  pub called : r ≡ (lookup_left values state v y answer).called
  pub answer_is : answer' ≡ (lookup_left values state v y answer).answer

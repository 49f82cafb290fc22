-- How the refusals of the code are read. Assumes nothing: these are definitions.
use Rattle.std.specs.Prelude.{ℕ, Result, Ok, Err}
use Rattle.meaning.specs.declared.Answer.{Answer}
use Rattle.meaning.specs.declared.Answer.TheVariants.{Refused}
use Rattle.meaning.specs.Outcome
use Rattle.diagram.specs.declared.Refused as step
use Rattle.diagram.specs.declared.Refused.TheVariants as refused
use Rattle.diagram.specs.Steps.{Formed}
use Rattle.monitor.specs.declared.Figures.{Figures}
use Rattle.monitor.specs.declared.Said.{Said}
use Rattle.monitor.specs.declared.refusals.Refusal.{Refusal}
use Rattle.monitor.specs.declared.refusals.Refusal.TheVariants.{K, Rule, Lengths, State, Event, Numbers, Room}
use Rattle.monitor.specs.Said.{refused_said}

-- the number of a refusal
abbrev pub number_of : Refusal → ℕ
number_of K = 1
number_of (Rule row) = 2
number_of Lengths = 3
number_of State = 4
number_of Event = 5
number_of (Numbers variable) = 6
number_of Room = 7

-- and its place: the row of the first fault, the variable that is short, or 0
abbrev pub place_of : Refusal → ℕ
place_of K = 0
place_of (Rule row) = row
place_of Lengths = 0
place_of State = 0
place_of Event = 0
place_of (Numbers variable) = variable
place_of Room = 0

-- and the answer of the meaning
abbrev pub answer_of : Refusal → Answer
answer_of r = Refused (number_of r) (place_of r)

-- the decision of the meaning
abbrev pub decision_of : {A : Type 0} → Result A Refusal → Outcome.Decision
decision_of (Ok x) = Outcome.taken
decision_of (Err r) = Outcome.refused (number_of r) (place_of r)

-- what is said where an event is tried: of a refused one, that the figures are those that it got
abbrev pub said_of : Figures → Result Said Refusal → Said
said_of f (Ok said) = said
said_of f (Err r) = refused_said f (number_of r) (place_of r)

-- the rest of refusal 4: the diagrams are not well kept, or the sizes not theirs
unfoldable pub of_formed : Formed → Result (Unit {0}) Refusal
of_formed (Ok x) = Ok x
of_formed (Err x) = Err State

-- and what a step is refused for, where it is the event's: the state, or the room
abbrev pub of_step : step.Refused → Refusal
of_step refused.Unfit = State
of_step refused.Bad = State
of_step refused.Full = Room

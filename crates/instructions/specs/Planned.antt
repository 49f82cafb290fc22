-- The plan of an event as the code reads it off the rows, one after the other. Assumes nothing: these are definitions.
use Rattle.std.specs.Prelude.{ℕ, zero, suc, cond, Option, List, [], ◌∷◌, ◌++◌}
use Rattle.meaning.specs.declared.Event.{Event}
use Rattle.meaning.specs.Rows.{Row, count_of_rows, row_at}
use Rattle.making.specs.declared.Number.{Number}
use Rattle.numbers.specs.Matching.{matches_row}
use Rattle.numbers.specs.Asking.{fact_at}
use Rattle.diagram.specs.Steps.{Turn, Task, facts, does}
use Rattle.instructions.specs.Read.{row_turn, is_atom, instruction_read}

-- what the first n facts add to a row, with the numbers of their values in a table
unfoldable pub turns_to : Row → Event → List (Option Number) → ℕ → List Turn
turns_to r e given zero = []
turns_to r e given (suc f) = turns_to r e given f ++ row_turn r (matches_row (fact_at e f) r) given f ∷ []

-- what a row asks
unfoldable pub asked : Row → Event → List (Option Number) → Task
asked r e given = cond (is_atom r) (facts (turns_to r e given e.count)) (does (instruction_read r))

-- what the first n rows ask
unfoldable pub planned_to : List ℕ → Event → List (Option Number) → ℕ → List Task
planned_to raw e given zero = []
planned_to raw e given (suc i) = planned_to raw e given i ++ asked (row_at raw i) e given ∷ []

-- what all rows of the rule ask
unfoldable pub planned : List ℕ → Event → List (Option Number) → List Task
planned raw e given = planned_to raw e given (count_of_rows raw)

-- The plan of an event: a task for each row of the rule. Assumes nothing: these are definitions.
use Rattle.std.specs.Prelude.{ℕ, cond, ◌&&◌, Option, Some, None, List, [], ◌∷◌, map, eqb}
use Rattle.meaning.specs.Qtl.{Argument, variable, constant, Fact}
use Rattle.meaning.specs.Rows.{Row, truth, atom, both, neg, since, previous, exists}
use Rattle.meaning.specs.Numbering.{Lists, place, fits}
use Rattle.making.specs.declared.Number.{Number}
use Rattle.diagram.specs.declared.Instruction.TheVariants.{Yes, And, Not, Since, Old, Drop}
use Rattle.diagram.specs.Steps.{Turn, Task, facts, does}

-- what the bits of variable v are to show where an atom matches: the number of the value at the variable's first place, and any number where it has none
unfoldable pub place_of : Lists → ℕ → List Argument → List ℕ → Option Number
place_of L v [] ys = None
place_of L v (g ∷ gs) [] = None
place_of L v (variable w ∷ gs) (y ∷ ys) = cond (eqb w v) (Some (record { 0 = place (L v) y })) (place_of L v gs ys)
place_of L v (constant c ∷ gs) (y ∷ ys) = place_of L v gs ys

-- what a fact adds to an atom
unfoldable pub turn_of : Lists → ℕ → List Argument → Fact → Turn
turn_of L p gs e =
    cond (eqb e.predicate p && fits gs e.values)
    (Some (place_of L 0 gs e.values ∷ place_of L 1 gs e.values ∷ place_of L 2 gs e.values ∷ place_of L 3 gs e.values ∷ [])) None

-- what a row asks
unfoldable pub task_of : Lists → List Fact → Row → Task
task_of L es truth = does Yes
task_of L es (atom p gs) = facts (map (turn_of L p gs) es)
task_of L es (both l r) = does (And l r)
task_of L es (neg r) = does (Not r)
task_of L es (since l r) = does (Since l r)
task_of L es (previous r) = does (Old r)
task_of L es (exists x r) = does (Drop x r)

-- the plan
unfoldable pub plan_of : Lists → List Fact → List Row → List Task
plan_of L es rule = map (task_of L es) rule

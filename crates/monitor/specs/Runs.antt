-- Calls one after the other, by nothing but what each promises. Assumes nothing: these are definitions.
use Rattle.std.specs.Prelude.{ℕ, ◌≡◌, List, [], ◌∷◌}
use Rattle.meaning.specs.declared.Event.{Event}
use Rattle.meaning.specs.declared.Answer.{Answer}
use Rattle.meaning.specs.declared.Answer.TheVariants.{Started, Verdict, Refused}
use Rattle.meaning.specs.Qtl.{Fact}
use Rattle.meaning.specs.Outcome.{facts_of, Machine}
use Rattle.monitor.specs.Calls.{IsVerdict, Starts, Happens}

-- a start that is taken left m; the work slice is none of its business
abbrev pub Fresh : ℕ → List ℕ → List ℕ → List ℕ → Machine → Type 0
Fresh k rows nodes values m = Starts k rows nodes values (record { state = m.state; answer = Started }) m.nodes m.values

-- an event got m, answered a, and left n
abbrev pub Call : List ℕ → Machine → Event → Answer → Machine → Type 0
Call rows m e a n = Happens rows m e (record { state = n.state; answer = a }) n.nodes n.values n.work

-- events, each with the state and the slices as last left, got m and left o, and these were their answers
unfoldable pub Calls : List ℕ → Machine → List Event → List Answer → Machine → Type 0
Calls rows m [] [] o = o ≡ m
Calls rows m [] (a ∷ xs) o = ⊥
Calls rows m (e ∷ es) [] o = ⊥
Calls rows m (e ∷ es) (a ∷ xs) o = (n : Machine) × Call rows m e a n × Calls rows n es xs o

-- the facts of the events taken: those that were answered by a verdict
unfoldable pub taken_in : List Event → List Answer → List (List Fact)
taken_in [] xs = []
taken_in (e ∷ es) [] = []
taken_in (e ∷ es) (Started ∷ xs) = taken_in es xs
taken_in (e ∷ es) (Verdict y n r ∷ xs) = facts_of e ∷ taken_in es xs
taken_in (e ∷ es) (Refused n p ∷ xs) = taken_in es xs

-- every answer is a verdict: every event was taken
unfoldable pub AllTaken : List Answer → Type 0
AllTaken [] = Unit {0}
AllTaken (a ∷ xs) = IsVerdict a × AllTaken xs

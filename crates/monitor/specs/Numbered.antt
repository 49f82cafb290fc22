-- How many values an event newly numbered, for each variable: it is told with the answer. Assumes nothing: these are definitions.
use Rattle.std.specs.Prelude.{ℕ, ◌-◌, ◌<◌, ◌≤◌, ◌≡◌, List, [], ◌∷◌, length, get_or, replicate}
use Rattle.meaning.specs.declared.Event.{Event}
use Rattle.meaning.specs.declared.Answer.{Answer}
use Rattle.meaning.specs.declared.Answer.TheVariants.{Started, Verdict, Refused}
use Rattle.meaning.specs.Rows.{rule_of}
use Rattle.meaning.specs.Step.{step}
use Rattle.meaning.specs.Outcome.{facts_of, Machine, shows}

-- the values of v that have numbers after the step, less those that had them before
unfoldable pub newly : List ℕ → Machine → Event → ℕ → ℕ
newly rows m e v = length ((step m.state.k (rule_of rows) (shows rows m) (facts_of e)).lists v) - length ((shows rows m).lists v)

-- "The event's answer carries, for each variable, how many values it newly numbered." A refused event numbers none.
unfoldable pub numbered_told : List ℕ → Machine → Event → Answer → List ℕ
numbered_told rows m e Started = replicate 4 0
numbered_told rows m e (Verdict y kept room) = newly rows m e 0 ∷ newly rows m e 1 ∷ newly rows m e 2 ∷ newly rows m e 3 ∷ []
numbered_told rows m e (Refused n p) = replicate 4 0

pub record Numbers (rows : List ℕ) (m : Machine) (e : Event) (a : Answer) (numbered : List ℕ) : Type 0 where
  pub tells : numbered ≡ numbered_told rows m e a

-- no count is less than it was, and by how much each is more
abbrev pub Grown : List ℕ → List ℕ → Type 0
Grown before after = (v : ℕ) → v < 4 → get_or before v 0 ≤ get_or after v 0

unfoldable pub growth : List ℕ → List ℕ → List ℕ
growth before after = (get_or after 0 0 - get_or before 0 0) ∷ (get_or after 1 0 - get_or before 1 0) ∷ (get_or after 2 0 - get_or before 2 0) ∷ (get_or after 3 0 - get_or before 3 0) ∷ []

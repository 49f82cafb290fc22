-- What a step and its rows answer, in the words of the crate `diagram`. Assumes nothing: these are definitions.
use Rattle.std.specs.Prelude.{ℕ, true, false, Option, Some, None, Result, Ok, Err, List}
use Rattle.trees.specs.Tree.{Tree}
use Rattle.diagram.specs.declared.Refused.{Refused}
use Rattle.diagram.specs.Steps.{Told, Task}
use Rattle.diagram.specs.Works.{Ran}
use Rattle.stepping.specs.declared.Stepped.{Stepped}

-- what a step tells: the count of kept nodes and the room, or why it is refused
abbrev pub told_of : Result Stepped Refused → Told
told_of (Ok s) = Ok s.done
told_of (Err r) = Err r

-- what the work on all rows says: no room, or all worked with so many visits; n nodes are left
abbrev pub AllWorked : ℕ → List Task → List Tree → List ℕ → ℕ → List ℕ → List ℕ → ℕ → ℕ → List ℕ → ℕ → ℕ → Option ℕ → List ℕ → Type 0
AllWorked k plan old ns₀ kept ns w c slots olds count n None news = Ran k plan old ns₀ kept ns w c slots olds count true 0 news 0
AllWorked k plan old ns₀ kept ns w c slots olds count n (Some v) news = Ran k plan old ns₀ kept ns w c slots olds count false n news v

-- What the scan answers. Assumes nothing.
use Rattle.std.specs.Prelude.{ℕ, List, Result, Ok, Err}
use Rattle.text.specs.Grammar.{Reading, RuleText, HasReading, Place}
use Rattle.scan.specs.declared.Stop.{Stop}

-- a rule text, or none and the place of refusal 3
abbrev pub Scanned : List ℕ → Result (Unit {0}) Stop → Type 0
Scanned bytes (Ok u) = HasReading bytes
Scanned bytes (Err s) = ((f : Reading) → RuleText bytes f → ⊥) × Place bytes s.place

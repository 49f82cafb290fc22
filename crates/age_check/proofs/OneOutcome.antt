-- Two outcomes that keep the promise of `ages_right` are the same: the answer. What is left in the first numbers of the work slice is not
-- promised. Assumes nothing.
use mathlib.Core.Path.{◌≡◌, refl}
use mathlib.Core.Bool.{Bool, true, false}
use Rattle.nodes.specs.Nodes.{Decides}

pub one_answer : (P : Type 0) (a b : Bool) → Decides P a → Decides P b → a ≡ b
one_answer P true true p q = refl
one_answer P true false p q = absurd (q p)
one_answer P false true p q = absurd (p q)
one_answer P false false p q = refl

-- What a frame makes has as many rows as there were, or more. Assumes nothing.
use Prim.Native.Nat.{ℕ, ◌≤◌, ◌<◌}
use native.Mathlib.Omega.{arith}
use mathlib.Core.List.{List}
use lib.ListN.{length}
use Rattle.meaning.specs.Rows
use Rattle.text.specs.Parts.{nine}
use Rattle.text.specs.Emit.{Rowed, make_row, negated}
use Rattle.rowing.proofs.TableLaws.{make_longer}

pub negated_longer : (m : Rowed) → length m.rows ≤ length (negated m).rows
unfolding negated
negated_longer m = make_longer m.rows (nine (Rows.neg m.row))

pub denied_over : (m : Rowed) → 64 < length m.rows → 64 < length (negated m).rows
denied_over m h = omega (arith, negated_longer m)

pub negated_over : (m : Rowed) (x : List ℕ) → 64 < length m.rows → 64 < length (negated (make_row m.rows x)).rows
negated_over m x h = omega (arith, make_longer m.rows x, negated_longer (make_row m.rows x))

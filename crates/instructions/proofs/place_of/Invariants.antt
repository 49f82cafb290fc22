-- `place_of` meets its contract. The loop keeps that no argument before j is the variable. Assumes nothing.
use Prim.Native.Nat.{ℕ, ◌<◌}
use mathlib.Core.Path.{◌≡◌}
use mathlib.Core.Bool.{false}
use lib.ListN.{get_or}
use Rattle.rule.specs.declared.Argument.{Argument}
use Rattle.rule.specs.Decoded.{argument_of}
use Rattle.instructions.specs.Read.{names}
use Rattle.instructions.proofs.place_of.Given as goal

abbrev pub invariant-loop-j : goal.invariant-loop-j
invariant-loop-j l = (d : Argument) (k : ℕ) → k < l.j → names l.v (argument_of (get_or l.atom.arguments k d)) ≡ false

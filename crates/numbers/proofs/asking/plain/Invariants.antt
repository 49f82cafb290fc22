-- `plain` meets its contract. The loop keeps that the first i values are there as numbers. Assumes nothing.
use Prim.Native.Nat.{ℕ, ◌<◌}
use mathlib.Core.Path.{◌≡◌}
use lib.ListN.{length, get_or}
use Rattle.numbers.specs.Asking.{bare}
use Rattle.numbers.proofs.asking.plain.Given as goal

abbrev pub invariant-loop-i : goal.invariant-loop-i
invariant-loop-i l = (length l.numbers ≡ 24) × ((k : ℕ) → k < l.i → get_or l.numbers k 0 ≡ get_or (bare l.fresh) k 0)

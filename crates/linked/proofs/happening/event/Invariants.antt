-- `happening::event` meets its contract. The loop keeps that the facts before i are read. Assumes nothing.
use Prim.Native.Nat.{ℕ, ◌<◌}
use mathlib.Core.Path.{◌≡◌}
use lib.ListN.{length, get_or}
use Rattle.meaning.specs.declared.Fact.{Fact}
use Rattle.linked.specs.Happening.{fact_at}
use Rattle.linked.proofs.happening.event.Given as goal

abbrev pub invariant-loop-i : goal.invariant-loop-i
invariant-loop-i l = (length l.facts ≡ 8) × ((d : Fact) (k : ℕ) → k < l.i → get_or l.facts k d ≡ fact_at l.numbers k)

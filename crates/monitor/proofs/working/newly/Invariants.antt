-- `monitor::working::newly` meets its contract. The loop keeps that the numbers before v are the growths. Assumes nothing.
use Prim.Native.Nat.{ℕ, ◌-◌, ◌<◌}
use mathlib.Core.Path.{◌≡◌}
use lib.ListN.{length, get_or}
use Rattle.monitor.proofs.working.newly.Given as goal

abbrev pub invariant-loop-v : goal.invariant-loop-v
invariant-loop-v l = (length l.numbered ≡ 4) × ((k : ℕ) → k < l.v → get_or l.numbered k 0 ≡ get_or l.after k 0 - get_or l.before k 0)

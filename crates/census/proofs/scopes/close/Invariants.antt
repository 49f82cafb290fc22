-- `scopes::close` meets its contract. The loop's invariant: the depths passed are lowered, the others are as they were. Assumes nothing.
use Prim.Native.Nat.{ℕ, ◌≤◌, ◌<◌}
use mathlib.Core.Path.{◌≡◌}
use lib.ListN.{length, get_or}
use Rattle.census.specs.Scopes.{lowered}
use Rattle.census.proofs.scopes.close.Given as goal

abbrev pub invariant-loop-s : goal.invariant-loop-s
invariant-loop-s l = record {
  sized : length l.since ≡ 4;
  passed : (v : ℕ) → v < l.s-index → get_or l.since v 0 ≡ lowered l.depth (get_or l.initial.since v 0);
  left : (v : ℕ) → l.s-index ≤ v → get_or l.since v 0 ≡ get_or l.initial.since v 0;
}

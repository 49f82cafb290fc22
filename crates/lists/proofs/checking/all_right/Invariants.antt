-- `all_right` meets its contract. The loop's invariant: the lists of the first v variables are right. Assumes nothing.
use Prim.Native.Nat.{ℕ, ◌*◌, ◌<◌}
use mathlib.Core.Path.{◌≡◌}
use mathlib.Core.Bool.{true}
use lib.ListN.{length, get_or, take, drop}
use Rattle.lists.specs.Slots.{part_right}
use Rattle.lists.proofs.checking.all_right.Given as goal

abbrev pub invariant-loop-v : goal.invariant-loop-v
invariant-loop-v l = (length l.work ≡ length l.initial.work) × (drop (l.room) l.work ≡ drop (l.room) l.initial.work)
    × ((w : ℕ) → w < l.v → part_right l.m (get_or l.counts w 0) (take l.m (drop (w * l.m) l.values)) ≡ true)

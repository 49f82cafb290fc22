-- `shortest` meets its contract. The loop's invariant: no variable below v is short. Assumes nothing.
use Prim.Native.Nat.{ℕ, ◌<◌}
use mathlib.Core.Bool.{false}
use mathlib.Core.Path.{◌≡◌}
use lib.Dec.{ltb}
use lib.ListN.{get_or}
use Rattle.meaning.specs.Tables
use Rattle.lists.proofs.writing.shortest.Given as goal

abbrev pub invariant-loop-v : goal.invariant-loop-v
invariant-loop-v l = (i : ℕ) → i < l.v → ltb (Tables.most l.k) (get_or l.counts i 0) ≡ false

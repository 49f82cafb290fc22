-- `alike` meets its contract. The loop's invariant: at the entries so far both numbers lead to one side. Assumes nothing.
use Prim.Native.Nat.{ℕ, ◌-◌, ◌^◌, ◌<◌}
use lib.ListN.{get_or}
use Rattle.telling.specs.Entries.{Meet}
use Rattle.telling.proofs.alike.Given as goal

abbrev pub invariant-loop-r : goal.invariant-loop-r
invariant-loop-r l = (j : ℕ) → j < l.r-index → Meet l.nodes.slice.now l.nodes.count l.base l.k l.n (2 ^ l.k - 1) (get_or l.r-items j 0)

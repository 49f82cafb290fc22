-- `chain::seek` meets its contract. The loop's invariant: what is found from p on is what is found from `first` on. The measure is p,
-- since each link leads to a smaller place. Assumes nothing.
use Prim.Native.Nat.{ℕ, ◌≤◌}
use Rattle.std.specs.Prelude.{Option}
use Rattle.nodes.specs.Chains.{Sought}
use Rattle.nodes.proofs.chain.seek.Given as goal

abbrev pub invariant-loop-p : goal.invariant-loop-p
invariant-loop-p l = (l.p ≤ l.first) × ((r : Option ℕ) → Sought l.nodes l.links l.work l.node.level l.node.low l.node.high l.p r → Sought l.nodes l.links l.work l.node.level l.node.low l.node.high l.first r)

abbrev pub decreases-loop-p : goal.decreases-loop-p
decreases-loop-p l = l.p

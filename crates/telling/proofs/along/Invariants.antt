-- `along` meets its contract. The loop's invariant: from q on the bits lead where they lead from r on. The measure is q, since
-- references lead to smaller ones. Assumes nothing.
use Prim.Native.Nat.{◌+◌, ◌<◌}
use mathlib.Core.Path.{◌≡◌}
use Rattle.trees.specs.Table.{at, trees_of}
use Rattle.telling.specs.Follow.{follow}
use Rattle.telling.specs.Entries.{Ordered}
use Rattle.telling.proofs.along.Given as goal

abbrev pub invariant-loop-q : goal.invariant-loop-q
invariant-loop-q l = (l.q < l.nodes.count + 2) × Ordered l.base (at (trees_of l.nodes.slice.now l.nodes.count) l.q) × (follow l.base l.k l.n (at (trees_of l.nodes.slice.now l.nodes.count) l.q) ≡ follow l.base l.k l.n (at (trees_of l.nodes.slice.now l.nodes.count) l.r))

abbrev pub decreases-loop-q : goal.decreases-loop-q
decreases-loop-q l = l.q

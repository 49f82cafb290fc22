-- The ceiling on the visits of a complement. Assumes nothing.
use Prim.Native.Nat.{ℕ, ◌+◌, ◌*◌, ◌-◌, ◌≤◌}
use mathlib.Core.List.{List}
use native.Mathlib.Omega.{arith}
use Rattle.trees.specs.Table.{at, trees_of}
use Rattle.trees.specs.Sizes.{node_count}
use Rattle.visits.proofs.Visited.{complement_visits}
use Rattle.std.specs.Prelude.{Some}
use Rattle.walks.specs.Walks.{Within}
use Rattle.walks.specs.Desks.{Desk}
use Rattle.walks.specs.Complements.{Counted, map_of, Complemented}
use Rattle.walks.proofs.MapLaws.{map_length}

-- "Negation of a diagram of n nodes makes at most 2 × n + 1 visits": what `not_walk` promises is so
pub not_visits : {ns : List ℕ} {n levels left p : ℕ} {w : List ℕ} {c slots : ℕ} → Desk ns n levels w c slots → left ≤ levels → Within ns n levels left p
    → {ns' w' : List ℕ} {m : Counted} → Complemented ns ns' n levels left p w w' c slots (Some m) → m.visits ≤ 2 * node_count (at (trees_of ns n) p) + 1
not_visits {ns} {n} {levels} {left} {p} {w} {c} k h i q =
    let t = k.shelf.table in
    omega (arith, q.2.visits, complement_visits ns n t.back t.one levels left (trees_of ns n) (map_of c w) p (levels - left) i.below i.fine (omega arith) (omega (arith, map_length c w k.shelf.long, t.fits, k.shelf.size)))

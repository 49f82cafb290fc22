-- A4 of the code: "the sweep makes at most 2 × kept + rows" visits, of what `renew` promises. Assumes nothing.
use Prim.Native.Nat.{ℕ, ◌+◌, ◌*◌, ◌≤◌, ◌<◌}
use mathlib.Core.List.{List}
use native.Mathlib.Omega.{arith}
use lib.ListN.{take, replicate, length-take, length-replicate}
use lib.Seq.{get_or-take}
use Rattle.trees.specs.Kept.{diagrams}
use Rattle.trees.proofs.CanonicalLaws.{zeros_at}
use Rattle.nodes.specs.Nodes.{Table, Rows, canonical}
use Rattle.visits.proofs.SweepsLaws.{Leads}
use Rattle.visits.proofs.Visited.{sweep_visits}
use Rattle.sweeping.specs.Sweeps.{Renewal}

-- the visits of `renew`, for its table of m nodes and its rows
pub renew_visits : {ns : List ℕ} {m levels : ℕ} {refs : List ℕ} {count : ℕ} {w ns' w' : List ℕ} {kept : ℕ} {refs' : List ℕ} {visits : ℕ}
    → Table ns m → Rows ns m levels refs count → Renewal ns m levels refs count w ns' w' kept refs' visits → visits ≤ 2 * kept + count
unfolding canonical diagrams
renew_visits {ns} {m} {levels} {refs} {count} t rows x =
    let long = length-take count refs in
    let v = sweep_visits ns m t.back t.one levels (replicate m 0) (take count refs) leads (omega (arith, length-replicate {A = ℕ} m 0)) (λ i h. zeros_at m i) in
    omega (arith, x.visits, x.size, v, long)
  where
    leads : Leads ns m levels (take count refs)
    leads i h = let k : i < count = omega (arith, length-take count refs) in rw (get_or-take count refs i 0 k) (rows.inside i k, rows.fine i k)

-- `chain::join` meets its contract. Assumes nothing.
use native.Mathlib.Omega.{arith}
use lib.ListN.{length-set}
use Rattle.nodes.proofs.chain.join.Goals as goal

pub bounds-work-head-2 : goal.bounds-work-head-2
bounds-work-head-2 c = simp length-set (omega arith)

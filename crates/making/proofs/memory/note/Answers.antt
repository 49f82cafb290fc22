-- `note` meets its contract. Assumes nothing.
use native.Mathlib.Omega.{arith}
use lib.ListN.{length-set}
use Rattle.making.proofs.memory.note.Goals as goal

pub bounds-work-i-2 : goal.bounds-work-i-2
bounds-work-i-2 c = simp length-set (omega arith)

pub bounds-work-i-3 : goal.bounds-work-i-3
bounds-work-i-3 c = simp length-set (omega arith)

use Rattle.census.proofs.NamesPass.{names_begin, names_ends, names_full, names_more}
use Rattle.census.proofs.names.names.Goals as goal

pub loop-w-init : goal.loop-w-init
loop-w-init c = names_begin _ _ _ c.requires.0

pub returns-in_err-n : goal.returns-in_err-n
returns-in_err-n c = rw c.from_residual.ensures (names_full _ _ _ _ _ _ c.loop-w.invariant _ c.in-Some.ensures _ c.in_err-n.ensures)

pub loop-w-preserved : goal.loop-w-preserved
loop-w-preserved c = names_more _ _ _ _ _ _ c.loop-w.invariant _ c.in-Some.ensures _ _ _ c.in_ok-n.ensures c.next_mode-mode.ensures

pub returns : goal.returns
returns c = names_ends _ _ _ _ _ _ c.loop-w.invariant c.in_default.ensures

-- `stack::shut` meets its contract. Assumes nothing.
use Rattle.rowing.proofs.ShutLaws.{shut_over, shut_made, pops_one}
use Rattle.rowing.proofs.stack.shut.Goals as goal

pub returns-in_err-last-clause-shuts : goal.returns-in_err-last-clause-shuts
returns-in_err-last-clause-shuts g c = rw c.from_residual.ensures (shut_over _ _ c.in_err-last.ensures.fills)

pub returns-clause-shuts : goal.returns-clause-shuts
returns-clause-shuts g c = shut_made _ _ _ _ c.in_ok-last.ensures.fills _ (pops_one _ _ _ c.pop_below-parenthesis.ensures)

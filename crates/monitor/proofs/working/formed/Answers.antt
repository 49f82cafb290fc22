-- `monitor::working::formed` meets its contract, arm by arm. Assumes nothing.
use mathlib.Core.Path.{ap}
use Rattle.monitor.specs.Decisions.{of_formed}
use Rattle.monitor.proofs.working.formed.Goals as goal

pub returns-in-Ok-clause-value : goal.returns-in-Ok-clause-value
unfolding of_formed
returns-in-Ok-clause-value c = ap of_formed c.in-Ok.ensures.result

pub returns-in-Err-clause-value : goal.returns-in-Err-clause-value
unfolding of_formed
returns-in-Err-clause-value c = ap of_formed c.in-Err.ensures.result

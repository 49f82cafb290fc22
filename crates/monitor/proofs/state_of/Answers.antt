-- `monitor::state_of` meets its contract: the state made is the one of the definition. Assumes nothing.
use mathlib.Core.Path.{refl}
use Rattle.meaning.specs.Outcome.{state_of}
use Rattle.monitor.proofs.state_of.Goals as goal

pub returns : goal.returns
unfolding state_of
returns c = refl

-- `monitor::started` meets its contract: the turn made is the one of the definition. Assumes nothing.
use mathlib.Core.Path.{refl}
use Rattle.monitor.specs.Calls.{started_turn}
use Rattle.monitor.proofs.started.Goals as goal

pub returns : goal.returns
unfolding started_turn
returns c = rw c.state_of.ensures refl

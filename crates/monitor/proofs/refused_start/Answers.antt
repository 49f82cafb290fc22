-- `monitor::refused_start` meets its contract: the turn made is the one of the definition. Assumes nothing.
use mathlib.Core.Path.{refl}
use Rattle.monitor.specs.Calls.{refused_turn}
use Rattle.monitor.proofs.refused_start.Goals as goal

pub returns : goal.returns
unfolding refused_turn
returns c = rw (c.state_of.ensures, c.answer.ensures) refl

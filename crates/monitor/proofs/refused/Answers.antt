-- `monitor::refused` meets its contract: it is what is said. Assumes nothing.
use mathlib.Core.Path.{refl}
use Rattle.monitor.specs.Said.{refused_said}
use Rattle.monitor.proofs.refused.Goals as goal

pub returns : goal.returns
unfolding refused_said
returns c = rw c.answer.ensures refl

-- `monitor::working::taken` meets its contract: it is what is said. Assumes nothing.
use mathlib.Core.Path.{refl}
use Rattle.monitor.specs.Said.{taken_said}
use Rattle.monitor.proofs.working.taken.Goals as goal

pub returns : goal.returns
unfolding taken_said
returns c = rw c.newly-numbered.ensures refl

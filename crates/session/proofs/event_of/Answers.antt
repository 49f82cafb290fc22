-- `session::event_of` meets its contract. Assumes nothing.
use mathlib.Core.Path.{refl}
use Rattle.transcript.specs.Output.{event_of}
use Rattle.session.proofs.event_of.Goals as goal

pub returns : goal.returns
unfolding event_of
returns c = refl

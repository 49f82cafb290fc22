-- `session::opened` meets its contract. Assumes nothing.
use mathlib.Core.Path.{refl}
use Rattle.meaning.specs.Outcome.{state_of}
use Rattle.session.specs.Lefts.{opened_session}
use Rattle.session.proofs.opened.Goals as goal

pub returns : goal.returns
unfolding opened_session state_of
returns c = refl

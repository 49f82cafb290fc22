-- `number_of` meets its contract: it reads the place that its variable, value and fact have in the table. Assumes nothing.
use mathlib.Core.Path.{refl}
use Rattle.numbers.specs.Asking.{number_at}
use Rattle.numbers.proofs.number_of.Goals as goal

pub returns : goal.returns
unfolding number_at
returns c = refl

-- `along` meets its contract. Assumes nothing.
use mathlib.Core.Path.{refl}
use Rattle.making.proofs.into.along.Goals as goal

pub returns-in-None : goal.returns-in-None
returns-in-None c = rw c.in-None.is (record { below = c.requires.p_bound.0; is = refl })

pub returns-in-Some : goal.returns-in-Some
returns-in-Some c = rw c.in-Some.is c.along_bits.ensures

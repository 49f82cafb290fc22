-- `k_right` meets its contract. Assumes nothing.
use native.Mathlib.Omega.{arith}
use Rattle.std.proofs.lemmas.Bool.Decides.{nat_tests}
use Rattle.meaning.specs.Outcome.{k_right}
use Rattle.numbers.proofs.k_right.Goals as goal

pub returns : goal.returns
unfolding k_right
returns c = rw (c.contains.ensures.value, c.new.ensures.start, c.new.ensures.end, c.new.ensures.exhausted) (grind (arith, nat_tests))

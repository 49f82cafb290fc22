-- `Known::predicate` meets its contract. Assumes nothing.
use native.Mathlib.Omega.{arith}
use Rattle.drive.proofs.known.Known.predicate.Goals as goal

pub overflow_cast-result : goal.overflow_cast-result
overflow_cast-result c = omega (arith, (rw c.predicate_names.ensures.1 at c.number.ensures.few), c.args.self.few.0)

pub returns : goal.returns
returns c = (rw (c.predicate_names.ensures.0, c.predicate_names.ensures.1) at c.number.ensures.number)

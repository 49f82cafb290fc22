-- `Known::slot` meets its contract. Assumes nothing.
use native.Mathlib.Omega.{arith}
use Rattle.drive.proofs.known.Known.slot.Goals as goal

pub overflow_cast-result : goal.overflow_cast-result
overflow_cast-result c = omega (arith, (rw c.variable_names.ensures.1 at c.number.ensures.few), c.args.self.few.1)

pub returns-clause-slot : goal.returns-clause-slot
returns-clause-slot c = (rw (c.variable_names.ensures.0, c.variable_names.ensures.1) at c.number.ensures.number)

pub returns-clause-small : goal.returns-clause-small
returns-clause-small c = omega (arith, (rw c.variable_names.ensures.1 at c.number.ensures.few), c.args.self.few.1)

-- `packing::told` meets its contract: each arm by its variant. Assumes nothing.
use mathlib.Core.Path.{ap, sym}
use Rattle.linked.specs.Packing.{packed_lookup}
use Rattle.linked.proofs.packing.told.Goals as goal

pub returns-in-Has : goal.returns-in-Has
unfolding packed_lookup
returns-in-Has c = sym (ap packed_lookup c.in-Has.is)

pub returns-in-OneLeft : goal.returns-in-OneLeft
unfolding packed_lookup
returns-in-OneLeft c = sym (ap packed_lookup c.in-OneLeft.is)

pub returns-in-NoneLeft : goal.returns-in-NoneLeft
unfolding packed_lookup
returns-in-NoneLeft c = sym (ap packed_lookup c.in-NoneLeft.is)

pub returns-in-Misfit : goal.returns-in-Misfit
unfolding packed_lookup
returns-in-Misfit c = sym (ap packed_lookup c.in-Misfit.is)

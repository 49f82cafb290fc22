-- `packing::first_four` meets its contract: each arm by its variant. Assumes nothing.
use mathlib.Core.Path.{ap, refl, sym}
use Rattle.linked.specs.Packing.{first_four}
use Rattle.linked.proofs.PackingLaws.{bit_is}
use Rattle.linked.proofs.packing.first_four.Goals as goal

pub returns-in-Started : goal.returns-in-Started
unfolding first_four
returns-in-Started c = sym (ap first_four c.in-Started.is)

pub returns-in-Verdict : goal.returns-in-Verdict
unfolding first_four
returns-in-Verdict c = rw (c.in-Verdict.is, c.from.ensures, bit_is) refl

pub returns-in-Refused : goal.returns-in-Refused
unfolding first_four
returns-in-Refused c = sym (ap first_four c.in-Refused.is)

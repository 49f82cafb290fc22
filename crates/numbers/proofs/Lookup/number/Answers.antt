-- `Lookup::number` meets its contract, arm by arm. Assumes nothing.
use Rattle.std.proofs.Common.{inl, inr}
use Rattle.numbers.specs.Looking.{number_told}
use Rattle.numbers.proofs.Lookup.number.Goals as goal

pub returns-in-Has : goal.returns-in-Has
unfolding number_told
returns-in-Has c = rw c.in-Has.is

pub returns-in-OneLeft : goal.returns-in-OneLeft
unfolding number_told
returns-in-OneLeft c = elim c.in-OneLeft.is [ inl e ↦ rw e | inr f ↦ elim f [ inl e ↦ rw e | inr e ↦ rw e ] ]

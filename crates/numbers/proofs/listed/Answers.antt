-- `listed` meets its contract: the four parts fit. Assumes nothing.
use native.Mathlib.Omega.{arith}
use Rattle.numbers.proofs.StartLaws.{most_le}
use Rattle.numbers.proofs.listed.Goals as goal

pub returns : goal.returns
returns c = omega (arith, c.most.ensures, most_le _ c.requires)

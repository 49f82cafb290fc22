-- `settle` meets its contract. Assumes nothing.
use Rattle.binding.proofs.FixLaws.{settles_one}
use Rattle.binding.proofs.settle.Goals as goal

pub returns-clause-settles : goal.returns-clause-settles
returns-clause-settles c = settles_one _ c.args.level c.args.fixed.now c.possible.ensures.value c.if-possible.false

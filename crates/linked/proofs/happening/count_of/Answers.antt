-- `happening::count_of` meets its contract. Assumes nothing.
use Rattle.linked.specs.Happening.{count_of}
use Rattle.linked.proofs.happening.count_of.Goals as goal

pub returns : goal.returns
unfolding count_of
returns c = c.min.ensures

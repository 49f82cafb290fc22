-- `stack::finish` meets its contract. Assumes nothing.
use Rattle.rowing.proofs.ShutLaws.{finish_all}
use Rattle.rowing.proofs.stack.finish.Goals as goal

pub returns : goal.returns
returns g c = finish_all _ _ _ _ _ _ c.fill.ensures.fills

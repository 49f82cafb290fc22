-- `Stack::new` meets its contract. Assumes nothing.
use mathlib.Core.Path.{refl}
use Rattle.rowing.proofs.StackLaws.{waiting_none}
use Rattle.rowing.proofs.stack.Stack.new.Goals as goal

pub returns : goal.returns
returns g c = waiting_none _ 0 refl

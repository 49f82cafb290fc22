-- `Stack::push` meets its contract. Assumes nothing.
use native.Mathlib.Omega.{arith}
use mathlib.Core.Path.{ap}
use lib.ListN.{length}
use Rattle.rowing.proofs.StackLaws.{waiting_length, waiting_set}
use Rattle.rowing.proofs.stack.Stack.push.Goals as goal

pub bounds-self-inside-self-inside : goal.bounds-self-inside-self-inside
bounds-self-inside-self-inside g c = omega (arith, ap length c.self.view_is, waiting_length c.self.inside.frames c.self.inside.top, c.requires)

pub invariant_of-self : goal.invariant_of-self
invariant_of-self g c = omega (arith, ap length c.self.view_is, waiting_length c.self.inside.frames c.self.inside.top, c.requires)

pub returns : goal.returns
returns g c = rw (← c.self.view_is) (waiting_set _ _ _ (omega (arith, ap length c.self.view_is, waiting_length c.self.inside.frames c.self.inside.top, c.requires)))

-- `go_on` meets its contract. Assumes nothing.
use native.Mathlib.Omega.{arith}
use Rattle.card_block.specs.Judging.{open_at}
use Rattle.card_block.proofs.WalkLaws.{onward_ends, onward_first, onward_more}
use Rattle.card_block.proofs.moments.go_on.Goals as goal

pub returns-then-last : goal.returns-then-last
returns-then-last c = rw c.if-last.true (onward_ends _ _)

pub overflow_add-result : goal.overflow_add-result
unfolding open_at
overflow_add-result c = let few = rw c.in-Some.is at c.requires in omega (arith, few)

pub returns-in-None : goal.returns-in-None
returns-in-None c = rw (c.if-last.false, c.in-None.is) (onward_first _)

pub returns-in-Some : goal.returns-in-Some
returns-in-Some c = rw (c.if-last.false, c.in-Some.is) (onward_more _ _)

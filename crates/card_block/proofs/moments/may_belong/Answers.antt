-- `may_belong` meets its contract. Assumes nothing.
use native.Mathlib.Omega.{arith}
use Rattle.card_block.proofs.WalkLaws.{begins, ninth, follows}
use Rattle.card_block.proofs.moments.may_belong.Goals as goal

pub returns-in-None : goal.returns-in-None
returns-in-None c = rw c.in-None.is (begins _)

pub returns-then-m-lt-MOST : goal.returns-then-m-lt-MOST
returns-then-m-lt-MOST c = rw c.in-Some.is (follows _ _ (omega (arith, c.if-m-lt-MOST.true)))

pub returns-else-m-lt-MOST : goal.returns-else-m-lt-MOST
returns-else-m-lt-MOST c = rw c.in-Some.is (ninth _ _ (omega (arith, c.if-m-lt-MOST.false)))

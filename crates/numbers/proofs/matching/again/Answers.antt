-- `again` meets its contract: each return by the tests that led there. Assumes nothing.
use Rattle.std.proofs.Common.{rules}
use Rattle.rule.specs.Decoded.{argument_of}
use Rattle.numbers.specs.Matching.{same_at}
use Rattle.numbers.proofs.matching.again.Goals as goal

pub returns-then-v-w : goal.returns-then-v-w
unfolding same_at argument_of
returns-then-v-w c = rw c.in-Variable.is (search rules)

pub returns-else-v-w : goal.returns-else-v-w
unfolding same_at argument_of
returns-else-v-w c = rw c.in-Variable.is (search rules)

pub returns-in-Constant : goal.returns-in-Constant
unfolding same_at argument_of
returns-in-Constant c = rw c.in-Constant.is

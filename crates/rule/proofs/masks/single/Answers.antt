-- `rule::masks::single` meets its contract: the bit of each variable. Assumes nothing.
use native.Mathlib.Omega.{arith}
use Rattle.rule.proofs.MasksLaws.{single_some, single_none}
use Rattle.rule.proofs.masks.single.Goals as goal

pub returns-then-v-lt4 : goal.returns-then-v-lt4
returns-then-v-lt4 c = single_some c.args.v c.if-v-lt4.true

pub returns-else-v-lt4 : goal.returns-else-v-lt4
returns-else-v-lt4 c = single_none c.args.v (omega arith)

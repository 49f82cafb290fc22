-- `rule::right::pair_right` meets its contract: each return by the tests that led there. Assumes nothing.
use Rattle.std.proofs.Common.{rules}
use Rattle.meaning.specs.Rows.{pair_right}
use Rattle.rule.proofs.right.pair_right.Goals as goal

pub returns-then-x-lt4 : goal.returns-then-x-lt4
unfolding pair_right
returns-then-x-lt4 c = search rules

pub returns-else-x-lt4 : goal.returns-else-x-lt4
unfolding pair_right
returns-else-x-lt4 c = search rules

pub returns-then-mark-eq0-2 : goal.returns-then-mark-eq0-2
unfolding pair_right
returns-then-mark-eq0-2 c = search rules

pub returns-else-mark-eq0-2 : goal.returns-else-mark-eq0-2
unfolding pair_right
returns-else-mark-eq0-2 c = search rules

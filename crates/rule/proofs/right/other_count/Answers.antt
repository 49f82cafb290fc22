-- `rule::right::other_count` meets its contract: each return by the tests that led there. Assumes nothing.
use Rattle.std.proofs.Common.{rules}
use Rattle.rule.specs.Checking.{other_count}
use Rattle.rule.proofs.right.other_count.Goals as goal

pub returns-then-is_atom_of : goal.returns-then-is_atom_of
unfolding other_count
returns-then-is_atom_of c = search rules

pub returns-else-is_atom_of : goal.returns-else-is_atom_of
unfolding other_count
returns-else-is_atom_of c = search rules

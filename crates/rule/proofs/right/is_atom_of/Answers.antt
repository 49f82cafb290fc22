-- `rule::right::is_atom_of` meets its contract: each return by the tests that led there. Assumes nothing.
use Rattle.std.proofs.Common.{rules}
use Rattle.rule.specs.Checking.{atom_of}
use Rattle.rule.proofs.right.is_atom_of.Goals as goal

pub returns-then-field_of-eq-ATOM : goal.returns-then-field_of-eq-ATOM
unfolding atom_of
returns-then-field_of-eq-ATOM c = search rules

pub returns-else-field_of-eq-ATOM : goal.returns-else-field_of-eq-ATOM
unfolding atom_of
returns-else-field_of-eq-ATOM c = search rules

-- `rule::right::use_of` meets its contract: the constant is the table of specs/Table. Assumes nothing.
use mathlib.Core.Path.{refl}
use Rattle.rule.specs.Table.{table, entry}
use Rattle.rule.proofs.right.use_of.Goals as goal

pub returns : goal.returns
unfolding entry table
returns c = refl

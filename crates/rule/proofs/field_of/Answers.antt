-- `rule::field_of` meets its contract: the number read is the field. Assumes nothing.
use mathlib.Core.Path.{refl}
use Rattle.meaning.specs.Rows.{field}
use Rattle.rule.proofs.field_of.Goals as goal

pub returns : goal.returns
unfolding field
returns c = refl

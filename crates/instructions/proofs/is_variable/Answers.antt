-- `plan::is_variable` meets its contract: a variable is compared, a constant is none. Assumes nothing.
use mathlib.Core.Path.{refl}
use Rattle.rule.specs.Decoded.{argument_of}
use Rattle.instructions.specs.Read.{names}
use Rattle.instructions.proofs.ReadLaws.{argument_is}
use Rattle.instructions.proofs.is_variable.Goals as goal

pub returns-in-Variable : goal.returns-in-Variable
unfolding argument_of names
returns-in-Variable c = argument_is _ c.in-Variable.is refl

pub returns-in-Constant : goal.returns-in-Constant
unfolding argument_of names
returns-in-Constant c = argument_is _ c.in-Constant.is refl

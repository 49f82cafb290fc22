-- `first_fits` meets its contract: a variable by its later places, a constant by its value. Assumes nothing.
use mathlib.Core.Path.{◌∙◌}
use Rattle.numbers.proofs.FitLaws.{first_variable, first_constant}
use Rattle.numbers.proofs.matching.first_fits.Goals as goal

pub returns-in-Variable : goal.returns-in-Variable
returns-in-Variable c = c.repeats.ensures ∙ first_variable _ _ _ _ _ c.in-Variable.is

pub returns-in-Constant : goal.returns-in-Constant
returns-in-Constant c = first_constant _ _ _ _ _ c.in-Constant.is

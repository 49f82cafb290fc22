-- The numbers by which the definitions know what the code shows as modes. Assumes nothing.
use Rattle.std.specs.Prelude.{ℕ}
use Rattle.spelling.specs.declared.modes.Mode.{Mode}
use Rattle.spelling.specs.declared.modes.Mode.TheVariants.{Operand, Operator, AfterName, Variable, AfterVariable, Argument, AfterArgument, Nothing}

-- the number of a mode
abbrev pub mode_code : Mode → ℕ
mode_code Operand = 0
mode_code Operator = 1
mode_code AfterName = 2
mode_code Variable = 3
mode_code AfterVariable = 4
mode_code Argument = 5
mode_code AfterArgument = 6
mode_code Nothing = 7

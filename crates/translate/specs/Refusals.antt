-- The numbers and places of refusals. Assumes nothing: these are definitions.
use Rattle.std.specs.Prelude.{ℕ}
use Rattle.scan.specs.declared.Stop.{Stop}
use Rattle.translate.specs.declared.refusals.Refusal.{Refusal}
use Rattle.translate.specs.declared.refusals.Refusal.TheVariants.{WrongSlice, TooLong, NoText, LargeConstant, ManyArguments, ManyVariables, TwoCounts, FreeVariable, ManyRows}

abbrev pub number_of : Refusal → ℕ
number_of WrongSlice = 1
number_of TooLong = 2
number_of (NoText place) = 3
number_of LargeConstant = 4
number_of ManyArguments = 5
number_of ManyVariables = 6
number_of TwoCounts = 7
number_of FreeVariable = 8
number_of ManyRows = 9

abbrev pub place_of : Refusal → ℕ
place_of WrongSlice = 0
place_of TooLong = 0
place_of (NoText place) = place
place_of LargeConstant = 0
place_of ManyArguments = 0
place_of ManyVariables = 0
place_of TwoCounts = 0
place_of FreeVariable = 0
place_of ManyRows = 0

-- the refusal of a text that stops
abbrev pub no_text : Stop → Refusal
no_text stop = NoText stop.place

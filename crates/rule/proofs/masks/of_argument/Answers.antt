-- `rule::masks::of_argument` meets its contract: a variable has its bit, a constant none. Assumes nothing.
use mathlib.Core.Path.{refl}
use Rattle.meaning.specs.Qtl.{free_arguments}
use Rattle.rule.specs.Masks.{mask_of, digit}
use Rattle.rule.specs.Decoded.{argument_of}
use Rattle.rule.proofs.MasksLaws.{argument_is, variable_is}
use Rattle.rule.proofs.masks.of_argument.Goals as goal

pub returns-in-Variable : goal.returns-in-Variable
unfolding argument_of
returns-in-Variable c = argument_is c.in-Variable.is (variable_is _ c.single.ensures)

pub returns-in-Constant : goal.returns-in-Constant
unfolding argument_of free_arguments mask_of digit
returns-in-Constant c = argument_is c.in-Constant.is refl

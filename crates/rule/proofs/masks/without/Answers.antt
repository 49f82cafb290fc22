-- `rule::masks::without` meets its contract: the bits but one. Assumes nothing.
use native.Mathlib.Omega.{arith}
use lib.Dec.{eqb}
use Rattle.rule.proofs.MasksLaws.{mask_and, mask_small}
use Rattle.rule.proofs.masks.without.Goals as goal

pub overflow_sub-result : goal.overflow_sub-result
overflow_sub-result c = omega (arith, c.single.ensures, mask_small (eqb c.args.x))

pub returns : goal.returns
returns c = mask_and _ _ _ c.single.ensures

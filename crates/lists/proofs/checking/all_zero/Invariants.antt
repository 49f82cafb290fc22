-- `all_zero` meets its contract. The loop keeps that the bits so far are 0 exactly if the numbers so far are. Assumes nothing.
use mathlib.Core.Path.{◌≡◌}
use lib.Dec.{eqb}
use lib.ListN.{get_or}
use Rattle.trees.specs.Kept.{all_below}
use Rattle.lists.proofs.checking.all_zero.Given as goal

abbrev pub invariant-loop-x : goal.invariant-loop-x
invariant-loop-x l = eqb l.bits 0 ≡ all_below l.x-index (λ j. eqb (get_or l.list j 0) 0)

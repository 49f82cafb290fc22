-- `laying::lay` meets its contract. The loop's invariant: the values so far are laid. Assumes nothing.
use mathlib.Core.Path.{◌≡◌}
use lib.ListN.{length}
use lib.Seq.{paste}
use Rattle.translate.specs.Translated.{laid}
use Rattle.translate.proofs.laying.lay.Given as goal

abbrev pub invariant-loop-i : goal.invariant-loop-i
invariant-loop-i g l = l.to ≡ paste l.initial.to 0 (laid l.rest (length l.initial.to) l.from) l.i

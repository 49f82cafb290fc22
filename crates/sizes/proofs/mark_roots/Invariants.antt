-- `mark_roots` meets its contract. The loop's invariant: the roots of the first t rows are marked. Assumes nothing.
use mathlib.Core.Path.{◌≡◌}
use mathlib.Core.List.{map}
use Rattle.sizes.specs.Words.{has_row, given}
use Rattle.sizes.proofs.mark_roots.Given as goal

abbrev pub invariant-loop-t : goal.invariant-loop-t
invariant-loop-t l = map (has_row l.base) l.words ≡ given (map (has_row l.base) l.initial.words) l.refs l.base l.t

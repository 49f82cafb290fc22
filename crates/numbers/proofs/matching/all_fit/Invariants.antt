-- `all_fit` meets its contract. The loop keeps that what is left of the walk decides. Assumes nothing.
use mathlib.Core.Path.{◌≡◌}
use mathlib.Core.List.{map}
use lib.ListN.{drop}
use Rattle.meaning.specs.Numbering.{fits}
use Rattle.rule.specs.Decoded.{argument_of}
use Rattle.numbers.specs.Matching.{bare}
use Rattle.numbers.proofs.matching.all_fit.Given as goal

abbrev pub invariant-loop-i : goal.invariant-loop-i
invariant-loop-i l = fits (map argument_of l.arguments) (bare l.values) ≡ fits (map argument_of (drop l.i l.arguments)) (bare (drop l.i l.values))

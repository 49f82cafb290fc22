-- `value_at` meets its contract. Assumes nothing.
use mathlib.Core.Path.{sym}
use Rattle.numbers.proofs.MatchingLaws.{value_is}
use Rattle.numbers.proofs.value_at.Goals as goal

pub returns : goal.returns
returns c = let s = c in sym (value_is s.args.fact s.args.j s.requires.0)

-- `rule::right::pairs_used` meets its contract: by the entry of the pairs. Assumes nothing.
use mathlib.Core.Path.{sym, ◌∙◌}
use Rattle.rule.proofs.TableLaws.{pairs_unused, pairs_used}
use Rattle.rule.proofs.right.pairs_used.Goals as goal

pub returns-in-Arguments : goal.returns-in-Arguments
returns-in-Arguments c = pairs_used _ _ c.requires.0 c.requires.1 (sym c.use_of.ensures ∙ c.in-Arguments.is)

pub returns-in_default : goal.returns-in_default
returns-in_default c = pairs_unused _ _ (λ e. c.in_default.not-Arguments (c.use_of.ensures ∙ e))

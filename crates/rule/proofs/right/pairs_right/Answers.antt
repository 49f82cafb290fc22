-- `rule::right::pairs_right` meets its contract: each of the three is asked. Assumes nothing.
use Rattle.std.proofs.Common.{rules, tests, refl, ◌∙◌}
use Rattle.std.proofs.lemmas.Iterator.{YieldsList-from_range}
use Rattle.std.proofs.lemmas.Iterator.Search.{all_from_yields_List}
use Rattle.rule.specs.Checking.{pairs_right}
use Rattle.rule.proofs.AgreesLaws.{all_numbers}
use Rattle.rule.proofs.RightLaws.{pair_at}
use Rattle.rule.proofs.right.pairs_right.Goals as goal

pub returns : goal.returns
unfolding pairs_right
returns c =
    all_from_yields_List (pair_at c.args.rows.now c.args.i c.args.used) _ _ _ c.all.ensures.ran (YieldsList-from_range 0 3 3 refl refl) (λ x b q k. search (rules, tests))
    ∙ all_numbers 3 (pair_at c.args.rows.now c.args.i c.args.used)

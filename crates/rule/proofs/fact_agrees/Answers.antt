-- `rule::fact_agrees` meets its contract: every row is asked. Assumes nothing.
use Rattle.std.proofs.Common.{rules, tests, arith, ◌∙◌, refl, not, length, ◌/◌}
use borrow.Author.Tests.{lt-leb}
use Rattle.std.proofs.lemmas.Iterator.{YieldsList-from_range}
use Rattle.std.proofs.lemmas.Iterator.Search.{all_from_yields_List}
use Rattle.meaning.specs.Rows.{count_of_rows}
use Rattle.rule.specs.Checking.{other_count}
use Rattle.rule.proofs.AgreesLaws.{all_numbers, counts_high, counts_all}
use Rattle.rule.proofs.fact_agrees.Goals as goal

pub returns-then-count-le-MOST_VALUES : goal.returns-then-count-le-MOST_VALUES
unfolding count_of_rows
returns-then-count-le-MOST_VALUES c =
    counts_all _ _ _ c.if-count-le-MOST_VALUES.true
    (all_from_yields_List (λ i. not (other_count c.args.rows.now i c.args.predicate c.args.count)) _ _ _ c.all.ensures.ran (YieldsList-from_range 0 (length c.args.rows.now / 9) (length c.args.rows.now / 9) refl (omega arith)) (λ x b q k. search (rules, tests))
    ∙ all_numbers (length c.args.rows.now / 9) (λ i. not (other_count c.args.rows.now i c.args.predicate c.args.count)))

pub returns-else-count-le-MOST_VALUES : goal.returns-else-count-le-MOST_VALUES
returns-else-count-le-MOST_VALUES c = rw (lt-leb c.args.count 3 (omega arith)) (counts_high _ _ _ (omega arith))

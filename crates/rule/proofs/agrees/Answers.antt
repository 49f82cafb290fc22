-- `rule::agrees` meets its contract: every fact that counts is asked. Assumes nothing.
use Rattle.std.proofs.Common.{rules, arith}
use Rattle.std.proofs.lemmas.Iterator.{YieldsList-from_slice, YieldsList-from_take}
use Rattle.std.proofs.lemmas.Iterator.Search.{all_from_yields_List}
use Rattle.meaning.specs.Rows.{rule_of}
use Rattle.meaning.specs.Outcome.{fact_right}
use Rattle.rule.proofs.AgreesLaws.{event_high, event_all, fact_found}
use Rattle.rule.proofs.agrees.Goals as goal

pub returns-then-event-gt-MOST_FACTS : goal.returns-then-event-gt-MOST_FACTS
returns-then-event-gt-MOST_FACTS c = event_high _ _ (omega arith)

pub returns : goal.returns
returns c =
    event_all _ _ c.if-event-gt-MOST_FACTS.false
    (all_from_yields_List (fact_right (rule_of c.args.rows.now)) _ _ _ c.all.ensures.ran (YieldsList-from_take c.args.event.count (YieldsList-from_slice c.args.event.facts cc) cc) (λ x b q k. search (rules, fact_found)))

-- `happening::event` meets its contract: its facts are read one after the other. Assumes nothing.
use mathlib.Core.Path.{◌∙◌}
use native.Mathlib.Omega.{arith}
use lib.ListN.{length-set}
use Rattle.std.proofs.lemmas.List.Edits.{fill_by_more}
use Rattle.linked.specs.Happening.{fact_at}
use Rattle.linked.proofs.HappeningLaws.{event_read}
use Rattle.linked.proofs.happening.event.Goals as goal

pub loop-i-preserved : goal.loop-i-preserved
loop-i-preserved c = rw c.fact_at.ensures (
  length-set c.loop-i.facts c.loop-i.i _ ∙ c.loop-i.invariant.0,
  λ d. fill_by_more (fact_at c.args.numbers.now) c.loop-i.facts c.loop-i.i d (omega arith) (c.loop-i.invariant.1 d),
)

pub returns : goal.returns
returns c = event_read _ _ _ c.count_of.ensures c.loop-i.invariant.0 (λ d k h. c.loop-i.invariant.1 d k (omega arith))

-- `reading::placed` meets its contract. Assumes nothing.
use mathlib.Core.Path.{ap, ◌∙◌}
use lib.ListN.{length-replicate}
use Rattle.census.specs.declared.spans.Span.{Span}
use Rattle.census.specs.Tables.{nowhere}
use Rattle.translate.specs.Translated.{laid}
use Rattle.translate.proofs.reading.placed.Goals as goal

pub returns : goal.returns
returns g c = c.lay.ensures ∙ ap (λ n. laid nowhere n c.args.from.now) (length-replicate {A = Span} _ nowhere)

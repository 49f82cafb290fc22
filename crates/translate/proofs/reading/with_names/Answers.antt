-- `reading::with_names` meets its contract. Assumes nothing.
use mathlib.Core.Path.{refl}
use Rattle.translate.proofs.TranslatedLaws.{says_6, variables_known, predicates_known}
use Rattle.translate.proofs.reading.with_names.Goals as goal

pub returns-in_default : goal.returns-in_default
returns-in_default c = (says_6 c.args.text.now c.args.rows.now c.requires.has_reading.0 c.requires.has_reading.1 c.requires.rows_len c.requires.has_reading.2 _ c.in_default.ensures c.names.auto.spans, refl)

pub with_known-requires-clause-names : goal.with_known-requires-clause-names
with_known-requires-clause-names c = (predicates_known _ _ _ c.in-Some-names.ensures c.names-2.auto.spans, variables_known _ _ _ c.in-Some.ensures c.names.auto.spans)

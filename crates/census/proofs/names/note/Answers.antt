-- `names::note` meets its contract. Assumes nothing.
use native.Mathlib.Omega.{arith}
use mathlib.Core.Path.{refl, sym, ◌∙◌}
use Rattle.census.proofs.TableLaws.{note_unasked, note_old, note_full, note_new}
use Rattle.census.proofs.names.note.Goals as goal

pub returns-then-not-is_name : goal.returns-then-not-is_name
returns-then-not-is_name c = note_unasked _ _ _ c.requires.bounds.1 c.requires.table.0 _ _ (sym c.is_name.ensures ∙ c.if-not-is_name.true)

pub returns-then-is_some : goal.returns-then-is_some
returns-then-is_some c = note_old _ _ _ c.requires.bounds.1 c.requires.table.0 _ _ (sym c.is_name.ensures ∙ c.if-not-is_name.false) _ c.find.ensures (sym c.is_some.ensures ∙ c.if-is_some.true)

pub returns-then-n-spans : goal.returns-then-n-spans
returns-then-n-spans c = note_full _ _ _ c.requires.bounds.1 c.requires.table.0 _ _ (sym c.is_name.ensures ∙ c.if-not-is_name.false) _ c.find.ensures (sym c.is_some.ensures ∙ c.if-is_some.false) (omega arith)

pub returns : goal.returns
returns c = note_new _ _ _ c.requires.bounds.1 c.requires.table.0 _ _ (sym c.is_name.ensures ∙ c.if-not-is_name.false) _ c.find.ensures (sym c.is_some.ensures ∙ c.if-is_some.false) _ _ (omega arith) refl (omega (arith, c.requires.table.1.order, c.requires.table.1.inside))

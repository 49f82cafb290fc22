-- `look_on` meets its contract. Assumes nothing.
use mathlib.Core.Path.{refl, sym, ◌∙◌}
use native.Mathlib.Omega.{arith}
use borrow.Author.Tests.{eq-eqb, ne_eqb}
use Rattle.card_mender.proofs.WeighLaws.{all_flagged, looked_comes, looked_more}
use Rattle.card_mender.proofs.looking.look_on.Goals as goal

pub past_last-requires : goal.past_last-requires
past_last-requires c = (omega arith, omega (arith, c.requires.whole, c.requires.few, c.records.ensures))

pub returns-then-past_last-ne0 : goal.returns-then-past_last-ne0
returns-then-past_last-ne0 c = looked_comes _ _ (sym (all_flagged c.args.piece.now _ _ c.records.ensures c.past_last.ensures) ∙ rw (ne_eqb _ 0 c.if-past_last-ne0.true) refl)

pub returns : goal.returns
returns c = looked_more _ _ (sym (all_flagged c.args.piece.now _ _ c.records.ensures c.past_last.ensures) ∙ rw (eq-eqb _ 0 c.if-past_last-ne0.false) refl)

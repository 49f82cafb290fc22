-- `looks::after_letters` meets its contract. Assumes nothing.
use mathlib.Core.Path.{refl, sym, ◌∙◌}
use Rattle.scan.proofs.StepLaws.{letters_more, letters_stop, letters_none, letters_next}
use Rattle.scan.proofs.looks.after_letters.Goals as goal

pub returns-then-grows : goal.returns-then-grows
returns-then-grows c = letters_more _ _ _ _ _ _ c.requires.0 c.requires.1 _ refl (sym c.is_word_byte.ensures ∙ c.if-is_word_byte.true) c.grows.ensures c.if-grows.true

pub returns-then-is_word_byte : goal.returns-then-is_word_byte
returns-then-is_word_byte c = letters_stop _ _ _ _ _ _ c.requires.0 c.requires.1 _ refl (sym c.is_word_byte.ensures ∙ c.if-is_word_byte.true) c.grows.ensures c.if-grows.false

pub returns-in_err-after : goal.returns-in_err-after
returns-in_err-after c = rw c.from_residual.ensures (letters_none _ _ _ _ _ _ c.requires.0 c.requires.1 _ refl (sym c.is_word_byte.ensures ∙ c.if-is_word_byte.false) c.word_of.ensures c.in_err-after.ensures)

pub returns : goal.returns
returns c = letters_next _ _ _ _ _ _ c.requires.0 c.requires.1 _ _ _ _ refl (sym c.is_word_byte.ensures ∙ c.if-is_word_byte.false) c.word_of.ensures c.in_ok-after.ensures c.begin.ensures

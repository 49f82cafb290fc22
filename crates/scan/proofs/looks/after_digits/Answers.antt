-- `looks::after_digits` meets its contract. Assumes nothing.
use mathlib.Core.Path.{refl, sym, ◌∙◌}
use Rattle.scan.proofs.StepLaws.{digit_as, digits_more, digits_stop, digits_none, digits_next}
use Rattle.scan.proofs.looks.after_digits.Goals as goal

pub returns-then-is_ascii_digit : goal.returns-then-is_ascii_digit
returns-then-is_ascii_digit c = digits_more _ _ _ _ _ _ c.requires.0 c.requires.1 refl (sym c.is_word_byte.ensures ∙ c.if-is_word_byte.true) (sym (digit_as _ _ c.is_ascii_digit.ensures.cases) ∙ c.if-is_ascii_digit.true)

pub returns-then-is_word_byte : goal.returns-then-is_word_byte
returns-then-is_word_byte c = digits_stop _ _ _ _ _ _ c.requires.0 c.requires.1 refl (sym c.is_word_byte.ensures ∙ c.if-is_word_byte.true) (sym (digit_as _ _ c.is_ascii_digit.ensures.cases) ∙ c.if-is_ascii_digit.false)

pub returns-in_err-after : goal.returns-in_err-after
returns-in_err-after c = rw c.from_residual.ensures (digits_none _ _ _ _ _ _ c.requires.0 c.requires.1 refl (sym c.is_word_byte.ensures ∙ c.if-is_word_byte.false) c.in_err-after.ensures)

pub returns : goal.returns
returns c = digits_next _ _ _ _ _ _ c.requires.0 c.requires.1 _ _ _ refl (sym c.is_word_byte.ensures ∙ c.if-is_word_byte.false) c.in_ok-after.ensures c.begin.ensures

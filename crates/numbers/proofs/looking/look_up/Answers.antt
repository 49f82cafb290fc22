-- `look_up` meets its contract: there is nothing to look in, or the part is. Assumes nothing.
use mathlib.Core.Path.{sym, ◌∙◌}
use Rattle.numbers.proofs.LookLaws.{few_bits, inside, looks_in, misfit}
use Rattle.numbers.proofs.looking.look_up.Goals as goal

pub returns-then-not-readable : goal.returns-then-not-readable
returns-then-not-readable c = misfit _ _ _ _ _ (sym c.readable.ensures ∙ c.if-not-readable.true)

pub most-requires : goal.most-requires
most-requires c = few_bits _ _ _ _ (sym c.readable.ensures ∙ c.if-not-readable.false)

pub look-requires : goal.look-requires
look-requires c = rw c.most.ensures (inside _ _ _ _ (sym c.readable.ensures ∙ c.if-not-readable.false))

pub returns : goal.returns
returns c = rw c.most.ensures at c.look.ensures ∙ looks_in _ _ _ _ (sym c.readable.ensures ∙ c.if-not-readable.false) _

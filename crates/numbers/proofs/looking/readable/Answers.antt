-- `readable` meets its contract: each return by the tests that led there. Assumes nothing.
use mathlib.Core.Path.{sym, ◌∙◌}
use borrow.Author.Tests.{ne_eqb}
use Rattle.numbers.proofs.LookLaws.{wrong_k, small, no_parts, no_variable, counted}
use Rattle.numbers.proofs.looking.readable.Goals as goal
use Rattle.numbers.proofs.looking.readable.Goals.{then-not-k_right-via-then-not-k_right, then-not-k_right-via-else-not-k_right+then-variable-gt3}

pub returns-then-not-k_right : goal.returns-then-not-k_right
returns-then-not-k_right c =
    elim c.then-not-k_right.branch [
      | then-not-k_right-via-then-not-k_right w ↦ wrong_k _ _ _ _ (sym c.k_right.ensures ∙ w.if-not-k_right.true)
      | then-not-k_right-via-else-not-k_right+then-variable-gt3 w ↦ no_variable _ _ _ _ w.if-variable-gt3.true
    ]

pub listed-requires : goal.listed-requires
listed-requires c = small _ (sym c.k_right.ensures ∙ c.if-not-k_right.false)

pub returns-then-values-listed : goal.returns-then-values-listed
returns-then-values-listed c =
    rw c.most.ensures (counted _ _ _ _ (sym c.k_right.ensures ∙ c.if-not-k_right.false) (rw c.listed.ensures at c.if-values-listed.true) c.if-variable-gt3.false)

pub returns-else-values-listed : goal.returns-else-values-listed
returns-else-values-listed c = ne_eqb _ _ c.if-values-listed.false ∙ no_parts _ _ _ _ (sym c.k_right.ensures ∙ c.if-not-k_right.false) (λ e. c.if-values-listed.false (rw c.listed.ensures e))

pub most-requires : goal.most-requires
most-requires c = small _ (sym c.k_right.ensures ∙ c.if-not-k_right.false)

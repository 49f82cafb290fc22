-- `checked` meets its contract. Assumes nothing.
use borrow.Author.Tests.{eq-eqb, ne_eqb}
use mathlib.Core.Path.{refl, sym, ◌∙◌}
use native.Mathlib.Omega.{arith}
use Rattle.std.proofs.Common.{length-take}
use Rattle.card_block.proofs.TestLaws.{check_tests}
use Rattle.card_block.proofs.sums.checked.Goals as goal

pub slice_bounds-check_of-end : goal.slice_bounds-check_of-end
slice_bounds-check_of-end c = omega (arith, length-take 510 c.args.piece.now, c.requires)

pub returns-then-sums-from : goal.returns-then-sums-from
returns-then-sums-from c =
    sym (check_tests c.args.piece.now _ _ _ _ c.requires c.check_of-sums.ensures c.from.ensures c.from-then-sums-from.ensures
    ∙ rw (eq-eqb _ _ c.if-sums-from.true))

pub returns-else-sums-from : goal.returns-else-sums-from
returns-else-sums-from c =
    rw (ne_eqb _ _ c.if-sums-from.false)
    (sym (check_tests c.args.piece.now _ _ _ _ c.requires c.check_of-sums.ensures c.from.ensures refl ∙ rw (ne_eqb _ _ c.if-sums-from.false)))

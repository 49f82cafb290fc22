-- `monitor::lent::lists_right` meets its contract: the count of rows, and then the lists. Assumes nothing.
use mathlib.Core.Path.{◌∙◌}
use native.Mathlib.Omega.{arith}
use borrow.Author.Tests.{ne_eqb}
use Rattle.monitor.proofs.LentLaws.{beyond_same, other_rows, same_rows}
use Rattle.monitor.proofs.lent.lists_right.Goals as goal

pub returns-then-figures-n : goal.returns-then-figures-n
returns-then-figures-n c =
    record { value = same_rows _ _ _ _ c.if-figures-n.true c.lists_right.ensures.answer; beyond = record { size = c.lists_right.auto.work; rest = c.lists_right.ensures.beyond } }

pub returns-else-figures-n : goal.returns-else-figures-n
returns-else-figures-n c =
    record { value = ne_eqb c.args.figures.rows c.args.n (λ e. omega (arith, c.if-figures-n.false)) ∙ other_rows _ _ _ (λ e. omega (arith, c.if-figures-n.false)); beyond = beyond_same _ _ }

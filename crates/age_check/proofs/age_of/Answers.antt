-- `age_of` meets its contract. Assumes nothing.
use mathlib.Core.Path.{sym, ◌∙◌}
use native.Mathlib.Omega.{arith}
use Rattle.age_check.proofs.MarkLaws.{coded_same, leaf_oldest, deep_oldest, high_oldest}
use Rattle.age_check.proofs.age_of.Goals as goal

pub returns-then-p-lt2 : goal.returns-then-p-lt2
returns-then-p-lt2 c = coded_same c.marked.result (c.requires.marked.is c.args.p c.requires.bounds.1 ∙ leaf_oldest c.args.base _ _ c.if-p-lt2.true) c.marked.ensures

pub returns-then-base-x : goal.returns-then-base-x
returns-then-base-x c = sym (deep_oldest c.read-x.ensures c.args.base c.if-base-x.true)

pub returns : goal.returns
returns c = coded_same c.marked-2.result (c.requires.marked.is c.args.p c.requires.bounds.1 ∙ high_oldest c.read-x.ensures c.args.base (omega (arith, c.if-base-x.false))) c.marked-2.ensures

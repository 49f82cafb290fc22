-- `rule::right::field_right` meets its contract: each entry by its use. Assumes nothing.
use Rattle.std.proofs.Common.{inl, inr}
use Rattle.meaning.specs.Rows.{field_right}
use Rattle.rule.specs.Table.{used_as}
use Rattle.rule.proofs.right.field_right.Goals as goal

pub returns-in-Unused : goal.returns-in-Unused
unfolding used_as field_right
returns-in-Unused c = rw c.in-Unused.is

pub returns-in-Predicate : goal.returns-in-Predicate
unfolding used_as field_right
returns-in-Predicate c = rw c.in-Predicate.is

pub returns-in-Row : goal.returns-in-Row
unfolding used_as field_right
returns-in-Row c = rw c.in-Row.is

pub returns-in-Variable : goal.returns-in-Variable
unfolding used_as field_right
returns-in-Variable c = rw c.in-Variable.is

pub returns-in-Count : goal.returns-in-Count
unfolding used_as field_right
returns-in-Count c = elim c.in-Count.is [ inl e ↦ rw e | inr e ↦ rw e ]

-- `bits_of` meets its contract. Assumes nothing.
use mathlib.Core.Path.{sym, ◌∙◌}
use native.Mathlib.Omega.{arith}
use Rattle.age_check.proofs.MarkLaws.{coded_same, bits_last, bits_over, bits_leaf, bits_apart, bits_marked}
use Rattle.age_check.proofs.bits_of.Goals as goal

pub returns-then-p-eq1 : goal.returns-then-p-eq1
returns-then-p-eq1 c = let a = c.args in (sym (bits_last a.base a.l _ a.p c.if-l-base.true c.if-p-eq1.true), λ e. omega arith)

pub returns-then-l-base : goal.returns-then-l-base
returns-then-l-base c = sym (bits_over c.args.nodes.table c.args.base c.args.l c.args.p c.requires.bounds.0 c.if-l-base.true c.if-p-eq1.false)

pub returns-then-p-lt2 : goal.returns-then-p-lt2
returns-then-p-lt2 c = sym (bits_leaf c.args.base c.args.l _ c.args.p (omega (arith, c.requires.base_bound.2, c.if-l-base.false)) c.if-p-lt2.true)

pub returns-then-x-l : goal.returns-then-x-l
returns-then-x-l c = sym (bits_apart c.read-x.ensures c.args.base c.args.l c.requires.base_bound.1 (omega (arith, c.requires.base_bound.2, c.if-l-base.false)) c.if-x-l.true)

pub returns : goal.returns
returns c = coded_same c.marked.result (c.requires.base_bound.3.is c.args.p c.requires.bounds.1 ∙ bits_marked c.read-x.ensures c.args.base c.args.l c.requires.base_bound.1 (omega (arith, c.if-x-l.false))) c.marked.ensures

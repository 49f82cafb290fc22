-- `look_in` meets its contract: the first place that has the value, or none. Assumes nothing.
use mathlib.Core.Path.{sym}
use native.Mathlib.Omega.{arith}
use borrow.Author.Count.{below_more}
use borrow.Author.Rules.{rules}
use Rattle.numbers.proofs.LookLaws.{looked_first, looked_left, looked_none}
use Rattle.numbers.proofs.looking.look_in.Goals as goal

pub returns-then-list-i : goal.returns-then-list-i
returns-then-list-i c = sym (looked_first c.args.m c.args.list.now c.args.y.0 c.loop-i.i (search rules) c.if-list-i.true c.loop-i.invariant)

pub loop-i-preserved : goal.loop-i-preserved
loop-i-preserved c = below_more _ _ c.loop-i.invariant c.if-list-i.false

pub returns-then-list-m : goal.returns-then-list-m
returns-then-list-m c = sym (looked_left c.args.m c.args.list.now c.args.y.0 (λ k h. c.loop-i.invariant k (omega arith)) c.if-list-m.true)

pub returns : goal.returns
returns c = sym (looked_none c.args.m c.args.list.now c.args.y.0 (λ k h. c.loop-i.invariant k (omega arith)) c.if-list-m.false)

use mathlib.Core.Path.{refl}
use native.Mathlib.Omega.{arith}
use lib.ListN.{get_or-replicate}
use Rattle.std.specs.Prelude.{None}
use Rattle.census.proofs.ClashPass.{clash_begins, clash_ends, clash_number, clash_yes, clash_more}
use Rattle.census.proofs.counts.clashes.Goals as goal

pub loop-w-init : goal.loop-w-init
loop-w-init c = clash_begins _ _ _ c.requires.has_reading.0 refl (λ k h. get_or-replicate 4096 k None None (omega (arith, c.requires.predicates.few)))

pub settle-requires-clause-listed : goal.settle-requires-clause-listed
settle-requires-clause-listed c = clash_number _ _ _ _ _ c.requires.predicates c.loop-w.invariant _ c.in-Some.ensures _ refl

pub returns-then-settle : goal.returns-then-settle
returns-then-settle c = clash_yes _ _ _ _ _ c.requires.predicates c.loop-w.invariant _ c.in-Some.ensures _ refl _ _ c.settle.ensures c.if-settle.true

pub loop-w-preserved : goal.loop-w-preserved
loop-w-preserved c = clash_more _ _ _ _ _ c.requires.predicates c.loop-w.invariant _ c.in-Some.ensures _ refl _ _ c.settle.ensures _ c.if-settle.false c.next_mode-mode.ensures

pub returns : goal.returns
returns c = clash_ends _ _ _ _ _ c.requires.predicates c.loop-w.invariant c.in_default.ensures

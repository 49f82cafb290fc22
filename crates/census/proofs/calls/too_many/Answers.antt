use native.Mathlib.Omega.{arith}
use Rattle.census.proofs.ManyLaws.{many_begins, many_ends, many_lexed, many_grows, many_found, many_more}
use Rattle.census.proofs.calls.too_many.Goals as goal

pub loop-w-init : goal.loop-w-init
loop-w-init c = many_begins _ c.requires

pub is_wide-requires : goal.is_wide-requires
is_wide-requires c = many_lexed _ _ _ c.loop-w.invariant _ c.in-Some.ensures

pub returns-then-is_wide : goal.returns-then-is_wide
returns-then-is_wide c = many_found _ _ _ c.loop-w.invariant _ c.in-Some.ensures _ c.is_wide.ensures c.if-is_wide.true

pub loop-w-smaller : goal.loop-w-smaller
loop-w-smaller c = omega (arith, many_grows _ _ _ c.loop-w.invariant _ c.in-Some.ensures, (many_lexed _ _ _ c.loop-w.invariant _ c.in-Some.ensures).inside)

pub loop-w-preserved : goal.loop-w-preserved
loop-w-preserved c = many_more _ _ _ c.loop-w.invariant _ c.in-Some.ensures _ _ c.is_wide.ensures c.if-is_wide.false c.next_mode-mode.ensures

pub returns : goal.returns
returns c = many_ends _ _ _ c.loop-w.invariant c.in_default.ensures

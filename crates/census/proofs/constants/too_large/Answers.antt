use native.Mathlib.Omega.{arith}
use Rattle.census.proofs.LargeLaws.{seek_begins, seek_ends, seek_inside, seek_found, seek_more}
use Rattle.census.proofs.constants.too_large.Goals as goal

pub loop-w-init : goal.loop-w-init
loop-w-init c = seek_begins _ c.requires

pub is_large-requires : goal.is_large-requires
is_large-requires c = let i = seek_inside _ _ c.loop-w.invariant _ c.in-Some.ensures in (i.0, i.1)

pub returns-then-is_large : goal.returns-then-is_large
returns-then-is_large c = seek_found _ _ c.loop-w.invariant _ c.in-Some.ensures _ c.is_large.ensures c.if-is_large.true

pub loop-w-smaller : goal.loop-w-smaller
loop-w-smaller c = omega (arith, seek_inside _ _ c.loop-w.invariant _ c.in-Some.ensures)

pub loop-w-preserved : goal.loop-w-preserved
loop-w-preserved c = seek_more _ _ c.loop-w.invariant _ c.in-Some.ensures _ c.is_large.ensures c.if-is_large.false

pub returns : goal.returns
returns c = seek_ends _ _ c.loop-w.invariant c.in_default.ensures

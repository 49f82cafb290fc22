-- `make` meets its contract. Assumes nothing.
use native.Mathlib.Omega.{arith}
use lib.ListN.{length-set}
use Rattle.nodes.proofs.ReadLaws.{grown_ref}
use Rattle.making.proofs.NodesLaws.{make_side, make_walk, make_found, make_stuck, make_new}
use Rattle.making.proofs.table.make.Goals as goal

pub returns-then-x : goal.returns-then-x
returns-then-x c = make_side c.requires.shelf _ _ _ c.requires.low_bound.0 c.requires.low_bound.1 c.if-x.true

pub seek-requires : goal.seek-requires
seek-requires c =
    make_walk c.requires.shelf _ _ _ c.requires.low_bound.0 c.requires.low_bound.1 c.if-x.false _ c.slot.ensures.upper_bound c.slot.ensures.value

pub overflow_add-result : goal.overflow_add-result
overflow_add-result c =
    omega (arith, grown_ref (make_found c.requires.shelf _ _ _ c.requires.low_bound.0 c.requires.low_bound.1 c.if-x.false _ c.slot.ensures.upper_bound c.slot.ensures.value c.in-Some.ensures).0, c.requires.shelf.table.fits, c.requires.shelf.table.small)

pub returns-in-Some : goal.returns-in-Some
returns-in-Some c =
    make_found c.requires.shelf _ _ _ c.requires.low_bound.0 c.requires.low_bound.1 c.if-x.false _ c.slot.ensures.upper_bound c.slot.ensures.value c.in-Some.ensures

pub returns-then-nodes-i : goal.returns-then-nodes-i
returns-then-nodes-i c =
    make_stuck c.requires.shelf _ _ _ c.requires.low_bound.0 c.requires.low_bound.1 c.if-x.false _ c.slot.ensures.upper_bound c.slot.ensures.value c.in_default.ensures c.if-nodes-i.true

pub bounds-nodes-i-2 : goal.bounds-nodes-i-2
bounds-nodes-i-2 c = simp length-set (omega arith)

pub bounds-nodes-i-3 : goal.bounds-nodes-i-3
bounds-nodes-i-3 c = simp length-set (omega arith)

pub returns : goal.returns
returns c =
    rw c.join.ensures (make_new c.requires.shelf _ _ _ c.requires.low_bound.0 c.requires.low_bound.1 c.if-x.false _ c.slot.ensures.upper_bound c.slot.ensures.value c.in_default.ensures c.if-nodes-i.false)

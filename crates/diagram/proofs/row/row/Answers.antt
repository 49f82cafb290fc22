-- `row::row` meets its contract: one law for each instruction. Assumes nothing.
use native.Mathlib.Omega.{arith}
use Rattle.making.specs.Loans.{made}
use Rattle.walks.specs.Complements.{counted}
use Rattle.diagram.proofs.RowLaws.{quiet, within_no, leads_to, row_yes, row_and, row_not, row_since, row_old, row_drop}
use Rattle.diagram.proofs.row.row.Goals as goal

pub since_walk-requires : goal.since_walk-requires
since_walk-requires c =
    record { desk = c.requires.k_bound.1; left_le_levels = (omega arith, leads_to c.requires.leads.1 _ c.pick-l.ensures, within_no _ _ _, leads_to c.requires.leads.1 _ c.pick-o.ensures) }

pub not_walk-requires : goal.not_walk-requires
not_walk-requires c =
    record { desk = c.requires.k_bound.1; left_le_levels = (omega arith, leads_to c.requires.leads.1 _ c.pick-p.ensures) }

pub since_walk-requires-in-Since : goal.since_walk-requires-in-Since
since_walk-requires-in-Since c =
    record { desk = c.requires.k_bound.1; left_le_levels = (omega arith, leads_to c.requires.leads.1 _ c.pick-l-in-Since.ensures, leads_to c.requires.leads.1 _ c.pick-r.ensures, leads_to c.requires.leads.0 _ c.pick-o-in-Since.ensures) }

pub drops_row-requires : goal.drops_row-requires
drops_row-requires c = record { k_bound = c.requires.k_bound; within = leads_to c.requires.leads.1 _ c.pick-p-in-Drop.ensures }

pub returns-in-Yes-clause-done : goal.returns-in-Yes-clause-done
returns-in-Yes-clause-done c =
    let a = c.args in
    rw (c.in-Yes.is, c.unvisited.ensures) (row_yes a.k a.olds.now a.news.now a.i c.requires.k_bound.1)

pub returns-in-And-clause-done : goal.returns-in-And-clause-done
returns-in-And-clause-done c =
    let a = c.args in
    let w = c.since_walk in
    rw (c.in-And.is, c.unvisited-in-And.ensures, quiet w.new.lent.count w.result)
    (row_and a.k a.olds.now a.news.now a.i c.requires.k_bound.1 w.new.lent.nodes.now w.new.lent.work.now _ _ (made w.new.lent.count w.result) (rw (c.pick-l.ensures, c.pick-o.ensures) at w.ensures.added))

pub returns-in-Not-clause-done : goal.returns-in-Not-clause-done
returns-in-Not-clause-done c =
    let a = c.args in
    let w = c.not_walk in
    rw c.in-Not.is
    (row_not a.k a.olds.now a.news.now a.i c.requires.k_bound.1 w.new.lent.nodes.now w.new.lent.work.now c.requires.leads.1 _ (counted w.new.lent.count w.result) (rw c.pick-p.ensures at w.ensures.complemented))

pub returns-in-Since-clause-done : goal.returns-in-Since-clause-done
returns-in-Since-clause-done c =
    let a = c.args in
    let w = c.since_walk-in-Since in
    rw (c.in-Since.is, c.unvisited-in-Since.ensures, quiet w.new.lent.count w.result)
    (row_since a.k a.olds.now a.news.now a.i c.requires.k_bound.1 w.new.lent.nodes.now w.new.lent.work.now _ _ _ _ _ c.pick-l-in-Since.ensures c.pick-r.ensures c.pick-o-in-Since.ensures (made w.new.lent.count w.result) w.ensures.added)

pub returns-in-Old-clause-done : goal.returns-in-Old-clause-done
returns-in-Old-clause-done c =
    let a = c.args in
    rw (c.in-Old.is, c.unvisited-in-Old.ensures, c.pick-p-in-Old.ensures) (row_old a.k a.olds.now a.news.now a.i c.requires.k_bound.1 _ c.requires.leads.0)

pub returns-in-Drop-clause-done : goal.returns-in-Drop-clause-done
returns-in-Drop-clause-done c =
    let a = c.args in
    let w = c.drops_row in
    rw (c.in-Drop.is, c.unvisited-in-Drop.ensures, quiet w.new.lent.count w.result)
    (row_drop a.k a.olds.now a.news.now a.i c.requires.k_bound.1 w.new.lent.nodes.now w.new.lent.work.now _ _ (made w.new.lent.count w.result) (rw c.pick-p-in-Drop.ensures at w.ensures.worked))

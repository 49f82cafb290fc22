-- `ended` meets its contract. Assumes nothing.
use native.Mathlib.Omega.{arith}
use Rattle.nodes.proofs.ReadLaws.{stays}
use Rattle.making.proofs.NodesLaws.{shelved_same}
use Rattle.aging.proofs.EndLaws.{ages_end, ripe_ends, bool_small}
use Rattle.aging.proofs.walk.ended.Goals as goal

pub old_age-old-requires : goal.old_age-old-requires
old_age-old-requires c = record { table = c.requires.shelf.table; p_bound = (c.requires.k_bound.4, c.requires.k_bound.0, c.requires.k_bound.5) }

pub next_age-age-requires : goal.next_age-age-requires
next_age-age-requires c =
    let q = c.requires.k_bound in
    (rw c.in-Ages.is at q.1, c.old_age-old.ensures.small)

pub make_age-requires : goal.make_age-requires
make_age-requires c =
    record { shelf = c.requires.shelf; k_bound = (c.requires.k_bound.0, c.next_age-age.ensures.1) }

pub is_ripe-requires : goal.is_ripe-requires
is_ripe-requires c = rw c.in-Ripe.is at c.requires.k_bound.1

pub returns-in-Ages-clause-added : goal.returns-in-Ages-clause-added
returns-in-Ages-clause-added c =
    let q = c.requires.k_bound in
    rw (c.in-Ages.is, ages_end _ _ _ _ _ _ _ c.old_age-old.ensures _ _ q.2 q.3 c.next_age-age.ensures.0) c.make_age.ensures.added

pub returns-in-Ripe-clause-added : goal.returns-in-Ripe-clause-added
returns-in-Ripe-clause-added c =
    (rw c.in-Ripe.is (stays _ _ _ _ c.requires.shelf.table (omega (arith, bool_small _ _ c.from.ensures)) (ripe_ends _ _ _ _ _ _ _ c.old_age-old.ensures _ _ c.from.ensures c.is_ripe.ensures)), shelved_same c.requires.shelf)

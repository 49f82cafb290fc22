-- `Lent::keep` meets its contract. Assumes nothing.
use native.Mathlib.Omega.{arith}
use Rattle.nodes.proofs.ReadLaws.{grown_ref}
use Rattle.making.proofs.lent.Lent.keep.Goals as goal

pub note-requires : goal.note-requires
note-requires c =
    let g = c.in_ok-reference.ensures.added in
    (omega (arith, g.1.shelf.long), omega (arith, grown_ref g.0, g.0.table.fits, g.0.table.small))

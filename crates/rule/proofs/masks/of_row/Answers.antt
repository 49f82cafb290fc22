-- `rule::masks::of_row` meets its contract: each kind of row by the law of its mask. Assumes nothing.
use mathlib.Core.Path.{refl}
use Rattle.std.proofs.Common.{inl, inr}
use Rattle.rule.specs.Masks.{mask_of, digit, free_of_row}
use Rattle.rule.specs.Decoded.{row_of}
use Rattle.rule.proofs.MasksLaws.{row_is, join_is, without_is}
use Rattle.rule.proofs.masks.of_row.Goals as goal

pub returns-in-True : goal.returns-in-True
unfolding row_of free_of_row mask_of digit
returns-in-True c = row_is _ c.in-True.is (refl)

pub returns-in-Atom : goal.returns-in-Atom
unfolding row_of free_of_row
returns-in-Atom c = row_is _ c.in-Atom.is c.of_atom.ensures

pub returns-in-And : goal.returns-in-And
unfolding row_of free_of_row
returns-in-And c =
    elim c.in-And.is [
      | inl e ↦ row_is _ e (join_is _ _ c.at-in-And.ensures c.at-in-And-2.ensures c.join.ensures)
      | inr e ↦ row_is _ e (join_is _ _ c.at-in-And.ensures c.at-in-And-2.ensures c.join.ensures)
    ]

pub returns-in-Not : goal.returns-in-Not
unfolding row_of free_of_row
returns-in-Not c = elim c.in-Not.is [ inl e ↦ row_is _ e c.at-in-Not.ensures | inr e ↦ row_is _ e c.at-in-Not.ensures ]

pub returns-in-Exists : goal.returns-in-Exists
unfolding row_of free_of_row
returns-in-Exists c = row_is _ c.in-Exists.is (without_is _ _ c.at.ensures c.without.ensures)

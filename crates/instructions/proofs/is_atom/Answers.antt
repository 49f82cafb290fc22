-- `is_atom` meets its contract: an atom, and every other row. Assumes nothing.
use mathlib.Core.Path.{refl, sym}
use Rattle.rule.specs.Decoded.{row_of}
use Rattle.instructions.specs.Read.{is_atom}
use Rattle.instructions.proofs.ReadLaws.{no_atom}
use Rattle.instructions.proofs.is_atom.Goals as goal

pub returns-in-Atom : goal.returns-in-Atom
unfolding row_of is_atom
returns-in-Atom c = rw c.in-Atom.is refl

pub returns-in_default : goal.returns-in_default
returns-in_default c = sym (no_atom c.args.row c.in_default.not-Atom)

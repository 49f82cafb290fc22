use Prim.Native.Nat.{◌-◌}
use mathlib.Core.Path.{◌≡◌, sym, ◌∙◌}
use mathlib.Core.Logic.{⊎_elim}
use native.Mathlib.Nat.{eq-or-lt_of_le}
use native.Mathlib.Omega.{arith}
use Rattle.rule.proofs.RightLaws.{no_atom, first_atom, nearest_atom}
use Rattle.rule.proofs.right.counts_agree.Goals as goal

pub returns-then-field_of-ne-ATOM : goal.returns-then-field_of-ne-ATOM
returns-then-field_of-ne-ATOM c = no_atom _ _ c.field_of.ensures c.if-field_of-ne-ATOM.true

pub returns-then-is_atom_of : goal.returns-then-is_atom_of
returns-then-is_atom_of c =
    nearest_atom _ _ _ _ (sym c.field_of.ensures ∙ c.if-field_of-ne-ATOM.false) c.field_of-p.ensures (omega arith) (λ k h q. c.loop-j.invariant k (omega arith) q)
    (sym c.is_atom_of.ensures ∙ c.if-is_atom_of.true) (c.requires.1 _ (omega arith)) c.field_of-then-is_atom_of.ensures c.field_of-then-is_atom_of-2.ensures

pub loop-j-preserved : goal.loop-j-preserved
loop-j-preserved c = λ k h q. ⊎_elim
    (λ e. let z : k ≡ c.loop-j.j - 1 = sym e in rw z (sym c.is_atom_of.ensures ∙ c.if-is_atom_of.false))
    (λ r. c.loop-j.invariant k (omega arith) q)
    (eq-or-lt_of_le h)

pub returns : goal.returns
returns c = first_atom _ _ _ _ c.field_of-p.ensures c.loop-j.invariant (omega arith)

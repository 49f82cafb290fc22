-- `Row::numbers` meets its contract, case by case. Assumes nothing.
use Rattle.std.proofs.Common.{refl}
use Rattle.text.specs.Parts.{nine, pairs_of}
use Rattle.rowing.specs.Framing.{row_of}
use Rattle.rowing.proofs.rows.Row.numbers.Goals as goal
use Rattle.rowing.proofs.rows.Row.numbers.Goals.{in-Truth, in-Both, in-Neg, in-Since, in-Previous, in-Exists}

pub returns : goal.returns
unfolding nine pairs_of row_of
returns c =
    rw (c.from.ensures, c.from-2.ensures) (elim c.match-self.branch [
      | in-Truth w ↦ rw (w.in-Truth.is, w.kind-is) refl
      | in-Both w ↦ rw (w.in-Both.is, w.kind-is) refl
      | in-Neg w ↦ rw (w.in-Neg.is, w.kind-is) refl
      | in-Since w ↦ rw (w.in-Since.is, w.kind-is) refl
      | in-Previous w ↦ rw (w.in-Previous.is, w.kind-is) refl
      | in-Exists w ↦ rw (w.in-Exists.is, w.kind-is) refl
    ])

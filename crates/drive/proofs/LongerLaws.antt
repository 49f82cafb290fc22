-- Rows never go: the pass leaves as many rows as there are, or more. Assumes nothing.
use Prim.Native.Nat.{ℕ, ◌≤◌}
use native.Mathlib.Omega.{arith}
use mathlib.Core.Bool.{Bool, true, false}
use mathlib.Core.List.{List, [], ◌∷◌}
use lib.Dec.{eqb, ltb}
use lib.ListN.{length}
use Rattle.meaning.specs.Rows
use Rattle.text.specs.Words.{Word, name, number, constant, prefix, binary, quantifier, opening, closing, comma, dot, once, historically, previously, negation}
use Rattle.text.specs.Unfold.{number_in}
use Rattle.text.specs.Parts.{nine}
use Rattle.text.specs.Emit.{make_row}
use Rattle.text.specs.Held.{Shut}
use Rattle.rowing.proofs.TableLaws.{make_longer}
use Rattle.rowing.proofs.FrameLaws.{negated_longer}
use Rattle.rowing.proofs.LongerLaws.{push_longer, shut_longer}
use Rattle.spelling.specs.Codes.{mode_after}
use Rattle.atomic.specs.Arguments.{arguments_after}
use Rattle.drive.specs.Drives.{stacked, rowed, waiting, with_true, at_operand, at_operator, at_mode, driven}

operator_longer : (w : Word) (s : Shut) → length s.last.rows ≤ length (at_operator w s).last.rows
unfolding at_operator waiting
operator_longer (name p) s = omega arith
operator_longer (number ds) s = omega arith
operator_longer (constant b) s = omega arith
operator_longer (prefix o) s = omega arith
operator_longer (binary o) s = push_longer o s.last s.stack
operator_longer (quantifier q) s = omega arith
operator_longer opening s = omega arith
operator_longer closing s = shut_longer s.last s.stack
operator_longer comma s = omega arith
operator_longer dot s = omega arith

module _ (ps vs : List (List ℕ)) where
  operand_longer : (w : Word) (ws : List Word) (s : Shut) → length s.last.rows ≤ length (at_operand ps vs w ws s).last.rows
  unfolding at_operand stacked with_true rowed
  operand_longer (name p) ws s = make_longer s.last.rows (nine (Rows.atom (number_in ps p) (arguments_after vs ws)))
  operand_longer (number ds) ws s = omega arith
  operand_longer (constant true) ws s = make_longer s.last.rows (nine Rows.truth)
  operand_longer (constant false) ws s = omega (arith, make_longer s.last.rows (nine Rows.truth), negated_longer (make_row s.last.rows (nine Rows.truth)))
  operand_longer (prefix once) ws s = make_longer s.last.rows (nine Rows.truth)
  operand_longer (prefix historically) ws s = make_longer s.last.rows (nine Rows.truth)
  operand_longer (prefix previously) ws s = omega arith
  operand_longer (prefix negation) ws s = omega arith
  operand_longer (binary o) ws s = omega arith
  operand_longer (quantifier q) ws s = omega arith
  operand_longer opening ws s = omega arith
  operand_longer closing ws s = omega arith
  operand_longer comma ws s = omega arith
  operand_longer dot ws s = omega arith

  mode_longer : (m : ℕ) (w : Word) (ws : List Word) (s : Shut) → length s.last.rows ≤ length (at_mode ps vs m w ws s).last.rows
  unfolding at_mode
  mode_longer m w ws s = go (eqb m 0) (ltb m 3)
    where
      go : (a b : Bool) → length s.last.rows
          ≤ length (elim a as (λ _. Shut) [ true ↦ at_operand ps vs w ws s | false ↦ elim b as (λ _. Shut) [ true ↦ at_operator w s | false ↦ s ] ]).last.rows
      go true b = operand_longer w ws s
      go false true = operator_longer w s
      go false false = omega arith

  pub driven_longer : (m : ℕ) (ws : List Word) (s : Shut) → length s.last.rows ≤ length (driven ps vs m ws s).last.rows
  unfolding driven
  driven_longer m [] s = omega arith
  driven_longer m (w ∷ ws) s = omega (arith, mode_longer m w ws s, driven_longer (mode_after m w) ws (at_mode ps vs m w ws s))

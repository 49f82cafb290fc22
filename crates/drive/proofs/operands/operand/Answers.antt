-- `operands::operand` meets its contract, kind by kind. Assumes nothing.
use mathlib.Core.Path.{refl}
use Rattle.census.specs.Tables.{names_at}
use Rattle.rowing.specs.Framing.{held_of}
use Rattle.drive.proofs.OperandSteps.{operand_name, operand_true, operand_false, false_over, once_over, historically_over, operand_once, operand_historically, operand_before, operand_not, operand_open, operand_forall, operand_exists, operand_other}
use Rattle.drive.proofs.operands.operand.Goals as goal

pub returns-in-Name-clause-moves : goal.returns-in-Name-clause-moves
returns-in-Name-clause-moves g c = rw c.in-Name.is (operand_name (names_at c.args.known.text.now c.args.known.predicates.now) _ _ _ _ _ _ _ _ _ c.named.ensures)

pub returns-in-True-clause-moves : goal.returns-in-True-clause-moves
returns-in-True-clause-moves g c = rw c.in-True.is (operand_true (names_at c.args.known.text.now c.args.known.predicates.now) _ _ _ _ _ _ _ _ _ c.truth.ensures)

pub returns-in_err-row-in-False-clause-moves : goal.returns-in_err-row-in-False-clause-moves
returns-in_err-row-in-False-clause-moves g c = rw (c.in-False.is, c.from_residual.ensures) (false_over (names_at c.args.known.text.now c.args.known.predicates.now) _ _ _ _ _ _ _ c.args.table.now c.args.stack.now c.in_err-row-in-False.ensures)

pub returns-in_ok-row-in-False-clause-moves : goal.returns-in_ok-row-in-False-clause-moves
returns-in_ok-row-in-False-clause-moves g c = rw c.in-False.is (operand_false (names_at c.args.known.text.now c.args.known.predicates.now) _ _ _ _ _ _ _ _ _ _ _ c.in_ok-row-in-False.ensures c.negate.ensures)

pub returns-in_err-row-in-Once-clause-moves : goal.returns-in_err-row-in-Once-clause-moves
returns-in_err-row-in-Once-clause-moves g c = rw (c.in-Once.is, c.from_residual-in_err-row-in-Once.ensures) (once_over (names_at c.args.known.text.now c.args.known.predicates.now) _ _ _ _ _ _ _ c.args.table.now c.args.stack.now c.in_err-row-in-Once.ensures)

pub returns-in_ok-row-in-Once-clause-moves : goal.returns-in_ok-row-in-Once-clause-moves
unfolding held_of
returns-in_ok-row-in-Once-clause-moves g c = rw c.in-Once.is (operand_once (names_at c.args.known.text.now c.args.known.predicates.now) _ _ _ _ _ _ _ _ _ c.in_ok-row-in-Once.ensures _ _ c.push.ensures refl)

pub returns-in_err-row-in-Historically-clause-moves : goal.returns-in_err-row-in-Historically-clause-moves
returns-in_err-row-in-Historically-clause-moves g c = rw (c.in-Historically.is, c.from_residual-in_err-row-in-Historically.ensures) (historically_over (names_at c.args.known.text.now c.args.known.predicates.now) _ _ _ _ _ _ _ c.args.table.now c.args.stack.now c.in_err-row-in-Historically.ensures)

pub returns-in_ok-row-in-Historically-clause-moves : goal.returns-in_ok-row-in-Historically-clause-moves
unfolding held_of
returns-in_ok-row-in-Historically-clause-moves g c = rw c.in-Historically.is (operand_historically (names_at c.args.known.text.now c.args.known.predicates.now) _ _ _ _ _ _ _ _ _ c.in_ok-row-in-Historically.ensures _ _ c.push-in-Historically.ensures refl)

pub returns-in-Before-clause-moves : goal.returns-in-Before-clause-moves
unfolding held_of
returns-in-Before-clause-moves g c = rw c.in-Before.is (operand_before (names_at c.args.known.text.now c.args.known.predicates.now) _ _ _ _ _ _ _ _ _ c.push-in-Before.ensures refl)

pub returns-in-Not-clause-moves : goal.returns-in-Not-clause-moves
unfolding held_of
returns-in-Not-clause-moves g c = rw c.in-Not.is (operand_not (names_at c.args.known.text.now c.args.known.predicates.now) _ _ _ _ _ _ _ _ _ c.push-in-Not.ensures refl)

pub returns-in-Open-clause-moves : goal.returns-in-Open-clause-moves
unfolding held_of
returns-in-Open-clause-moves g c = rw c.in-Open.is (operand_open (names_at c.args.known.text.now c.args.known.predicates.now) _ _ _ _ _ _ _ _ _ c.push-in-Open.ensures refl)

pub returns-in-Forall-clause-moves : goal.returns-in-Forall-clause-moves
unfolding held_of
returns-in-Forall-clause-moves g c = rw c.in-Forall.is (operand_forall (names_at c.args.known.text.now c.args.known.predicates.now) _ _ _ _ _ _ _ _ _ c.push-in-Forall.ensures _ c.slot_after.ensures refl)

pub returns-in-Exists-clause-moves : goal.returns-in-Exists-clause-moves
unfolding held_of
returns-in-Exists-clause-moves g c = rw c.in-Exists.is (operand_exists (names_at c.args.known.text.now c.args.known.predicates.now) _ _ _ _ _ _ _ _ _ c.push-in-Exists.ensures _ c.slot_after-in-Exists.ensures refl)

pub returns-in_default-clause-moves : goal.returns-in_default-clause-moves
returns-in_default-clause-moves g c = operand_other (names_at c.args.known.text.now c.args.known.predicates.now) _ _ _ _ _ _ _ _ c.in_default.not-Name c.in_default.not-True c.in_default.not-False c.in_default.not-Once c.in_default.not-Historically c.in_default.not-Before c.in_default.not-Not c.in_default.not-Forall c.in_default.not-Exists c.in_default.not-Open

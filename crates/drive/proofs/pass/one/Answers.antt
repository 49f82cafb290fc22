-- `pass::one` meets its contract, mode by mode. Assumes nothing.
use Rattle.census.specs.Tables.{names_at}
use Rattle.drive.proofs.PassSteps.{one_operand, one_operator, one_none}
use Rattle.drive.proofs.pass.one.Goals as goal

pub returns-in-Operand-clause-moves : goal.returns-in-Operand-clause-moves
returns-in-Operand-clause-moves g c = rw c.in-Operand.is (one_operand (names_at c.args.known.text.now c.args.known.predicates.now) (names_at c.args.known.text.now c.args.known.variables.now) _ _ _ _ _ _ _ _ _ _ c.operand.ensures.moves)

pub returns-in-Operator-clause-moves : goal.returns-in-Operator-clause-moves
returns-in-Operator-clause-moves g c = one_operator (names_at c.args.known.text.now c.args.known.predicates.now) (names_at c.args.known.text.now c.args.known.variables.now) _ _ _ _ _ _ _ _ _ _ _ c.in-Operator.is c.operator.ensures.operates

pub returns-in_default-clause-moves : goal.returns-in_default-clause-moves
returns-in_default-clause-moves g c = one_none (names_at c.args.known.text.now c.args.known.predicates.now) (names_at c.args.known.text.now c.args.known.variables.now) _ _ _ _ _ _ _ _ c.in_default.not-Operand c.in_default.not-Operator c.in_default.not-AfterName

-- `operators::operator` meets its contract, kind by kind. Assumes nothing.
use Rattle.rowing.specs.Framing.{binary_of}
use Rattle.drive.proofs.OperatorSteps.{operator_since, operator_and, operator_or, operator_implies, operator_shut, operator_other}
use Rattle.drive.proofs.operators.operator.Goals as goal

pub returns-in-Since-clause-operates : goal.returns-in-Since-clause-operates
unfolding binary_of
returns-in-Since-clause-operates g c = rw c.in-Since.is (operator_since _ _ _ _ _ _ c.join.ensures.joins)

pub returns-in-And-clause-operates : goal.returns-in-And-clause-operates
unfolding binary_of
returns-in-And-clause-operates g c = rw c.in-And.is (operator_and _ _ _ _ _ _ c.join-in-And.ensures.joins)

pub returns-in-Or-clause-operates : goal.returns-in-Or-clause-operates
unfolding binary_of
returns-in-Or-clause-operates g c = rw c.in-Or.is (operator_or _ _ _ _ _ _ c.join-in-Or.ensures.joins)

pub returns-in-Implies-clause-operates : goal.returns-in-Implies-clause-operates
unfolding binary_of
returns-in-Implies-clause-operates g c = rw c.in-Implies.is (operator_implies _ _ _ _ _ _ c.join-in-Implies.ensures.joins)

pub returns-in-Close-clause-operates : goal.returns-in-Close-clause-operates
returns-in-Close-clause-operates g c = rw c.in-Close.is (operator_shut _ _ _ _ _ _ c.shut.ensures.shuts)

pub returns-in_default-clause-operates : goal.returns-in_default-clause-operates
returns-in_default-clause-operates g c = operator_other _ _ _ _ c.in_default.not-Since c.in_default.not-And c.in_default.not-Or c.in_default.not-Implies c.in_default.not-Close

-- `operators::join` meets its contract. Assumes nothing.
use Rattle.drive.proofs.OperatorSteps.{joins_over, joins_made}
use Rattle.drive.proofs.operators.join.Goals as goal

pub returns-in_err-push-clause-joins : goal.returns-in_err-push-clause-joins
returns-in_err-push-clause-joins g c = rw c.from_residual.ensures (joins_over _ c.in_err-push.ensures.pushes)

pub returns-clause-joins : goal.returns-clause-joins
returns-clause-joins g c = joins_made _ _ _ _ _ _ _ c.in_ok-push.ensures.pushes

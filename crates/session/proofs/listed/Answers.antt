-- `session::listed` meets its contract, by the eleven values of k. Assumes nothing.
use native.Mathlib.Omega.{arith}
use Rattle.session.proofs.SessionLaws.{listed_none, listed_shift}
use Rattle.session.proofs.listed.Goals as goal

pub returns-then-k-gt10-clause-value : goal.returns-then-k-gt10-clause-value
returns-then-k-gt10-clause-value c = listed_none _ (omega arith)

pub returns-clause-value : goal.returns-clause-value
returns-clause-value c = (listed_shift c.args.k (omega arith)).0

pub returns-clause-upper_bound : goal.returns-clause-upper_bound
returns-clause-upper_bound c = (listed_shift c.args.k (omega arith)).1

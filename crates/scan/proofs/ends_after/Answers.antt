-- `ends_after` meets its contract. Assumes nothing.
use Rattle.scan.proofs.StepLaws.{after_ends, after_none}
use Rattle.scan.proofs.ends_after.Goals as goal

pub returns-in-Some : goal.returns-in-Some
returns-in-Some c = after_ends _ _ _ _ _ _ c.in-Some.ensures c.may_end.ensures

pub returns-in-None : goal.returns-in-None
returns-in-None c = after_none _ _ _ c.in-None.ensures

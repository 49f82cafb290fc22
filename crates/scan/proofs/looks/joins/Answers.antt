-- `looks::joins` meets its contract. Assumes nothing.
use Rattle.std.proofs.Common.{rules}
use Rattle.scan.proofs.MayLaws.{joins_is}
use Rattle.scan.proofs.looks.joins.Goals as goal

pub returns-in-Operator : goal.returns-in-Operator
returns-in-Operator c = joins_is _ _ (search rules)

pub returns-in_default : goal.returns-in_default
returns-in_default c = joins_is _ _ (search rules)

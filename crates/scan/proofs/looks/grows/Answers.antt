-- `looks::grows` meets its contract. Assumes nothing.
use Rattle.std.proofs.Common.{rules}
use Rattle.scan.proofs.MayLaws.{grows_is}
use Rattle.scan.proofs.looks.grows.Goals as goal

pub returns-in-Operand : goal.returns-in-Operand
returns-in-Operand c = grows_is _ _ (search rules)

pub returns-in_default : goal.returns-in_default
returns-in_default c = grows_is _ _ (search rules)

-- `bytes::class_of` meets its contract, by the rule of its table. Assumes nothing.
use native.Mathlib.Omega.{arith}
use Rattle.spelling.proofs.Classes.{classes, class_right}
use Rattle.spelling.proofs.bytes.class_of.Goals as goal

pub returns : goal.returns
unfolding classes
returns c = class_right c.args.b (omega arith)

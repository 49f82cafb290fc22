-- `packing::answered` meets its contract: four numbers, two, and four. Assumes nothing.
use native.Mathlib.Omega.{arith}
use Rattle.linked.proofs.PackingLaws.{answer_packed}
use Rattle.linked.proofs.packing.answered.Goals as goal

pub returns : goal.returns
returns c = answer_packed _ _ _ c.args.numbered c.first_four.result (omega arith) c.first_four.ensures

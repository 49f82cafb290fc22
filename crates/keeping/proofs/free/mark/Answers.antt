use mathlib.Core.Path.{refl}
use native.Mathlib.Omega.{arith}
use Rattle.keeping.proofs.FreeLaws.{marks_none}
use Rattle.keeping.proofs.free.mark.Goals as goal

pub loop-j-init : goal.loop-j-init
loop-j-init c = (marks_none c.args.nodes.slice.now c.args.nodes.count c.args.k c.args.work.now (omega arith), record { eq = λ i h. refl })

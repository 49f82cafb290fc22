use mathlib.Core.Path.{◌∙◌}
use native.Mathlib.Omega.{arith}
use lib.ListN.{set}
use lib.Seq.{get_or-set_other}
use Rattle.binding.proofs.MarkLaws.{marks_none}
use Rattle.binding.proofs.possible.possible.Goals as goal

pub loop-r-init : goal.loop-r-init
loop-r-init c =
    let w = c.args.work.now in
    (marks_none c.args.nodes.slice.now c.args.nodes.count c.args.fixed.now w (omega arith), record { eq = λ i h. get_or-set_other (set w 0 0) 1 i 1 0 (omega arith) ∙ get_or-set_other w 0 i 0 0 (omega arith) })

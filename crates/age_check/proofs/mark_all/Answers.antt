use native.Mathlib.Omega.{arith}
use mathlib.Core.Path.{◌∙◌}
use lib.ListN.{set}
use lib.Seq.{get_or-set_other}
use Rattle.age_check.proofs.MarkLaws.{marks_none}
use Rattle.age_check.proofs.mark_all.Goals as goal

pub loop-r-init : goal.loop-r-init
loop-r-init c =
    let w = c.args.work.now in
    (marks_none c.args.base c.args.nodes.slice.now c.args.nodes.count w (omega arith), record { eq = λ i h. get_or-set_other (set w 0 0) 1 i 4096 0 (omega arith) ∙ get_or-set_other w 0 i 0 0 (omega arith) })

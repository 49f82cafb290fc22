use mathlib.Core.Path.{refl, ◌∙◌}
use lib.ListN.{length-set}
use Rattle.numbers.specs.Asking.{bare}
use Rattle.lists.proofs.WritingLaws.{written_none, written_more}
use Rattle.lists.proofs.writing.write_list.Goals as goal

pub loop-j-init : goal.loop-j-init
loop-j-init c = (refl, written_none c.args.m c.args.b c.args.v (bare c.args.fresh.now) c.args.values.now)

pub loop-j-preserved : goal.loop-j-preserved
loop-j-preserved c = (
  length-set c.loop-j.values _ _ ∙ c.loop-j.invariant.0,
  written_more c.args.m c.args.b c.args.v c.loop-j.j c.args.fresh.now c.args.values.now c.loop-j.values c.loop-j.invariant.1,
)

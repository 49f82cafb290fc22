-- `monitor::working::newly` meets its contract: no count is less than it was. Assumes nothing.
use Prim.Native.Nat.{ℕ, ◌-◌}
use mathlib.Core.Path.{◌∙◌}
use native.Mathlib.Omega.{arith}
use lib.ListN.{get_or, length-set}
use Rattle.std.proofs.lemmas.List.Edits.{fill_by_more}
use Rattle.monitor.specs.Numbered.{growth}
use Rattle.monitor.proofs.NumberedLaws.{four_are}
use Rattle.monitor.proofs.working.newly.Goals as goal

pub loop-v-preserved : goal.loop-v-preserved
loop-v-preserved c = (
  length-set c.loop-v.numbered c.loop-v.v _ ∙ c.loop-v.invariant.0,
  fill_by_more (λ (w : ℕ). get_or c.args.after w 0 - get_or c.args.before w 0) _ _ 0 (omega arith) c.loop-v.invariant.1,
)

pub returns : goal.returns
unfolding growth
returns c = four_are _ (λ (w : ℕ). get_or c.args.after w 0 - get_or c.args.before w 0) c.loop-v.invariant.0 (λ w h. c.loop-v.invariant.1 w (omega arith))

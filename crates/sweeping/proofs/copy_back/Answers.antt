-- `copy_back` meets its contract: the numbers are copied one after the other, and what is behind them is cleared. Assumes nothing.
use Prim.Native.Nat.{◌*◌}
use mathlib.Core.Path.{◌≡◌, refl}
use native.Mathlib.Omega.{arith}
use Rattle.sweeping.proofs.CopyLaws.{copied_more, copied_all}
use Rattle.sweeping.proofs.copy_back.Goals as goal

pub loop-i-init : goal.loop-i-init
loop-i-init c = record { size = refl; same = λ j h. absurd (omega arith) }

pub loop-i-preserved : goal.loop-i-preserved
loop-i-preserved c = copied_more _ _ _ _ (omega (arith, c.loop-i.invariant.size)) c.loop-i.invariant

pub returns : goal.returns
returns c =
    let e : c.loop-i.i ≡ 3 * c.args.n = omega arith in
    copied_all c.args.work.now c.args.nodes.now c.loop-i.nodes _ (3 * c.args.n) c.requires.0 c.requires.1 (rw e at c.loop-i.invariant) c.zero.ensures

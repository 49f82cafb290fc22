use mathlib.Core.Path.{◌≡◌, refl}
use native.Mathlib.Omega.{arith}
use lib.ListN.{length}
use Rattle.trees.specs.Kept.{all_below}
use Rattle.lists.proofs.ListsLaws.{zero_more}
use Rattle.lists.proofs.checking.all_zero.Goals as goal

pub loop-x-init : goal.loop-x-init
unfolding all_below
loop-x-init c = refl

pub loop-x-preserved : goal.loop-x-preserved
loop-x-preserved c = zero_more c.args.list.now c.loop-x.x-index c.loop-x.bits c.loop-x.invariant

pub returns : goal.returns
returns c =
    let e : c.loop-x.x-index ≡ length c.args.list.now = omega arith in
    rw (← e) c.loop-x.invariant

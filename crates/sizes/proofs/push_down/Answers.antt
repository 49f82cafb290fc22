use Prim.Native.Nat.{◌-◌}
use mathlib.Core.Path.{◌∙◌}
use native.Mathlib.Omega.{arith}
use Rattle.sizes.proofs.PassLaws.{pushing_none, pushing_small, pushing_more}
use Rattle.sizes.proofs.push_down.Goals as goal

pub count_rows-requires : goal.count_rows-requires
count_rows-requires c =
    let v = c.loop-j.invariant in
    (c.requires.base_bound.0, v.size ∙ c.requires.base_bound.1, pushing_small c.args.nodes.table c.requires.base_bound.2 v)

pub loop-j-preserved : goal.loop-j-preserved
loop-j-preserved c =
    let v = c.loop-j.invariant in
    pushing_more (c.loop-j.j - 1) c.loop-j.j (omega (arith, c.loop-j-test.true)) c.args.nodes.table v c.join.new.words c.join-in-loop-j.new.words (c.join-in-loop-j.auto.words ∙ c.join.auto.words ∙ v.long) (c.join.ensures c.args.base) (c.join-in-loop-j.ensures c.args.base) c.count_rows.ensures

pub returns : goal.returns
returns c = pushing_none (omega (arith, c.loop-j-test.false)) c.loop-j.invariant

-- `known` meets its contract: the laws of NoteLaws for a leaf and for a note. Assumes nothing.
use Prim.Native.Nat.{◌+◌, ◌*◌, ◌-◌, ◌/◌}
use mathlib.Core.Path.{◌≡◌}
use native.Mathlib.Omega.{arith}
use lib.ListN.{length}
use Rattle.sweeping.proofs.NoteLaws.{swept_leaf, swept_hit}
use Rattle.sweeping.proofs.known.Goals as goal

pub returns-then-r-lt2 : goal.returns-then-r-lt2
returns-then-r-lt2 c = swept_leaf c.requires.0 c.args.r c.if-r-lt2.true

pub returns : goal.returns
returns c =
    let o = c.requires.0 in
    let e : length c.args.nodes.now + (c.args.r - 2) ≡ 3 * (length c.args.nodes.now / 3) + (c.args.r - 2) = omega (arith, o.size) in
    rw e (swept_hit o c.args.r c.if-r-lt2.false c.requires.1 (rw (← e) (let z = c.if-note-eq0.false in omega (arith, z))))

use Prim.Native.Nat.{ℕ}
use Rattle.nodes.proofs.ReadLaws.{grown_ref, grown_count}
use Rattle.walks.specs.Complements.{counted}
use Rattle.walks.proofs.ComplementLaws.{complement_leaf, complement_hit, complement_fits, complement_apart}
use Rattle.walks.proofs.NotLaws.{not_node, not_over}
use Rattle.walks.proofs.StepLaws.{within_grown, Step, steps}
use Rattle.making.proofs.WalkLaws.{kept, stuck_low, stuck_high}
use native.Mathlib.Omega.{arith}
use Rattle.walks.proofs.+not_walk.Goals as goal
use Rattle.walks.proofs.+not_walk.Goals.{After-read-x}

-- what the node gives
stepped : (t : ℕ) (c : After-read-x t)
    → let a = c.args in
    let x = c.read-x.result in
    Step a.lent.now.nodes.now a.lent.now.count a.levels a.left a.p x.level x.low x.high
stepped t c = steps c.requires.left_le_levels.0 c.requires.left_le_levels.1 c.read-x.ensures

pub returns-then-p-lt2-clause-complemented : goal.returns-then-p-lt2-clause-complemented
returns-then-p-lt2-clause-complemented t c = complement_leaf c.requires.desk _ _ c.if-p-lt2.true

pub overflow_mul-j : goal.overflow_mul-j
overflow_mul-j t c =
    let k = c.requires.desk.shelf in
    omega (arith, k.table.fits, k.table.small, k.size, k.long, c.requires.left_le_levels.1.below)

pub overflow_add-j : goal.overflow_add-j
overflow_add-j t c =
    let k = c.requires.desk.shelf in
    omega (arith, k.table.fits, k.table.small, k.size, k.long, c.requires.left_le_levels.1.below)

pub offset_bounds-lent-j : goal.offset_bounds-lent-j
offset_bounds-lent-j t c =
    let k = c.requires.desk.shelf in
    omega (arith, k.table.fits, k.table.small, k.size, k.long, c.requires.left_le_levels.1.below)

pub bounds-lent-j : goal.bounds-lent-j
bounds-lent-j t c =
    let k = c.requires.desk.shelf in
    omega (arith, k.table.fits, k.table.small, k.size, k.long, c.requires.left_le_levels.1.below)

pub returns-in-Some-clause-complemented : goal.returns-in-Some-clause-complemented
returns-in-Some-clause-complemented t c =
    let e = c.in-Some.ensures in
    complement_hit c.requires.desk _ _ (omega arith) c.requires.left_le_levels.1.below _ (omega (arith, e.0)) (omega (arith, e.0, e.1))

pub read-x-requires : goal.read-x-requires
read-x-requires t c =
    record { table = c.requires.desk.shelf.table; le_r = (omega arith, c.requires.left_le_levels.1.below) }

pub overflow_sub-left : goal.overflow_sub-left
overflow_sub-left t c = (stepped t (goal.at.overflow_sub-left t c).After-read-x).some

pub not_walk-requires : goal.not_walk-requires
not_walk-requires t c =
    let d = stepped t (goal.at.not_walk-requires t c).After-read-x in
    (omega (arith, c.decreases, d.some), (c.requires.desk, (omega (arith, c.requires.left_le_levels.0), d.low)))

pub returns-in_err-a-clause-complemented : goal.returns-in_err-a-clause-complemented
returns-in_err-a-clause-complemented t c =
    rw (c.from_residual.ensures, not_node c.args.levels (stepped t (goal.at.returns-in_err-a-clause-complemented t c).After-read-x))
    (stuck_low _ _ _ c.requires.desk.shelf.table c.in_err-a.ensures.complemented)

pub overflow_sub-left-2 : goal.overflow_sub-left-2
overflow_sub-left-2 t c = (stepped t (goal.at.overflow_sub-left-2 t c).After-read-x).some

pub not_walk-requires-2 : goal.not_walk-requires-2
not_walk-requires-2 t c =
    let d = stepped t (goal.at.not_walk-requires-2 t c).After-read-x in
    let g = c.in_ok-a.ensures.complemented in
    (omega (arith, c.decreases, d.some), (g.1, (omega (arith, c.requires.left_le_levels.0), within_grown g.0 d.high)))

pub returns-in_err-b-clause-complemented : goal.returns-in_err-b-clause-complemented
returns-in_err-b-clause-complemented t c =
    let d = stepped t (goal.at.returns-in_err-b-clause-complemented t c).After-read-x in
    let g = c.in_ok-a.ensures.complemented.0 in
    rw (c.from_residual-in_err-b.ensures, not_node c.args.levels d)
    (stuck_high _ _ _ c.requires.desk.shelf.table g (rw (kept g _ d.high.below) at c.in_err-b.ensures.complemented))

pub overflow_add-visits : goal.overflow_add-visits
overflow_add-visits t c =
    let d = stepped t (goal.at.overflow_add-visits t c).After-read-x in
    let left = c.requires.left_le_levels.0 in
    let g = c.in_ok-a.ensures.complemented in
    let h = c.in_ok-b.ensures.complemented in
    omega (arith, complement_fits c.requires.desk _ _ (omega arith) d.low g.2, complement_fits g.1 _ _ (omega arith) (within_grown g.0 d.high) h.2)

pub overflow_add-visits-2 : goal.overflow_add-visits-2
overflow_add-visits-2 t c =
    let d = stepped t (goal.at.overflow_add-visits-2 t c).After-read-x in
    let left = c.requires.left_le_levels.0 in
    let g = c.in_ok-a.ensures.complemented in
    let h = c.in_ok-b.ensures.complemented in
    omega (arith, complement_fits c.requires.desk _ _ (omega arith) d.low g.2, complement_fits g.1 _ _ (omega arith) (within_grown g.0 d.high) h.2)

pub keep_not-requires : goal.keep_not-requires
keep_not-requires t c =
    let d = stepped t (goal.at.keep_not-requires t c).After-read-x in
    let g = c.in_ok-a.ensures.complemented.0 in
    let h = rw (kept g _ d.high.below) at c.in_ok-b.ensures.complemented.0 in
    let gc = grown_count g in
    let hc = grown_count h in
    let inside = c.requires.left_le_levels.1.below in
    record {
      desk = c.in_ok-b.ensures.complemented.1;
      le_p = (omega (arith, c.if-p-lt2.false), omega arith, omega (arith, grown_ref g), grown_ref h);
      p_value = not_over c.args.levels _ _ (not_node c.args.levels d) g h inside;
    }

pub returns-clause-complemented : goal.returns-clause-complemented
returns-clause-complemented t c =
    let d = stepped t (goal.at.returns-clause-complemented t c).After-read-x in
    let g = c.in_ok-a.ensures.complemented in
    let h = rw (kept g.0 _ d.high.below) at c.in_ok-b.ensures.complemented.0 in
    complement_apart c.requires.desk d c.read-x.ensures (omega (arith, c.if-p-lt2.false)) c.requires.left_le_levels.1.below (omega (arith, c.in_default.ensures))
    c.not_walk-2.new.lent.work.now g.0 g.2 h c.in_ok-b.ensures.complemented.2 c.keep_not.new.lent.nodes.now c.keep_not.new.lent.work.now (counted c.keep_not.new.lent.count c.keep_not.result) c.keep_not.ensures.kept

use mathlib.Core.Path.{◌≡◌, ◌∙◌}
use Prim.Native.Nat.{ℕ}
use Rattle.trees.specs.Tree.{mk, drop_t}
use Rattle.trees.specs.Table.{at, trees_of}
use Rattle.nodes.proofs.ReadLaws.{grown_ref, grown_count, stays}
use Rattle.making.specs.Loans.{made}
use Rattle.walks.specs.Desks.{Remembered}
use Rattle.walks.proofs.DeskLaws.{spot_inside, desk_stays, desk_kept, desk_then}
use Rattle.walks.proofs.DropLaws.{drop_leaf, drop_stay, drop_here, drop_node, within_sure}
use Rattle.walks.proofs.StepLaws.{within_grown, Step, steps}
use Rattle.walks.proofs.MemoryLaws.{drop_key, recalled_drop, memory_hit, key_later, recalled_over}
use Rattle.making.proofs.WalkLaws.{kept, front_trans, stuck_low, stuck_high, joined}
use native.Mathlib.Omega.{arith}
use Rattle.walks.proofs.+drop_walk.Goals as goal
use Rattle.walks.proofs.+drop_walk.Goals.{After-read-x, Else-x-v}

-- what the node gives
stepped : (t : ℕ) (c : After-read-x t)
    → let a = c.args in
    let x = c.read-x.result in
    Step a.lent.now.nodes.now a.lent.now.count a.levels a.left a.p x.level x.low x.high
stepped t c = steps c.requires.left_le_levels.0 c.requires.left_le_levels.1 c.read-x.ensures

-- what is left to do before the level is reached
early : (t : ℕ) (c : Else-x-v t)
    → let a = c.args in
    let x = c.read-x.result in
    let ts = trees_of a.lent.now.nodes.now a.lent.now.count in
    drop_t a.levels a.v (at ts a.p) ≡ mk x.level (drop_t a.levels a.v (at ts x.low)) (drop_t a.levels a.v (at ts x.high))
early t c =
    drop_node c.args.levels c.args.v (steps c.requires.left_le_levels.0 c.requires.left_le_levels.1 c.read-x.ensures) (omega (arith, c.if-x-v.false, c.if-v-x.false))

pub returns-then-p-lt2-clause-added : goal.returns-then-p-lt2-clause-added
returns-then-p-lt2-clause-added t c =
    (stays _ _ _ _ c.requires.desk.shelf.table c.requires.left_le_levels.1.below (drop_leaf c.args.levels c.args.v _ _ _ c.if-p-lt2.true), desk_stays c.requires.desk)

pub read-x-requires : goal.read-x-requires
read-x-requires t c =
    record { table = c.requires.desk.shelf.table; le_r = (omega arith, c.requires.left_le_levels.1.below) }

pub returns-then-v-x-clause-added : goal.returns-then-v-x-clause-added
returns-then-v-x-clause-added t c =
    let d = stepped t (goal.at.returns-then-v-x-clause-added t c).After-read-x in
    (stays _ _ _ _ c.requires.desk.shelf.table c.requires.left_le_levels.1.below (drop_stay c.args.levels c.args.v d c.if-v-x.true), desk_stays c.requires.desk)

pub overflow_sub-left : goal.overflow_sub-left
overflow_sub-left t c = (stepped t (goal.at.overflow_sub-left t c).After-read-x).some

pub since_walk-requires : goal.since_walk-requires
since_walk-requires t c =
    let d = stepped t (goal.at.since_walk-requires t c).After-read-x in
    record { desk = c.requires.desk; left_le_levels = (omega (arith, c.requires.left_le_levels.0), within_sure _ _ _ _, d.low, d.high) }

pub returns-then-x-v-clause-added : goal.returns-then-x-v-clause-added
returns-then-x-v-clause-added t c =
    rw (drop_here c.args.levels c.args.v (stepped t (goal.at.returns-then-x-v-clause-added t c).After-read-x) c.if-x-v.true) c.since_walk.ensures.added

pub spot-i-requires : goal.spot-i-requires
spot-i-requires t c =
    let k = c.requires.desk in
    (omega (arith, k.shelf.size, k.shelf.table.small), k.some, k.fits)

pub recall-requires : goal.recall-requires
recall-requires t c =
    let k = c.requires.desk in
    omega (arith, spot_inside k c.spot-i.ensures, k.shelf.long)

pub returns-in-Some-clause-added : goal.returns-in-Some-clause-added
returns-in-Some-clause-added t c =
    let k = c.requires.desk in
    (rw (← recalled_drop c.args.levels _ c.args.v _) (memory_hit k.shelf.table k.memory c.spot-i.ensures _ _ _ _ c.in-Some.ensures), desk_stays k)

pub overflow_sub-left-2 : goal.overflow_sub-left-2
overflow_sub-left-2 t c = (stepped t (goal.at.overflow_sub-left-2 t c).After-read-x).some

pub drop_walk-requires : goal.drop_walk-requires
drop_walk-requires t c =
    let d = stepped t (goal.at.drop_walk-requires t c).After-read-x in
    (omega (arith, c.decreases, d.some), (c.requires.desk, (omega (arith, c.requires.left_le_levels.0), d.low)))

pub returns-in_err-x-clause-added : goal.returns-in_err-x-clause-added
returns-in_err-x-clause-added t c =
    rw (c.from_residual.ensures, early t (goal.at.returns-in_err-x-clause-added t c).Else-x-v)
    (stuck_low _ _ _ c.requires.desk.shelf.table c.in_err-x.ensures.added)

pub overflow_sub-left-3 : goal.overflow_sub-left-3
overflow_sub-left-3 t c = (stepped t (goal.at.overflow_sub-left-3 t c).After-read-x).some

pub drop_walk-requires-2 : goal.drop_walk-requires-2
drop_walk-requires-2 t c =
    let d = stepped t (goal.at.drop_walk-requires-2 t c).After-read-x in
    let g = c.in_ok-x.ensures.added in
    (omega (arith, c.decreases, d.some), (g.1.desk, (omega (arith, c.requires.left_le_levels.0), within_grown g.0 d.high)))

pub returns-in_err-x-2-clause-added : goal.returns-in_err-x-2-clause-added
returns-in_err-x-2-clause-added t c =
    let k = goal.at.returns-in_err-x-2-clause-added t c in
    let d = stepped t k.After-read-x in
    let g = c.in_ok-x.ensures.added.0 in
    rw (c.from_residual-in_err-x-2.ensures, early t k.Else-x-v)
    (stuck_high _ _ _ c.requires.desk.shelf.table g (rw (kept g _ d.high.below) at c.in_err-x-2.ensures.added))

pub keep-requires : goal.keep-requires
keep-requires t c =
    let d = stepped t (goal.at.keep-requires t c).After-read-x in
    let g = c.in_ok-x.ensures.added.0 in
    let h = rw (kept g _ d.high.below) at c.in_ok-x-2.ensures.added in
    let hc = grown_count h.0 in
    let k = h.1.desk in
    record { shelf = k.shelf; low_bound = (omega (arith, grown_ref g), grown_ref h.0); room = omega (arith, spot_inside k c.spot-i.ensures) }

pub returns-clause-added : goal.returns-clause-added
returns-clause-added t c =
    let k = goal.at.returns-clause-added t c in
    let d = stepped t k.After-read-x in
    let g = c.in_ok-x.ensures.added in
    let h = rw (kept g.0 _ d.high.below) at c.in_ok-x-2.ensures.added in
    let key = drop_key c.args.v c.requires.left_le_levels.1 in
    let gc = grown_count g.0 in
    let hc = grown_count h.0 in
    let is = recalled_drop c.args.levels _ c.args.v _ ∙ early t k.Else-x-v in
    rw (early t k.Else-x-v)
    (desk_then c.args.layout.c (front_trans g.1.same h.1.same (omega arith)) c.args.levels c.args.layout.slots c.keep.new.self.work.now _ c.keep.new.self.nodes.now _ _ (made c.keep.new.self.count c.keep.result)
    (joined _ _ _ c.requires.desk.shelf.table g.0 h.0 (λ xs j. Remembered c.drop_walk-2.new.lent.work.now xs j c.args.levels c.keep.new.self.work.now c.args.layout.c c.args.layout.slots) c.keep.new.self.nodes.now (made c.keep.new.self.count c.keep.result)
    (desk_kept h.1.desk _ _ _ _ c.spot-i.ensures (key_later (omega arith) key) c.keep.new.self.nodes.now c.keep.new.self.work.now _ (recalled_over c.args.levels _ _ _ _ is g.0 h.0 key) (made c.keep.new.self.count c.keep.result) c.keep.ensures.kept)))

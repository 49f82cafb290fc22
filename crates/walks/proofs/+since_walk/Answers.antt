use mathlib.Core.Path.{◌≡◌, ◌∙◌}
use Prim.Native.Nat.{ℕ}
use Rattle.trees.specs.Tree.{mk, since_t}
use Rattle.trees.specs.Table.{at, trees_of}
use Rattle.nodes.proofs.ReadLaws.{grown_ref, grown_count}
use Rattle.walks.specs.Walks.{Within}
use Rattle.making.specs.Loans.{made}
use Rattle.walks.specs.Desks.{Remembered}
use Rattle.walks.proofs.DeskLaws.{spot_inside, desk_stays, desk_kept, desk_then}
use Rattle.walks.proofs.SinceLaws.{alike_within, alike_since, alike_stays, Down, down, since_kept}
use Rattle.walks.proofs.MemoryLaws.{since_key, recalled_since, memory_hit, key_later, recalled_over}
use Rattle.walks.proofs.StepLaws.{within_grown}
use Rattle.making.proofs.WalkLaws.{front_trans, stuck_low, stuck_high, joined}
use native.Mathlib.Omega.{arith}
use Rattle.walks.proofs.+since_walk.Goals as goal
use Rattle.walks.proofs.+since_walk.Goals.{After-settle-s, After-part-fork}

-- the three that are walked
three : (t : ℕ) (c : After-settle-s t)
    → let a = c.args in
    let x = c.settle-s.result in
    Within a.lent.now.nodes.now a.lent.now.count a.levels a.left x.l × Within a.lent.now.nodes.now a.lent.now.count a.levels a.left x.r × Within a.lent.now.nodes.now a.lent.now.count a.levels a.left x.o
three t c =
    let p = c.requires.left_le_levels in
    alike_within c.requires.desk.shelf.table p.1 p.2 p.3 c.settle-s.ensures.alike

-- what the fork gives
forked : (t : ℕ) (c : After-part-fork t)
    → let a = c.args in
    let y = c.settle-s.result in
    let x = c.part-fork.result in
    Down a.lent.now.nodes.now a.lent.now.count a.levels a.left y.l y.r y.o x.level x.low.l x.low.r x.low.o x.high.l x.high.r x.high.o
forked t c =
    let p = c.requires.left_le_levels in
    let w = alike_within c.requires.desk.shelf.table p.1 p.2 p.3 c.settle-s.ensures.alike in
    down c.requires.desk.shelf.table p.0 (omega arith) w.0 w.1 w.2 c.part-fork.ensures (c.settle-s.ensures.level (omega (arith, c.if-s-eq0.false)))

-- the diagram as its sides give it
stepped : (t : ℕ) (c : After-part-fork t)
    → let a = c.args in
    let x = c.part-fork.result in
    let ts = trees_of a.lent.now.nodes.now a.lent.now.count in
    since_t a.levels (at ts a.x.l) (at ts a.x.r) (at ts a.x.o) ≡ mk x.level (since_t a.levels (at ts x.low.l) (at ts x.low.r) (at ts x.low.o)) (since_t a.levels (at ts x.high.l) (at ts x.high.r) (at ts x.high.o))
stepped t c =
    let p = c.requires.left_le_levels in
    alike_since c.requires.desk.shelf.table p.1 p.2 p.3 c.settle-s.ensures.alike ∙ (forked t c).step

pub returns-then-s-eq0-clause-added : goal.returns-then-s-eq0-clause-added
returns-then-s-eq0-clause-added t c =
    let p = c.requires.left_le_levels in
    (alike_stays c.requires.desk.shelf.table p.1 p.2 p.3 c.settle-s.ensures.alike c.if-s-eq0.true, desk_stays c.requires.desk)

pub spot-i-requires : goal.spot-i-requires
spot-i-requires t c =
    let k = c.requires.desk in
    (omega (arith, k.shelf.size, k.shelf.table.small), k.some, k.fits)

pub recall-requires : goal.recall-requires
recall-requires t c =
    let k = c.requires.desk in
    omega (arith, spot_inside k c.spot-i.ensures, k.shelf.long)

pub returns-in-Some-clause-added : goal.returns-in-Some-clause-added
returns-in-Some-clause-added t c =
    let p = c.requires.left_le_levels in
    let k = c.requires.desk in
    let y = c.settle-s in (
      rw (alike_since k.shelf.table p.1 p.2 p.3 y.ensures.alike, ← recalled_since c.args.levels (trees_of c.args.lent.now.nodes.now c.args.lent.now.count) y.result.l y.result.r y.result.o (omega (arith, c.if-s-eq0.false)))
          (memory_hit k.shelf.table k.memory c.spot-i.ensures _ _ _ _ c.in-Some.ensures),
      desk_stays k,
    )

pub part-fork-requires : goal.part-fork-requires
part-fork-requires t c =
    let w = three t (goal.at.part-fork-requires t c).After-settle-s in
    record { table = c.requires.desk.shelf.table; l_bound = (w.0.below, w.1.below, w.2.below) }

pub overflow_sub-left : goal.overflow_sub-left
overflow_sub-left t c = (forked t (goal.at.overflow_sub-left t c).After-part-fork).some

pub since_walk-requires : goal.since_walk-requires
since_walk-requires t c =
    let d = forked t (goal.at.since_walk-requires t c).After-part-fork in
    (omega (arith, c.decreases, d.some), (c.requires.desk, (omega (arith, c.requires.left_le_levels.0), d.low_l, d.low_r, d.low_o)))

pub returns-in_err-low-clause-added : goal.returns-in_err-low-clause-added
returns-in_err-low-clause-added t c =
    rw (c.from_residual.ensures, stepped t (goal.at.returns-in_err-low-clause-added t c).After-part-fork)
    (stuck_low _ _ _ c.requires.desk.shelf.table c.in_err-low.ensures.added)

pub overflow_sub-left-2 : goal.overflow_sub-left-2
overflow_sub-left-2 t c = (forked t (goal.at.overflow_sub-left-2 t c).After-part-fork).some

pub since_walk-requires-2 : goal.since_walk-requires-2
since_walk-requires-2 t c =
    let d = forked t (goal.at.since_walk-requires-2 t c).After-part-fork in
    let g = c.in_ok-low.ensures.added in
    (omega (arith, c.decreases, d.some), (g.1.desk, (omega (arith, c.requires.left_le_levels.0), within_grown g.0 d.high_l, within_grown g.0 d.high_r, within_grown g.0 d.high_o)))

pub returns-in_err-high-clause-added : goal.returns-in_err-high-clause-added
returns-in_err-high-clause-added t c =
    let at_part = (goal.at.returns-in_err-high-clause-added t c).After-part-fork in
    let d = forked t at_part in
    let g = c.in_ok-low.ensures.added.0 in
    rw (c.from_residual-in_err-high.ensures, stepped t at_part)
    (stuck_high _ _ _ c.requires.desk.shelf.table g (rw (since_kept g c.args.levels d.high_l d.high_r d.high_o) at c.in_err-high.ensures.added))

pub keep-requires : goal.keep-requires
keep-requires t c =
    let d = forked t (goal.at.keep-requires t c).After-part-fork in
    let g = c.in_ok-low.ensures.added.0 in
    let h = rw (since_kept g c.args.levels d.high_l d.high_r d.high_o) at c.in_ok-high.ensures.added in
    let hc = grown_count h.0 in
    let k = h.1.desk in
    record { shelf = k.shelf; low_bound = (omega (arith, grown_ref g), grown_ref h.0); room = omega (arith, spot_inside k c.spot-i.ensures) }

pub returns-clause-added : goal.returns-clause-added
returns-clause-added t c =
    let at = goal.at.returns-clause-added t c in
    let d = forked t at.After-part-fork in
    let w = three t at.After-settle-s in
    let g = c.in_ok-low.ensures.added in
    let h = rw (since_kept g.0 c.args.levels d.high_l d.high_r d.high_o) at c.in_ok-high.ensures.added in
    let key = since_key w.0 w.1 w.2 in
    let gc = grown_count g.0 in
    let hc = grown_count h.0 in
    let is = recalled_since c.args.levels _ _ _ _ (omega (arith, c.if-s-eq0.false)) ∙ d.step in
    rw (stepped t at.After-part-fork)
    (desk_then c.args.layout.c (front_trans g.1.same h.1.same (omega arith)) c.args.levels c.args.layout.slots c.keep.new.self.work.now _ c.keep.new.self.nodes.now _ _ (made c.keep.new.self.count c.keep.result)
    (joined _ _ _ c.requires.desk.shelf.table g.0 h.0 (λ xs j. Remembered c.since_walk-2.new.lent.work.now xs j c.args.levels c.keep.new.self.work.now c.args.layout.c c.args.layout.slots) c.keep.new.self.nodes.now (made c.keep.new.self.count c.keep.result)
    (desk_kept h.1.desk _ _ _ _ c.spot-i.ensures (key_later (omega arith) key) c.keep.new.self.nodes.now c.keep.new.self.work.now _ (recalled_over c.args.levels _ _ _ _ is g.0 h.0 key) (made c.keep.new.self.count c.keep.result) c.keep.ensures.kept)))

use Prim.Native.Nat.{ℕ}
use mathlib.Core.Path.{◌≡◌, ◌∙◌}
use native.Mathlib.Omega.{arith}
use Rattle.trees.specs.Tree.{mk}
use Rattle.trees.specs.Table.{trees_of}
use Rattle.nodes.proofs.ReadLaws.{grown_ref, grown_count}
use Rattle.making.proofs.WalkLaws.{front_trans, stuck_low, stuck_high, joined}
use Rattle.walks.proofs.StepLaws.{within_grown}
use Rattle.making.specs.Loans.{made}
use Rattle.aging.specs.Slates.{applied, Slated}
use Rattle.aging.specs.Tasks.{does}
use Rattle.aging.proofs.SlateLaws.{trio_later, applied_kept, applied_over, results_hit, spot_inside, slate_added, slate_stays, slate_kept, slate_then}
use Rattle.aging.proofs.TaskLaws.{Down, down, ends, eased_same, eased_within, eased_right, eased_dated, dated_grown, trio}
use Rattle.aging.proofs.walk.+walk.Goals as goal
use Rattle.aging.proofs.walk.+walk.Goals.{Else-k-fork}

-- what the fork gives
forked : (t : ℕ) (c : Else-k-fork t)
    → let a = c.args in
    let y = c.ease-s.result in
    let x = c.part-fork.result in
    Down a.task a.lent.now.nodes.now a.lent.now.count a.k a.left y.l y.r y.o x.level x.low.l x.low.r x.low.o x.high.l x.high.r x.high.o
forked t c =
    let p = c.requires.k_bound in
    let e = c.ease-s.ensures in
    down c.args.task c.requires.slate.shelf.table p.0 (eased_within e p.3) (eased_right e p.4) (eased_dated e p.5) c.part-fork.ensures (omega (arith, c.if-k-fork.false))

-- the diagram as its sides give it
stepped : (t : ℕ) (c : Else-k-fork t)
    → let a = c.args in
    let x = c.part-fork.result in
    let op = does a.k a.task in
    let ts = trees_of a.lent.now.nodes.now a.lent.now.count in
    applied op ts a.x.l a.x.r a.x.o ≡ mk x.level (applied op ts x.low.l x.low.r x.low.o) (applied op ts x.high.l x.high.r x.high.o)
stepped t c = eased_same c.args.k c.args.task _ _ _ _ _ _ _ c.ease-s.ensures ∙ (forked t c).step

pub spot-i-requires : goal.spot-i-requires
spot-i-requires t c =
    let k = c.requires.slate in
    (omega (arith, k.shelf.size, k.shelf.table.small), k.some, k.fits)

pub recall-requires : goal.recall-requires
recall-requires t c =
    let k = c.requires.slate in
    omega (arith, spot_inside k c.spot-i.ensures, k.shelf.long)

pub returns-in-Some-clause-added : goal.returns-in-Some-clause-added
returns-in-Some-clause-added t c =
    let k = c.requires.slate in (
      rw (eased_same c.args.k c.args.task _ _ _ _ _ _ _ c.ease-s.ensures) (results_hit k.shelf.table k.results c.spot-i.ensures _ _ _ _ c.in-Some.ensures),
      slate_stays k,
    )

pub part-fork-requires : goal.part-fork-requires
part-fork-requires t c =
    let p = c.requires.k_bound in
    let e = c.ease-s.ensures in
    record { table = c.requires.slate.shelf.table; l_bound = ((eased_within e p.3).below, (eased_right e p.4).below, (eased_dated e p.5).below) }

pub ended-requires : goal.ended-requires
ended-requires t c =
    let p = c.requires.k_bound in
    let e = c.ease-s.ensures in
    let q = ends c.args.task c.requires.slate.shelf.table p.0 (eased_within e p.3) (eased_right e p.4) (eased_dated e p.5) c.part-fork.ensures p.1 c.if-k-fork.true in
    record { shelf = c.requires.slate.shelf; k_bound = (p.0, p.1, q.0, q.1, (eased_dated e p.5).below, q.2) }

pub returns-then-k-fork-clause-added : goal.returns-then-k-fork-clause-added
returns-then-k-fork-clause-added t c =
    rw (eased_same c.args.k c.args.task _ _ _ _ _ _ _ c.ease-s.ensures) (slate_added c.requires.slate _ _ _ (made c.ended.new.lent.count c.ended.result) c.ended.ensures.added)

pub overflow_sub-left : goal.overflow_sub-left
overflow_sub-left t c = (forked t (goal.at.overflow_sub-left t c).Else-k-fork).some

pub walk-requires : goal.walk-requires
walk-requires t c =
    let d = forked t (goal.at.walk-requires t c).Else-k-fork in
    let p = c.requires.k_bound in
    (omega (arith, c.decreases, d.some), (c.requires.slate, (p.0, p.1, omega (arith, p.2), d.low_l, d.low_r, d.low_o)))

pub returns-in_err-low-clause-added : goal.returns-in_err-low-clause-added
returns-in_err-low-clause-added t c =
    rw (c.from_residual.ensures, stepped t (goal.at.returns-in_err-low-clause-added t c).Else-k-fork) (stuck_low _ _ _ c.requires.slate.shelf.table c.in_err-low.ensures.added)

pub overflow_sub-left-2 : goal.overflow_sub-left-2
overflow_sub-left-2 t c = (forked t (goal.at.overflow_sub-left-2 t c).Else-k-fork).some

pub walk-requires-2 : goal.walk-requires-2
walk-requires-2 t c =
    let d = forked t (goal.at.walk-requires-2 t c).Else-k-fork in
    let p = c.requires.k_bound in
    let g = c.in_ok-low.ensures.added in
    (omega (arith, c.decreases, d.some), (g.1.slate, (p.0, p.1, omega (arith, p.2), within_grown g.0 d.high_l, within_grown g.0 d.high_r, dated_grown g.0 d.high_o)))

pub returns-in_err-high-clause-added : goal.returns-in_err-high-clause-added
returns-in_err-high-clause-added t c =
    let k = (goal.at.returns-in_err-high-clause-added t c).Else-k-fork in
    let d = forked t k in
    let g = c.in_ok-low.ensures.added.0 in
    rw (c.from_residual-in_err-high.ensures, stepped t k)
    (stuck_high _ _ _ c.requires.slate.shelf.table g (rw (applied_kept g (does c.args.k c.args.task) _ _ _ (trio d.high_l d.high_r d.high_o)) at c.in_err-high.ensures.added))

pub keep-requires : goal.keep-requires
keep-requires t c =
    let d = forked t (goal.at.keep-requires t c).Else-k-fork in
    let g = c.in_ok-low.ensures.added.0 in
    let h = rw (applied_kept g (does c.args.k c.args.task) _ _ _ (trio d.high_l d.high_r d.high_o)) at c.in_ok-high.ensures.added in
    let hc = grown_count h.0 in
    let k = h.1.slate in
    record { shelf = k.shelf; low_bound = (omega (arith, grown_ref g), grown_ref h.0); room = omega (arith, spot_inside k c.spot-i.ensures) }

pub returns-clause-added : goal.returns-clause-added
returns-clause-added t c =
    let k = (goal.at.returns-clause-added t c).Else-k-fork in
    let d = forked t k in
    let p = c.requires.k_bound in
    let e = c.ease-s.ensures in
    let g = c.in_ok-low.ensures.added in
    let h = rw (applied_kept g.0 (does c.args.k c.args.task) _ _ _ (trio d.high_l d.high_r d.high_o)) at c.in_ok-high.ensures.added in
    let key = trio (eased_within e p.3) (eased_right e p.4) (eased_dated e p.5) in
    let gc = grown_count g.0 in
    let hc = grown_count h.0 in
    rw (stepped t k)
    (slate_then c.args.layout.c (front_trans g.1.same h.1.same (omega arith)) (does c.args.k c.args.task) c.args.layout.slots c.keep.new.self.work.now _ c.keep.new.self.nodes.now _ _ (made c.keep.new.self.count c.keep.result)
    (joined _ _ _ c.requires.slate.shelf.table g.0 h.0 (λ xs j. Slated c.walk-2.new.lent.work.now (does c.args.k c.args.task) xs j c.keep.new.self.work.now c.args.layout.c c.args.layout.slots) c.keep.new.self.nodes.now (made c.keep.new.self.count c.keep.result)
    (slate_kept h.1.slate _ _ _ _ c.spot-i.ensures (trio_later (omega arith) key) c.keep.new.self.nodes.now c.keep.new.self.work.now _ (applied_over (does c.args.k c.args.task) _ _ _ _ d.step g.0 h.0 key) (made c.keep.new.self.count c.keep.result) c.keep.ensures.kept)))

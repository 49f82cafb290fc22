-- What the layer's promises say: an outcome is one, and the room is document 01's. Assumes nothing.
use Prim.Native.Nat.{ℕ, ◌*◌, ◌/◌, ◌<◌}
use mathlib.Core.Path.{◌≡◌, refl, ap, sym, ◌∙◌}
use mathlib.Core.Bool.{Bool, true, false}
use mathlib.Core.List.{List}
use native.Mathlib.Omega.{arith}
use lib.Dec.{leb}
use lib.ListN.{length}
use borrow.Author.Tests.{leb-false}
use Rattle.trees.specs.Room.{Room}
use Rattle.trees.specs.Kept.{diagrams, WellKept}
use Rattle.stepping.specs.declared.Stepped.{Stepped}
use Rattle.std.specs.Prelude.{Result, Ok, Err, IfOk}
use Rattle.diagram.specs.declared.Refused.{Refused}
use Rattle.diagram.specs.declared.Refused.TheVariants.{Full}
use Rattle.stepping.specs.Answers.{told_of}
use Rattle.keeping.specs.Checks.{free_by}
use Rattle.diagram.specs.Steps.{Formed, Told, Task, work_table, counted, Outcome, fits, layout, work_outcome, kept_right, judge, step_outcome, Leaves, Checked, Tells}
use Rattle.diagram.specs.Counts.{Visited}
use Rattle.diagram.specs.Works.{Fits}
use Rattle.diagram.proofs.RemovalLaws.{within_fine}
use Rattle.stepping.proofs.PlanLaws.{old_are}
use Rattle.stepping.proofs.FitLaws.{of_fits}
use Rattle.stepping.proofs.OutcomeLaws.{ready}
use Rattle.stepping.proofs.SizeLaws.{well_kept_law}
use Rattle.stepping.proofs.CountLaws.{room_counted}

-- two answers with the same parts
stepped_eq : (a b : Stepped) → a.done ≡ b.done → a.complements ≡ b.complements → a.swept ≡ b.swept → a ≡ b
stepped_eq a b p r s = λ i. record { done = p i; complements = r i; swept = s i }

-- Two outcomes of a step that satisfy its promises are the same.
pub one_outcome : (k count : ℕ) (plan : List Task) (refs : List ℕ) (kept : ℕ) (ns₀ : List ℕ) (o : Outcome) (x y : Result Stepped Refused) (rs ss zs ts ns ms w v : List ℕ)
    → Leaves o (told_of x) rs zs ns w → Leaves o (told_of y) ss ts ms v
    → IfOk x (λ s. Visited k count plan refs kept ns₀ s.done.kept s.complements s.swept) → IfOk y (λ s. Visited k count plan refs kept ns₀ s.done.kept s.complements s.swept)
    → (x ≡ y) × (rs ≡ ss) × (zs ≡ ts) × (ns ≡ ms) × (w ≡ v)
one_outcome k count plan refs kept ns₀ o x y rs ss zs ts ns ms w v a b p q =
    (same x y (a.told ∙ sym b.told) p q, a.refs ∙ sym b.refs, a.sizes ∙ sym b.sizes, a.nodes ∙ sym b.nodes, a.work ∙ sym b.work)
  where
    same : (x y : Result Stepped Refused) → told_of x ≡ told_of y → IfOk x (λ s. Visited k count plan refs kept ns₀ s.done.kept s.complements s.swept)
        → IfOk y (λ s. Visited k count plan refs kept ns₀ s.done.kept s.complements s.swept) → x ≡ y
    same (Ok s) (Ok t) e p q = let z : s.done ≡ t.done = cc in ap Ok (stepped_eq s t z (p.complements_are ∙ sym q.complements_are) (p.sweep_is ∙ sym q.sweep_is))
    same (Err r) (Err t) e p q = let z : r ≡ t = cc in ap Err z
    same (Ok s) (Err t) e p q = let z : ◌≡◌ {A = ℕ} 0 1 = cc in absurd (omega arith)
    same (Err r) (Ok t) e p q = let z : ◌≡◌ {A = ℕ} 0 1 = cc in absurd (omega arith)

-- Two outcomes of a check that satisfy its promise are the same.
pub one_answer : (o : Checked) (x y : Formed) (w v : List ℕ) → Tells o x w → Tells o y v → (x ≡ y) × (w ≡ v)
one_answer o x y w v a b = (a.result ∙ sym b.result, a.work ∙ sym b.work)

-- the room that is told
room_in : Told → ℕ
room_in (Ok d) = d.room
room_in (Err r) = 0

module _ (k count : ℕ) (plan : List Task) (allowed refs sizes : List ℕ) (kept : ℕ) (ns w : List ℕ) (wide : length refs ≡ 64) where
  -- The length of the working table of well kept diagrams is the room of the functions counted.
  pub room_is : Fits k count (length ns) (length w) → WellKept (free_by k allowed) (length ns / 3) count refs kept ns
      → Room (4 * k) (counted k count plan refs kept ns) (length (work_table k count plan refs kept ns))
  unfolding counted work_table
  room_is f h =
      let r = ready k allowed (length ns / 3) count refs kept ns f.least f.few wide f.whole f.small h in
      let are = old_are ns kept refs count (omega (arith, f.few)) r.none in
      rw (← h.order) (room_counted k plan (diagrams ns kept refs count) count (λ a. rw (← are a) (within_fine (r.leads.each a))))

  -- Where a step tells a room, it is the room of the functions counted; where it is refused as full, that room is over C.
  pub room_told : (n m : ℕ) → (step_outcome k count plan allowed refs sizes kept ns w).told ≡ Ok (record { kept = n; room = m }) → Room (4 * k) (counted k count plan refs kept ns) m
  unfolding step_outcome work_outcome layout work_table room_in
  room_told n m = go (fits k count (length ns) (length w)) refl (kept_right k count allowed refs sizes kept ns) refl (leb (length (work_table k count plan refs kept ns)) (length ns / 3))
    where
      go : (b : Bool) → fits k count (length ns) (length w) ≡ b → (g : Bool) → kept_right k count allowed refs sizes kept ns ≡ g → (t : Bool)
          → (judge b g refs sizes ns w (work_outcome t k count plan refs sizes kept ns w)).told ≡ Ok (record { kept = n; room = m }) → Room (4 * k) (counted k count plan refs kept ns) m
      go false p g q t e = let z : ◌≡◌ {A = ℕ} 0 1 = cc in absurd (omega arith)
      go true p false q t e = let z : ◌≡◌ {A = ℕ} 0 1 = cc in absurd (omega arith)
      go true p true q false e = let z : ◌≡◌ {A = ℕ} 0 1 = cc in absurd (omega arith)
      go true p true q true e =
          let z : length (work_table k count plan refs kept ns) ≡ m = ap room_in e in
          rw z at (room_is (of_fits k count (length ns) (length w) p) (well_kept_law k count allowed refs sizes kept ns q))

  pub room_over : (step_outcome k count plan allowed refs sizes kept ns w).told ≡ Err Full → (m : ℕ) × Room (4 * k) (counted k count plan refs kept ns) m × (length ns / 3 < m)
  unfolding step_outcome work_outcome layout
  room_over = go (fits k count (length ns) (length w)) refl (kept_right k count allowed refs sizes kept ns) refl (leb (length (work_table k count plan refs kept ns)) (length ns / 3)) refl
    where
      go : (b : Bool) → fits k count (length ns) (length w) ≡ b → (g : Bool) → kept_right k count allowed refs sizes kept ns ≡ g
          → (t : Bool) → leb (length (work_table k count plan refs kept ns)) (length ns / 3) ≡ t
          → (judge b g refs sizes ns w (work_outcome t k count plan refs sizes kept ns w)).told ≡ Err Full → (m : ℕ) × Room (4 * k) (counted k count plan refs kept ns) m × (length ns / 3 < m)
      go false p g q t r e = let z : ◌≡◌ {A = ℕ} 0 1 = cc in absurd (omega arith)
      go true p false q t r e = let z : ◌≡◌ {A = ℕ} 0 1 = cc in absurd (omega arith)
      go true p true q true r e = let z : ◌≡◌ {A = ℕ} 0 1 = cc in absurd (omega arith)
      go true p true q false r e = (
        length (work_table k count plan refs kept ns),
        room_is (of_fits k count (length ns) (length w) p) (well_kept_law k count allowed refs sizes kept ns q),
        leb-false (length (work_table k count plan refs kept ns)) (length ns / 3) r,
      )

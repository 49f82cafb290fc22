-- What well kept diagrams give the work, and what the work leaves. Assumes nothing.
use Prim.Native.Nat.{ℕ, ◌*◌, ◌-◌, ◌/◌, ◌≤◌, ◌<◌}
use mathlib.Core.Path.{◌≡◌, refl, sym, ap, ap₂, ◌∙◌}
use mathlib.Core.Bool.{Bool, true, false}
use mathlib.Core.List.{List, [], ◌++◌, map}
use mathlib.Core.Logic.{⊎_elim}
use native.Mathlib.Omega.{arith}
use lib.Dec.{leb}
use lib.ListN.{length, get_or, take, replicate, length-append, length-map, length-replicate, get_or-append, get_or-map}
use lib.Seq.{ext_get_or, get_or-take, length-take-le}
use borrow.Author.Tests.{le-leb, lt-leb}
use Rattle.trees.specs.Tree.{Tree, off, tree_of}
use Rattle.trees.specs.Table.{add_trees, at, ref_of, trees_of, Ref}
use Rattle.trees.specs.Kept.{diagrams, WellKept}
use Rattle.trees.specs.Sizes.{sizes_of}
use Rattle.trees.proofs.Tests.{lt_or_ge}
use Rattle.trees.proofs.ReadLaws.{length_trees, ref_is}
use Rattle.trees.proofs.CanonicalLaws.{zeros_past}
use Rattle.std.specs.Prelude.{Ok, Err}
use Rattle.diagram.specs.declared.Done.{Done}
use Rattle.diagram.specs.declared.Refused.TheVariants.{Full}
use Rattle.nodes.specs.Nodes.{Table, Zeroed, Rows, canonical}
use Rattle.walks.specs.Walks.{Within}
use Rattle.sizes.specs.Leading.{Leading}
use Rattle.sweeping.specs.Sweeps.{Awaits, References, Renewal}
use Rattle.sweeping.proofs.Visited.{renew_visits}
use Rattle.keeping.specs.Checks.{free_by, Right}
use Rattle.diagram.specs.Steps.{Task, new_trees, stages, work_table, cleared, layout, work_outcome, Leaves}
use Rattle.diagram.specs.Counts.{holding, complement_visits, sweep_visits, Visited}
use Rattle.visits.specs.Visits.{sweeps}
use Rattle.diagram.specs.Works.{Fits, Ready, Short, Through}
use Rattle.stepping.proofs.TallyLaws.{holds}
use Rattle.walks.proofs.CallLaws.{within_all}
use Rattle.diagram.proofs.RemovalLaws.{within_fine}
use Rattle.diagram.proofs.RowLaws.{within_no}
use Rattle.stepping.proofs.PlanLaws.{length_new}
use Rattle.stepping.proofs.SizeLaws.{LaidOut, laid_sizes, laid_asked}
use Rattle.keeping.proofs.SoundLaws.{sound_table, sound_rows}
use Rattle.keeping.proofs.VerdictLaws.{kept_right}

-- well kept diagrams are ready for the work
pub ready : (k : ℕ) (allowed : List ℕ) (C count : ℕ) (refs : List ℕ) (kept : ℕ) (ns : List ℕ) → 1 ≤ k → count ≤ 64 → length refs ≡ 64 → length ns ≡ 3 * C → C ≤ 4096
    → WellKept (free_by k allowed) C count refs kept ns → Ready k count refs kept ns
ready k allowed C count refs kept ns pos few wide size small w =
    record { table = sound_table ns kept (4 * k) right w.apart (omega arith) (omega (arith, w.fits)); leads = record { wide = wide; each = leads }; none = w.none; rest = w.rest }
  where
    right : Right ns kept (4 * k)
    right = kept_right k allowed C count refs kept ns pos (omega arith) w

    rows : Rows ns kept (4 * k) refs count
    rows = sound_rows ns kept (4 * k) right w.apart refs count few w.inside

    leads : (a : ℕ) → Within ns kept (4 * k) (4 * k) (get_or refs a 0)
    leads a = ⊎_elim (λ h. within_all ns kept (4 * k) (get_or refs a 0) (rows.inside a h) (rows.fine a h)) (λ h. rw (w.none a h) (within_no ns kept (4 * k))) (lt_or_ge a count)

-- the nodes that were lent are back in their slice: what is said of the ones holds of the other
pub rows_back : {levels count n : ℕ} {ns ms news : List ℕ} → Rows ns n levels news count → ms ≡ ns → Rows ms n levels news count
rows_back r e = rw e r

pub zeroed_back : {a : ℕ} {ns ms xs : List ℕ} → Zeroed a (length ms) ms xs → ms ≡ ns → Zeroed a (length ns) ns xs
zeroed_back z e = rw e at z

pub renewal_back : {ns ms : List ℕ} {n levels : ℕ} {news : List ℕ} {count : ℕ} {w ns' w' : List ℕ} {kept : ℕ} {refs : List ℕ} {visits : ℕ}
    → Renewal ms n levels news count w ns' w' kept refs visits → ms ≡ ns → Renewal ns n levels news count w ns' w' kept refs visits
renewal_back r e = rw e at r

-- the work's outcome does not ask what stands in front of the work slice
pub outcome_same : (b : Bool) (k count : ℕ) (plan : List Task) (refs sizes : List ℕ) (kept : ℕ) (ns w w₁ : List ℕ) → cleared (length ns / 3) w₁ ≡ cleared (length ns / 3) w
    → work_outcome b k count plan refs sizes kept ns w₁ ≡ work_outcome b k count plan refs sizes kept ns w
unfolding work_outcome layout
outcome_same false k count plan refs sizes kept ns w w₁ e = rw e
outcome_same true k count plan refs sizes kept ns w w₁ e = rw e

-- the sweep of the code is that of the definition
swept_same : (size levels : ℕ) (ts : List Tree) (ns : List ℕ) (n : ℕ) (rs : List ℕ) (ds : List Tree) → length ts ≡ n → holding size ts ≡ ns → rs ≡ map (ref_of ts) ds
    → (sweeps ns levels [] (replicate n 0) rs).visits ≡ sweep_visits size levels ts ds
unfolding sweep_visits
swept_same size levels ts ns n rs ds len hold same =
    ap (λ (xs : List ℕ). (sweeps xs levels [] (replicate n 0) rs).visits) (sym hold)
    ∙ ap (λ (m : ℕ). (sweeps (holding size ts) levels [] (replicate m 0) rs).visits) (sym len)
    ∙ ap (λ (xs : List ℕ). (sweeps (holding size ts) levels [] (replicate (length ts) 0) xs).visits) same

abbrev done_of : ℕ → ℕ → Done
done_of kept room = record { kept = kept; room = room }

module _ (k count : ℕ) (plan : List Task) (refs : List ℕ) (kept : ℕ) (ns w : List ℕ) (f : Fits k count (length ns) (length w)) where
  -- no room for all: the tail is wiped, and the nodes are as they were
  pub full_leaves : (sizes : List ℕ) {ns₁ ns₂ w₂ : List ℕ} → Ready k count refs kept ns → Short (4 * k) ns ns₁ kept (stages k plan (diagrams ns kept refs count) count)
      → Zeroed (3 * kept) (length ns₁) ns₁ ns₂ → w₂ ≡ cleared (length ns / 3) w
      → Leaves (work_outcome (leb (length (work_table k count plan refs kept ns)) (length ns / 3)) k count plan refs sizes kept ns w) (Err Full) refs sizes ns₂ w₂
  unfolding work_table work_outcome
  full_leaves sizes {ns₁} {ns₂} r s z e =
      rw (lt-leb (length (add_trees (trees_of ns kept) (map (tree_of (4 * k)) (stages k plan (diagrams ns kept refs count) count)))) (length ns / 3) (omega (arith, s.over, f.whole)))
      (record { told = refl; refs = refl; sizes = refl; nodes = wiped; work = e })
    where
      wiped : ns₂ ≡ ns
      wiped =
          ext_get_or 0 ns₂ ns (z.size ∙ s.size)
          (λ i h. ⊎_elim
          (λ l. z.same.eq i l ∙ s.same.eq i l)
          (λ l. z.zero i l (omega (arith, z.size)) ∙ sym (r.rest i l))
          (lt_or_ge i (3 * kept)))

  module _ {ns₁ : List ℕ} {n : ℕ} {w₀ : List ℕ} {slots : ℕ} {news : List ℕ} {v : ℕ}
      (t : Through k plan (diagrams ns kept refs count) ns kept ns₁ n w₀ (length ns / 3) slots refs news count v) where
    -- what the sweep asks
    pub sweep_ready : (w₁ : List ℕ) → length w₁ ≡ length w → Ready k count refs kept ns
        → Table ns₁ n × ((length ns₁ ≡ 3 * (length ns₁ / 3)) × (4 * (length ns₁ / 3) ≤ length w₁) × (length news ≡ 64)) × Awaits count refs × Rows ns₁ n (4 * k) news count
    sweep_ready w₁ e d =
        let size = t.size in (
          t.desk.shelf.table,
          (omega (arith, f.whole), omega (arith, f.room), t.new_lead.wide),
          record { wide = d.leads.wide; none = d.none },
          record { few = f.few; inside = λ i h. (t.new_lead.each i).below; fine = λ i h. within_fine (t.new_lead.each i) },
        )

    -- the new references lead to the new diagrams
    new_diagrams : diagrams ns₁ n news count ≡ new_trees k plan (diagrams ns kept refs count) count
    unfolding diagrams at
    new_diagrams =
        ext_get_or off _ _ (size ∙ sym (length_new k plan _ count))
        (λ i h.
        let l : i < count = omega (arith, size) in
        get_or-map (at (trees_of ns₁ n)) (take count news) i 0 ∙ ap (at (trees_of ns₁ n)) (get_or-take count news i 0 l) ∙ t.new_are i)
      where
        size : length (map (at (trees_of ns₁ n)) (take count news)) ≡ count
        size = length-map (take count news) (at (trees_of ns₁ n)) ∙ length-take-le count news (omega (arith, t.new_lead.wide, f.few))

    -- the count of nodes is the room
    room_is : length (work_table k count plan refs kept ns) ≡ n
    unfolding work_table
    room_is = ap length (sym t.trees) ∙ length_trees ns₁ n

    -- the references, as a list
    refs_are : {refs' : List ℕ} → References ns₁ n news count refs'
        → refs' ≡ map (ref_of (canonical ns₁ n news count)) (diagrams ns₁ n news count) ++ replicate (64 - count) 0
    unfolding diagrams at ref_of
    refs_are {refs'} r =
        ext_get_or 0 refs' _ (r.wide ∙ sym (length-append (map (ref_of T) (map (at (trees_of ns₁ n)) (take count news))) (replicate (64 - count) 0) ∙ rw (size, length-replicate) (omega (arith, f.few))))
        (λ i h. ⊎_elim
        (λ l. r.is i l ∙ sym (get_or-append (map (ref_of T) (map (at (trees_of ns₁ n)) (take count news))) (replicate (64 - count) 0) 0 i (omega (arith, size))
        ∙ get_or-map (ref_of T) (map (at (trees_of ns₁ n)) (take count news)) i off
        ∙ ap (ref_of T) (get_or-map (at (trees_of ns₁ n)) (take count news) i 0 ∙ ap (at (trees_of ns₁ n)) (get_or-take count news i 0 l))))
        (λ l. r.none i l ∙ sym (zeros_past (map (ref_of T) (map (at (trees_of ns₁ n)) (take count news))) (64 - count) i (omega (arith, size))))
        (lt_or_ge i count))
      where
        T : List Tree
        T = canonical ns₁ n news count

        size : length (map (ref_of T) (map (at (trees_of ns₁ n)) (take count news))) ≡ count
        size = rw (length-map, length-map) (length-take-le count news (omega (arith, t.new_lead.wide, f.few)))

    -- after the sweep: the canonical layout of the new diagrams
    swept_layout : {w₁ w₂ ns₂ : List ℕ} {kept' : ℕ} {refs' : List ℕ} {visits : ℕ} → Renewal ns₁ n (4 * k) news count w₁ ns₂ w₂ kept' refs' visits
        → LaidOut (4 * k) (new_trees k plan (diagrams ns kept refs count) count) count (length ns - 3 * length (add_trees [] (new_trees k plan (diagrams ns kept refs count) count))) (64 - count) ns₂ kept' refs'
    unfolding canonical
    swept_layout r =
        let ds = new_diagrams in
        record {
          rows = length_new k plan _ count;
          fine = λ i h. rw (← t.new_are i) (within_fine (t.new_lead.each i));
          size = rw ds at r.size;
          numbers = rw (ds, t.size) at r.numbers;
          references = rw ds at (refs_are r.references);
        }

    -- all rows worked and swept, and the sizes found
    pub done_leaves : (sizes : List ℕ) {w₁ w₂ ns₂ w₃ sizes' : List ℕ} {kept' : ℕ} {refs' : List ℕ} {visits : ℕ} → Renewal ns₁ n (4 * k) news count w₁ ns₂ w₂ kept' refs' visits
        → sizes' ≡ sizes_of (diagrams ns₂ kept' refs' count) → w₃ ≡ cleared (length ns / 3) w
        → Leaves (work_outcome (leb (length (work_table k count plan refs kept ns)) (length ns / 3)) k count plan refs sizes kept ns w) (Ok (record { kept = kept'; room = n })) refs' sizes' ns₂ w₃
    unfolding work_outcome layout
    done_leaves sizes r z e =
        let table = t.desk.shelf.table.fits in
        let size = t.size in
        let laid = swept_layout r in
        let test : leb (length (work_table k count plan refs kept ns)) (length ns / 3) ≡ true = rw room_is (le-leb n (length ns / 3) (omega arith)) in
        rw test
        (record { told = ap₂ (λ (x y : ℕ). Ok (done_of x y)) laid.size (sym room_is); refs = laid.references; sizes = z ∙ laid_sizes laid; nodes = laid.numbers; work = e })

    -- what the finding of sizes asks
    pub sizes_ready : {w₁ w₂ ns₂ : List ℕ} {kept' : ℕ} {refs' : List ℕ} {visits : ℕ} → Renewal ns₁ n (4 * k) news count w₁ ns₂ w₂ kept' refs' visits → length ns₂ ≡ length ns₁
        → length w₂ ≡ length w → (Table ns₂ kept' × Leading refs' count kept') × (kept' ≤ length w₂)
    sizes_ready r e d =
        let laid = laid_asked (swept_layout r) (length ns / 3) (omega (arith, e, t.size, f.whole)) f.small f.few r.references.wide in
        (laid, omega (arith, laid.0.fits, e, t.size, f.whole, f.room, d))

    -- the references that are swept are those of the new diagrams in the working table
    swept_refs : take count news ≡ map (ref_of (trees_of ns₁ n)) (new_trees k plan (diagrams ns kept refs count) count)
    unfolding at ref_of
    swept_refs =
        ext_get_or 0 _ _ (size ∙ sym (length-map (new_trees k plan (diagrams ns kept refs count) count) (ref_of (trees_of ns₁ n)) ∙ length_new k plan (diagrams ns kept refs count) count))
        (λ i h.
        let l : i < count = omega (arith, size) in
        let w : Ref (trees_of ns₁ n) (get_or news i 0) (get_or (new_trees k plan (diagrams ns kept refs count) count) i off) = record { below = omega (arith, (t.new_lead.each i).below, length_trees ns₁ n); is = t.new_are i } in
        get_or-take count news i 0 l ∙ ref_is ns₁ n (get_or news i 0) _ t.desk.shelf.table.one w
        ∙ sym (get_or-map (ref_of (trees_of ns₁ n)) (new_trees k plan (diagrams ns kept refs count) count) i off))
      where
        size : length (take count news) ≡ count
        size = length-take-le count news (omega (arith, t.new_lead.wide, f.few))

    -- the visits of all rows and of the sweep
    pub done_visits : {w₁ w₂ ns₂ : List ℕ} {kept' : ℕ} {refs' : List ℕ} {visits : ℕ} → Rows ns₁ n (4 * k) news count → Renewal ns₁ n (4 * k) news count w₁ ns₂ w₂ kept' refs' visits
        → Visited k count plan refs kept ns kept' v visits
    unfolding complement_visits work_table
    done_visits rows r = record {
      complements_are = sym t.tally.visits;
      complements_most = t.tally.most;
      sweep_is = sym r.visits ∙ rw (← t.trees) (swept_same (length ns) (4 * k) (trees_of ns₁ n) ns₁ n (take count news) _ (length_trees ns₁ n) (rw t.size at (holds t.desk.shelf.table t.behind)) swept_refs);
      sweep_most = renew_visits t.desk.shelf.table rows r;
    }

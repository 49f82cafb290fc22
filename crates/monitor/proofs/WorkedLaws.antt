-- How the work on an event ends: with bad diagrams, without room, or done; and what is then left. Assumes nothing.
use Prim.Native.Nat.{ℕ, ◌+◌, ◌-◌, ◌*◌, ◌/◌, ◌^◌, ◌<◌, ◌≤◌}
use mathlib.Core.Path.{◌≡◌, refl, ap, sym, subst, ◌∙◌}
use mathlib.Core.Bool.{Bool, true, false}
use mathlib.Core.List.{List, []}
use mathlib.Core.Logic.{⊎_elim}
use native.Mathlib.Omega.{arith}
use lib.Dec.{eqb, ltb, leb}
use lib.ListN.{length, get_or, take, length-map, get_or-map}
use lib.Seq.{ext_get_or, length-take-le}
use borrow.Author.Tests.{eqb-true, leb-true, le-ltb}
use Rattle.trees.specs.Kept.{all_below}
use Rattle.trees.specs.Sizes.{sizes_of}
use Rattle.trees.proofs.Tests.{bool, and_true_l, and_true_r}
use Rattle.trees.proofs.KeptLaws.{all_at}
use Rattle.meaning.specs.declared.Event.{Event}
use Rattle.meaning.specs.declared.Turn.{Turn}
use Rattle.meaning.specs.Rows.{truth, row_at, count_of_rows, rule_of, first_below}
use Rattle.meaning.specs.Numbering.{Lists, place, ask_facts}
use Rattle.meaning.specs.Step.{Shown, step, room_of}
use Rattle.meaning.specs.Tables.{most, read, list_of, list_right, kept_table, lay_state, lay_nodes, lay_values}
use Rattle.meaning.specs.Outcome.{capacity, nodes_right, values_right, cleared, work_size, fact_of, given, facts_of, all_right, count_right, taken, refused, judge_event, decide_event, Machine, shows, settle_event, event_outcome, verdict_of}
use Rattle.meaning.proofs.StepLaws.{trees_length}
use Rattle.meaning.proofs.RunLaws.{few, Laid}
use Rattle.meaning.proofs.AnyState.{laid_formed}
use Rattle.numbers.specs.declared.Asked.{Asked}
use Rattle.numbers.specs.Asking.{with_fresh, with_counts, bare, fact_at, numbered, Asks, Askable}
use Rattle.numbers.proofs.AskedLaws.{lists_of, numbers_right}
use Rattle.lists.specs.Writing.{Writable}
use Rattle.lists.proofs.WrittenLaws.{shortest_is, writable, written_is}
use Rattle.diagram.specs.declared.Instruction.TheVariants.{Yes}
use Rattle.std.specs.Prelude.{Ok, Err}
use Rattle.diagram.specs.declared.Done.{Done}
use Rattle.diagram.specs.declared.Refused.{Refused}
use Rattle.diagram.specs.declared.Refused.TheVariants.{Unfit, Bad, Full}
use Rattle.diagram.specs.Steps
use Rattle.diagram.specs.Steps.{Told, Task, does, judge, formed_outcome, step_outcome, Leaves}
use Rattle.diagram.specs.Counts.{Visited}
use Rattle.instructions.specs.Plan.{task_of, plan_of}
use Rattle.instructions.specs.Planned.{planned}
use Rattle.instructions.specs.Worked.{worked_outcome}
use Rattle.instructions.proofs.ReadLaws.{NumbersRight}
use Rattle.instructions.proofs.PlannedLaws.{planned_length, planned_is}
use Rattle.monitor.specs.Calls.{Happens}
use Rattle.monitor.specs.Events.{lists_right, Listed, Asking}
use Rattle.monitor.specs.Visits.{event_plan}
use Rattle.monitor.specs.Decisions.{number_of, place_of, of_step}
use Rattle.monitor.proofs.SaidLaws.{kept_turn_law, formed_turn_law, taken_turn_law}
use Rattle.monitor.proofs.DecisionLaws.{formed, short, fitting, decides_4, decides_5, decides_6, decides_room}
use Rattle.monitor.proofs.StartLaws.{k_small}
use Rattle.monitor.proofs.TakenLaws.{state_is, verdict_is}
use Rattle.monitor.proofs.WorkLaws.{some_rows, enough_left, step_bad, step_works}
use Rattle.monitor.proofs.EventLaws.{kept, ends, formed_kept, rows_are, refuses_late, refuses_formed, clear_same, rule_count}

-- the lists that a machine shows
pub lists_are : (rows : List ℕ) (m : Machine) → (shows rows m).lists ≡ list_of m.state.k (with_counts m.state.counts) m.values
unfolding shows read
lists_are rows m = lists_of m.state.k m.state m.values

-- an event that agrees has few facts
pub few_facts : (rows : List ℕ) (e : Event) → count_right (rule_of rows) e ≡ true → e.count ≤ 8
unfolding count_right
few_facts rows e h = leb-true e.count 8 (and_true_l (leb e.count 8) (all_right (rule_of rows) (given e)) h)

-- its facts are as many as its count says
facts_count : (e : Event) → e.count ≤ length e.facts → length (facts_of e) ≡ e.count
unfolding facts_of given
facts_count e l = length-map (take e.count e.facts) fact_of ∙ length-take-le e.count e.facts l

-- where the lists are right, an event can ask
module _ (rows masks : List ℕ) (m : Machine) (e : Event) (l : Listed rows masks m) where
  pub values_length : length m.values ≡ 4 * most m.state.k
  unfolding values_right
  values_length =
      eqb-true (length m.values) (4 * most m.state.k)
      (and_true_l (eqb (length m.values) (4 * most m.state.k)) (leb (work_size (capacity m.nodes)) (length m.work)) (and_true_r (nodes_right m.nodes) _ l.lengths))

  counts_few : (v : ℕ) → v < 4 → get_or m.state.counts v 0 ≤ most m.state.k
  unfolding lists_right list_right
  counts_few v h =
      leb-true (get_or m.state.counts v 0) (most m.state.k)
      (and_true_l (leb (get_or m.state.counts v 0) (most m.state.k)) _
      (all_at 4 (list_right m.state.k m.state m.values) (and_true_r (eqb m.state.rows (length (rule_of rows))) (all_below 4 (list_right m.state.k m.state m.values)) l.lists) v h))

  pub askable : count_right (rule_of rows) e ≡ true → Askable m.state.k m.state.counts m.values rows e
  askable c = record { bits = k_small m.state.k l.k_is_right; counts = counts_few; parts = values_length; checked = l.rule_right; agreed = c }

  -- the variable that is short, if one is
  module _ (a : Asked) (t : Asks m.state.k m.state.counts m.values rows e a) where
    short_is : first_below 4 (λ v. ltb (most m.state.k) (get_or a.counts v 0)) ≡ short rows m e
    short_is = shortest_is m.state.k m.state.counts m.values rows e a t (shows rows m) (lists_are rows m)

    pub asking : count_right (rule_of rows) e ≡ true → (v : ℕ) → v ≡ first_below 4 (λ w. ltb (most m.state.k) (get_or a.counts w 0)) → 4 ≤ v → length e.facts ≡ 8 → Asking rows masks m e a
    asking c v q h eight = record { facts = eight; listed = l; count_is_right = c; enough = le-ltb _ _ (subst (λ (n : ℕ). 4 ≤ n) (q ∙ short_is) h); asks = t }

    -- refusal 6
    pub refuses_6 : count_right (rule_of rows) e ≡ true → (v : ℕ) → v ≡ first_below 4 (λ w. ltb (most m.state.k) (get_or a.counts w 0)) → v < 4
        → (u : Turn) (ns vs ws : List ℕ) → u ≡ formed_turn_law (formed_outcome m.state.k m.state.rows masks m.state.refs m.state.sizes m.state.kept m.nodes m.work).gives m.state 6 v
        → ws ≡ (formed_outcome m.state.k m.state.rows masks m.state.refs m.state.sizes m.state.kept m.nodes m.work).work → ns ≡ m.nodes → vs ≡ m.values → Happens rows m e u ns vs ws
    refuses_6 c v q h u ns vs ws x y n w =
        refuses_formed rows m e masks l 6 v u ns vs ws
        (λ f. decides_6 rows m e l.k_is_right l.rule_right l.lengths f c (subst (λ (z : ℕ). z < 4) (q ∙ short_is) h) ∙ ap (refused 6) (sym (q ∙ short_is))) refl x y n w

  -- refusal 5
  pub refuses_5 : count_right (rule_of rows) e ≡ false
      → (u : Turn) (ns vs ws : List ℕ) → u ≡ formed_turn_law (formed_outcome m.state.k m.state.rows masks m.state.refs m.state.sizes m.state.kept m.nodes m.work).gives m.state 5 0
      → ws ≡ (formed_outcome m.state.k m.state.rows masks m.state.refs m.state.sizes m.state.kept m.nodes m.work).work → ns ≡ m.nodes → vs ≡ m.values → Happens rows m e u ns vs ws
  refuses_5 c u ns vs ws x y n w = refuses_formed rows m e masks l 5 0 u ns vs ws (λ f. decides_5 rows m e l.k_is_right l.rule_right l.lengths f c) refl x y n w

-- what a step tells, and what it is done with
abbrev told : Told → Told
told x = x

abbrev done_of : ℕ → ℕ → Done
done_of kept room = record { kept = kept; room = room }

done_same : (x y : Done) → told (Ok x) ≡ told (Ok y) → x ≡ y
done_same x y e = cc

module _ (rows masks : List ℕ) (m : Machine) (e : Event) (a : Asked) (s : Asking rows masks m e a) where
  abbrev after : Shown
  after = step m.state.k (rule_of rows) (shows rows m) (facts_of e)

  abbrev C : ℕ
  C = capacity m.nodes

  right_numbers : (i f : ℕ) → i < count_of_rows rows → f < e.count → NumbersRight (fact_at e f) (ask_facts (facts_of e) (shows rows m).lists (rule_of rows)) (row_at rows i) a.given f
  right_numbers i f li lf v j lv q =
      numbers_right m.state.k m.state.counts m.values rows e a s.asks f i v j lf li lv q
      ∙ ap (λ (L : Lists). numbered (place (ask_facts (facts_of e) L (rule_of rows) v) (get_or (fact_at e f).values j 0))) (sym (lists_are rows m))

  count_facts : length (facts_of e) ≡ e.count
  count_facts = facts_count e (omega (arith, few_facts rows e s.count_is_right, s.facts))

  same_rows : m.state.rows ≡ length (rule_of rows)
  same_rows = rows_are rows m e masks s.listed

  pub rows_few : (0 < m.state.rows) × (m.state.rows ≤ 64)
  rows_few =
      let l = s.listed in
      let p = some_rows rows l.rule_right in
      let q = few rows m.state.k C l.k_is_right l.rule_right in
      (subst (λ (n : ℕ). 0 < n) (sym same_rows) p, subst (λ (n : ℕ). n ≤ 64) (sym same_rows) q)

  -- the three ends of the work
  pub data Ended (x : Told) (rs zs ns ws : List ℕ) : Type 0 where
    bad : formed rows m e ≡ false → x ≡ Err Bad → rs ≡ m.state.refs → zs ≡ m.state.sizes → ns ≡ m.nodes → ws ≡ cleared C m.work → Ended x rs zs ns ws
    full : formed rows m e ≡ true → fitting rows m e ≡ false → x ≡ Err Full → rs ≡ m.state.refs → zs ≡ m.state.sizes → ns ≡ m.nodes → ws ≡ cleared C m.work → Ended x rs zs ns ws
    done : formed rows m e ≡ true → fitting rows m e ≡ true → x ≡ Ok (done_of (length (kept_table after)) (room_of m.state.k (rule_of rows) (shows rows m) (facts_of e) after))
        → rs ≡ (lay_state m.state.k after).refs → zs ≡ sizes_of after.trees → ns ≡ lay_nodes C after → ws ≡ cleared C m.work → Ended x rs zs ns ws

  abbrev plan : List Task
  plan = planned rows e a.given

  count_is : length (rule_of rows) ≡ count_of_rows rows
  unfolding count_of_rows
  count_is = rule_count rows

  -- it is the event's
  plan_is : plan ≡ event_plan rows m e
  unfolding event_plan plan_of planned task_of
  plan_is =
      ext_get_or (does Yes) _ _ (planned_length rows e a.given (count_of_rows rows) ∙ sym (length-map (rule_of rows) (task_of (ask_facts (facts_of e) (shows rows m).lists (rule_of rows)) (facts_of e)) ∙ count_is))
      (λ i h.
      let l : i < length (rule_of rows) = omega (arith, planned_length rows e a.given (count_of_rows rows), count_is) in
      planned_is rows e a.given (shows rows m).lists count_facts right_numbers i l
      ∙ sym (get_or-map (task_of (ask_facts (facts_of e) (shows rows m).lists (rule_of rows)) (facts_of e)) (rule_of rows) i truth))

  module _ (x : Told) (rs zs ns ws : List ℕ)
      (left : Leaves (step_outcome m.state.k (count_of_rows rows) plan masks m.state.refs m.state.sizes m.state.kept m.nodes m.work) x rs zs ns ws) where
    ends_as : (o : Steps.Outcome) → step_outcome m.state.k (length (rule_of rows)) plan masks m.state.refs m.state.sizes m.state.kept m.nodes m.work ≡ o → Leaves o x rs zs ns ws
    unfolding count_of_rows
    ends_as o q =
        subst (λ (y : Steps.Outcome). Leaves y x rs zs ns ws)
        (ap (λ (n : ℕ). step_outcome m.state.k n plan masks m.state.refs m.state.sizes m.state.kept m.nodes m.work) (sym (rule_count rows)) ∙ q) left

    ends_bad : kept rows m e ≡ false → Ended x rs zs ns ws
    unfolding capacity
    ends_bad k =
        let l = s.listed in
        let o = ends_as _ (step_bad rows m e l.k_is_right l.rule_right l.lengths masks l.free plan k) in
        bad (formed_kept rows m e masks l ∙ k) o.told o.refs o.sizes o.nodes (clear_same (length m.nodes / 3) m.work ws o.work)

    works : kept rows m e ≡ true → Leaves (worked_outcome (fitting rows m e) m.state.k C (rule_of rows) (shows rows m) (facts_of e) after m.state.refs m.state.sizes m.nodes m.work) x rs zs ns ws
    works k =
        let l = s.listed in
        ends_as _ (step_works rows m e l.k_is_right l.rule_right l.lengths masks l.free (l.counts, l.refs, l.sizes) (formed_kept rows m e masks l ∙ k) s.enough plan
        (planned_is rows e a.given (shows rows m).lists count_facts right_numbers))

    ends_full : kept rows m e ≡ true → fitting rows m e ≡ false → Ended x rs zs ns ws
    unfolding worked_outcome
    ends_full k f = let o = rw f at (works k) in full (formed_kept rows m e masks s.listed ∙ k) f o.told o.refs o.sizes o.nodes o.work

    ends_done : kept rows m e ≡ true → fitting rows m e ≡ true → Ended x rs zs ns ws
    unfolding worked_outcome
    ends_done k f =
        let o = rw f at (works k) in
        done (formed_kept rows m e masks s.listed ∙ k) f o.told o.refs o.sizes o.nodes o.work

    ended : Ended x rs zs ns ws
    ended = ⊎_elim (λ k. ⊎_elim (ends_done k) (ends_full k) (bool (fitting rows m e))) ends_bad (bool (kept rows m e))

    decides : (b : Bool) → formed rows m e ≡ true → fitting rows m e ≡ b → decide_event rows m e ≡ judge_event taken true true false (short rows m e) b
    decides b f g = let l = s.listed in decides_room rows m e l.k_is_right l.rule_right l.lengths f s.count_is_right s.enough b g

    decides_full : formed rows m e ≡ true → fitting rows m e ≡ false → decide_event rows m e ≡ refused 7 0
    unfolding judge_event
    decides_full f g = decides false f g

    decides_done : formed rows m e ≡ true → fitting rows m e ≡ true → decide_event rows m e ≡ taken
    unfolding judge_event
    decides_done f g = decides true f g

    -- a step without room is refused
    pub refuses_full : (t : Turn) (vs : List ℕ) → x ≡ Err Full → (rs ≡ m.state.refs → zs ≡ m.state.sizes → t ≡ kept_turn_law m.state 7 0) → vs ≡ m.values → Happens rows m e t ns vs ws
    refuses_full t vs y h v = go ended
      where
        go : Ended x rs zs ns ws → Happens rows m e t ns vs ws
        go (bad f q i j n w) = let z : told (Err Full) ≡ told (Err Bad) = sym y ∙ q in let u : ◌≡◌ {A = ℕ} 0 1 = cc in absurd (omega arith)
        go (full f g q i j n w) = refuses_late rows m e 7 0 t ns vs ws (decides_full f g) refl (h i j) n v w
        go (done f g q r j n w) = let z : told (Err Full) ≡ told (Ok _) = sym y ∙ q in let u : ◌≡◌ {A = ℕ} 0 1 = cc in absurd (omega arith)

    -- one on bad diagrams is refused
    pub refuses_bad : (t : Turn) (vs : List ℕ) → x ≡ Err Bad → (rs ≡ m.state.refs → zs ≡ m.state.sizes → t ≡ kept_turn_law m.state 4 0) → vs ≡ m.values → Happens rows m e t ns vs ws
    refuses_bad t vs y h v = go ended
      where
        go : Ended x rs zs ns ws → Happens rows m e t ns vs ws
        go (bad f q i j n w) = let l = s.listed in refuses_late rows m e 4 0 t ns vs ws (decides_4 rows m e l.k_is_right l.rule_right l.lengths f) refl (h i j) n v w
        go (full f g q i j n w) = let z : told (Err Bad) ≡ told (Err Full) = sym y ∙ q in let u : ◌≡◌ {A = ℕ} 0 1 = cc in absurd (omega arith)
        go (done f g q r j n w) = let z : told (Err Bad) ≡ told (Ok _) = sym y ∙ q in let u : ◌≡◌ {A = ℕ} 0 1 = cc in absurd (omega arith)

    -- the numbers and lengths are fit
    pub never_unfit : {A : Type 0} → x ≡ Err Unfit → A
    never_unfit {A} y = go ended
      where
        go : Ended x rs zs ns ws → A
        go (bad f q i j n w) = let z : told (Err Unfit) ≡ told (Err Bad) = sym y ∙ q in let u : ◌≡◌ {A = ℕ} 0 1 = cc in absurd (omega arith)
        go (full f g q i j n w) = let z : told (Err Unfit) ≡ told (Err Full) = sym y ∙ q in let u : ◌≡◌ {A = ℕ} 0 1 = cc in absurd (omega arith)
        go (done f g q r j n w) = let z : told (Err Unfit) ≡ told (Ok _) = sym y ∙ q in let u : ◌≡◌ {A = ℕ} 0 1 = cc in absurd (omega arith)

    -- so a refused step is answered
    pub refuses_step : (r : Refused) → x ≡ Err r → (t : Turn) (vs : List ℕ) → (rs ≡ m.state.refs → zs ≡ m.state.sizes → t ≡ kept_turn_law m.state (number_of (of_step r)) (place_of (of_step r)))
        → vs ≡ m.values → Happens rows m e t ns vs ws
    refuses_step Unfit y t vs h v = never_unfit y
    refuses_step Bad y t vs h v = refuses_bad t vs y h v
    refuses_step Full y t vs h v = refuses_full t vs y h v

    -- one that is done has well-formed diagrams and room
    module _ (did : Done) (d : x ≡ Ok did) where
      pub record Finished : Type 0 where
        pub well : formed rows m e ≡ true
        pub fits : fitting rows m e ≡ true
        pub kept_is : did.kept ≡ length (kept_table after)
        pub room_is : did.room ≡ room_of m.state.k (rule_of rows) (shows rows m) (facts_of e) after
        pub refs_are : rs ≡ (lay_state m.state.k after).refs
        pub sizes_are : zs ≡ sizes_of after.trees
        pub nodes_are : ns ≡ lay_nodes C after
        pub work_is : ws ≡ cleared C m.work

      finished : Finished
      finished = go ended
        where
          go : Ended x rs zs ns ws → Finished
          go (bad f q i j u w) = let z : told (Ok did) ≡ told (Err Bad) = sym d ∙ q in let y : ◌≡◌ {A = ℕ} 0 1 = cc in absurd (omega arith)
          go (full f g q i j u w) = let z : told (Ok did) ≡ told (Err Full) = sym d ∙ q in let y : ◌≡◌ {A = ℕ} 0 1 = cc in absurd (omega arith)
          go (done f g q p j u w) =
              let z : did ≡ done_of (length (kept_table after)) (room_of m.state.k (rule_of rows) (shows rows m) (facts_of e) after) = done_same did _ (sym d ∙ q) in
              record { well = f; fits = g; kept_is = ap (λ (y : Done). y.kept) z; room_is = ap (λ (y : Done). y.room) z; refs_are = p; sizes_are = j; nodes_are = u; work_is = w }

      laid : Laid rows m.state.k C s.listed.k_is_right s.listed.rule_right m (shows rows m)
      laid = let l = s.listed in laid_formed rows m (l.counts, l.refs, l.sizes) l.k_is_right l.rule_right l.lengths finished.well

      trees_count : length after.trees ≡ length (rule_of rows)
      unfolding step
      trees_count =
          trees_length m.state.k (ask_facts (facts_of e) (shows rows m).lists (rule_of rows)) (facts_of e) (shows rows m).trees laid.proper.fine (rule_of rows) []
          ∙ (let z : 0 + length (rule_of rows) ≡ length (rule_of rows) = omega arith in z)

      lists_after : after.lists ≡ ask_facts (facts_of e) (list_of m.state.k (with_counts m.state.counts) m.values) (rule_of rows)
      unfolding step
      lists_after = ap (λ (L : Lists). ask_facts (facts_of e) L (rule_of rows)) (lists_are rows m)

      room_left : (v : ℕ) → v < 4 → get_or a.counts v 0 ≤ most m.state.k
      unfolding most
      room_left v h =
          let z = enough_left rows m e s.enough v h in
          let q : length (ask_facts (facts_of e) (shows rows m).lists (rule_of rows) v) ≡ get_or a.counts v 0 =
          ap (λ (L : Lists). length (ask_facts (facts_of e) L (rule_of rows) v)) (lists_are rows m) ∙ s.asks.listing.counted v h in
          subst (λ (y : ℕ). y ≤ 2 ^ m.state.k - 1) q z

      -- the fresh values can be written
      pub writes : Writable m.state.k m.state.counts a m.values
      writes =
          writable m.state.k m.state.counts m.values rows e a s.asks (k_small m.state.k s.listed.k_is_right) (values_length rows masks m e s.listed)
          (ap (lay_values m.state.k) (sym (lists_are rows m)) ∙ sym laid.values_are) room_left

      taken_outcome : event_outcome rows m e ≡ record {
        answer = verdict_of m.state.k (rule_of rows) (shows rows m) (facts_of e) after;
        left = record { state = lay_state m.state.k after; nodes = lay_nodes C after; values = lay_values m.state.k after.lists; work = cleared C m.work };
      }
      unfolding event_outcome settle_event
      taken_outcome = rw (decides_done finished.well finished.fits) refl

      -- what is given back and left is the outcome of an event that is taken
      pub takes : length a.counts ≡ 4 → (t : Turn) (vs : List ℕ)
          → t ≡ taken_turn_law m.state a.counts rs zs did.kept did.room (eqb (get_or rs (m.state.rows - 1) 0) 1)
          → vs ≡ lay_values m.state.k (with_fresh m.state.counts a.counts (bare a.fresh) (list_of m.state.k (with_counts m.state.counts) m.values)) → Happens rows m e t ns vs ws
      unfolding taken_turn_law
      takes four t vs h v =
          rw h
          (ends rows m e _ taken_outcome _ ns vs ws
          (rw (finished.refs_are, finished.kept_is, finished.room_is)
          (sym (verdict_is m.state.k m.state.rows (rule_of rows) (shows rows m) (facts_of e) after (sym same_rows) (trees_count ∙ sym same_rows) rows_few.0)))
          (rw (finished.refs_are, finished.sizes_are, finished.kept_is)
          (sym (state_is m.state.k m.state.rows after a.counts (trees_count ∙ sym same_rows) four (λ w q. ap (λ (L : Lists). length (L w)) lists_after ∙ s.asks.listing.counted w q))))
          finished.nodes_are
          (v ∙ written_is m.state.k m.state.counts m.values rows e a s.asks ∙ ap (lay_values m.state.k) (sym lists_after))
          finished.work_is)

      -- the visits are those of the event's plan
      pub looks : (complements swept : ℕ) → Visited m.state.k (count_of_rows rows) plan m.state.refs m.state.kept m.nodes did.kept complements swept
          → Visited m.state.k (length (rule_of rows)) (event_plan rows m e) m.state.refs m.state.kept m.nodes did.kept complements swept
      looks complements swept v = rw (count_is, ← plan_is) v

-- How an event ends: what its tests find is what is decided of it, and what its parts leave is the outcome. Assumes nothing.
use Prim.Native.Nat.{ℕ, ◌+◌, ◌-◌, ◌*◌, ◌/◌, ◌<◌, ◌≤◌}
use mathlib.Core.Path.{◌≡◌, refl, ap, sym, ◌∙◌}
use mathlib.Core.Bool.{Bool, true, false, ◌&&◌}
use mathlib.Core.List.{List, ◌++◌}
use Rattle.std.specs.Prelude.{Result, Ok, Err}
use native.Mathlib.Omega.{arith}
use lib.Dec.{eqb, leb}
use lib.ListN.{length, take, drop, replicate, length-take}
use borrow.Author.Tests.{eqb-true, le-leb, lt-leb}
use borrow.Rule.Slice.PartMut.{post_of}
use Rattle.trees.specs.Kept.{all_below}
use Rattle.trees.proofs.Tests.{and_true_l, and_true_r}
use Rattle.meaning.specs.declared.State.{State}
use Rattle.meaning.specs.declared.Event.{Event}
use Rattle.meaning.specs.declared.Turn.{Turn}
use Rattle.meaning.specs.Rows.{rule_of, count_of_rows, Found, right, fault, check_rows}
use Rattle.meaning.specs.Tables.{most, list_right, well_formed}
use Rattle.meaning.specs.Outcome
use Rattle.meaning.specs.Outcome.{k_right, capacity, nodes_right, values_right, work_size, cleared, count_right, taken, refused, judge_start, judge_event, decide_event, Machine, shows, EventOutcome, settle_event, event_outcome}
use Rattle.meaning.proofs.RowsLaws.{rows_length}
use Rattle.meaning.proofs.RunLaws.{start_taken}
use Rattle.rule.specs.Checking.{Free}
use Rattle.diagram.specs.declared.Unformed.TheVariants as unformed
use Rattle.diagram.specs.Steps
use Rattle.diagram.specs.Steps.{judge_formed, formed_outcome}
use Rattle.monitor.specs.declared.refusals.Refusal.{Refusal}
use Rattle.monitor.specs.Decisions.{number_of, place_of, decision_of}
use Rattle.monitor.specs.Calls.{machine, Happens}
use Rattle.monitor.specs.Events.{lists_right, Beyond, Listed}
use Rattle.monitor.proofs.SaidLaws.{kept_turn_law, formed_turn_law}
use Rattle.monitor.proofs.StartLaws.{k_small}
use Rattle.monitor.proofs.DecisionLaws.{lengths, formed, decides_3, decides_4, leaves_all, leaves_work}
use Rattle.monitor.proofs.WorkLaws.{keeps, formed_told}

-- the first three refusals: a work slice asks nothing of one that is refused before it
first_refusal : (a : Bool) (f : Found) (x y w : Bool) (n p : ℕ) → judge_start a f (x && y) ≡ refused n p → (judge_start a f (x && (y && w)) ≡ refused n p) × (leb 4 n ≡ false)
unfolding judge_start
first_refusal false f x y w n p e = let z : ◌≡◌ {A = ℕ} 1 n = cc in (e, rw (sym z) refl)
first_refusal true (fault q) x y w n p e = let z : ◌≡◌ {A = ℕ} 2 n = cc in (e, rw (sym z) refl)
first_refusal true right false y w n p e = let z : ◌≡◌ {A = ℕ} 3 n = cc in (e, rw (sym z) refl)
first_refusal true right true false w n p e = let z : ◌≡◌ {A = ℕ} 3 n = cc in (e, rw (sym z) refl)
first_refusal true right true true w n p e = let z : ◌≡◌ {A = ℕ} 0 1 = cc in absurd (omega arith)

-- the later ones
late_refusal : (f c s : Bool) (v : ℕ) (r : Bool) (n p : ℕ) → judge_event taken f c s v r ≡ refused n p → leb 4 n ≡ true
unfolding judge_event
late_refusal false c s v r n p e = let z : ◌≡◌ {A = ℕ} 4 n = cc in rw (sym z) refl
late_refusal true false s v r n p e = let z : ◌≡◌ {A = ℕ} 5 n = cc in rw (sym z) refl
late_refusal true true true v r n p e = let z : ◌≡◌ {A = ℕ} 6 n = cc in rw (sym z) refl
late_refusal true true false v false n p e = let z : ◌≡◌ {A = ℕ} 7 n = cc in rw (sym z) refl
late_refusal true true false v true n p e = let z : ◌≡◌ {A = ℕ} 0 1 = cc in absurd (omega arith)

-- of three tests the last fails, or the first
fails : (a b c : Bool) → (a && c) ≡ false → (a && (b && c)) ≡ false
fails false b c e = refl
fails true false c e = refl
fails true true c e = e

-- of three tests the first and the last hold
holds : (a b c : Bool) → (a && c) ≡ true → (a && (b && c)) ≡ b
holds true true true e = refl
holds true false true e = refl
holds true b false e = let z : ◌≡◌ {A = Bool} false true = e in let y : ◌≡◌ {A = ℕ} 0 1 = cc in absurd (omega arith)
holds false b c e = let z : ◌≡◌ {A = Bool} false true = e in let y : ◌≡◌ {A = ℕ} 0 1 = cc in absurd (omega arith)

-- the rows of a rule, counted
pub rule_count : (rows : List ℕ) → length (rule_of rows) ≡ length rows / 9
unfolding rule_of count_of_rows
rule_count rows = rows_length rows (length rows / 9)

-- the first w numbers become 0, and the rest is as it was at the start
pub clears : (nodes : List ℕ) (w : ℕ) (xs ys zs : List ℕ) → w ≡ 16 * (length nodes / 3) + 1024 → w ≤ length xs → Beyond w xs ys → zs ≡ replicate (length (take (w - 0) ys)) 0 → zs ++ post_of 0 (w - 0) ys ≡ cleared (capacity nodes) xs
unfolding cleared work_size capacity
clears nodes w xs ys zs h l b e =
    let z : length (take (w - 0) ys) ≡ w = length-take (w - 0) ys ∙ omega (arith, b.size) in
    let y : drop (w - 0) ys ≡ drop w ys = ap (λ (n : ℕ). drop n ys) (let x : w - 0 ≡ w = omega arith in x) in
    rw (e, z, y, b.rest, h) refl

-- what the check of the diagrams tells, as a turn
good_turn : (s : State) (n p : ℕ) (t : Turn) → t ≡ formed_turn_law (Ok tt) s n p → t ≡ kept_turn_law s n p
unfolding formed_turn_law
good_turn s n p t q = q

bad_turn : (s : State) (n p : ℕ) (t : Turn) → t ≡ formed_turn_law (Err unformed.Bad) s n p → t ≡ kept_turn_law s 4 0
unfolding formed_turn_law
bad_turn s n p t q = q

-- the diagram layer clears what the meaning says
pub clear_same : (C : ℕ) (w x : List ℕ) → x ≡ Steps.cleared C w → x ≡ cleared C w
unfolding cleared work_size Steps.cleared
clear_same C w x q = q

module _ (rows : List ℕ) (m : Machine) (e : Event) where
  pub ends : (o : EventOutcome) → event_outcome rows m e ≡ o → (t : Turn) (ns vs ws : List ℕ) → t.answer ≡ o.answer → t.state ≡ o.left.state → ns ≡ o.left.nodes
      → vs ≡ o.left.values → ws ≡ o.left.work → Happens rows m e t ns vs ws
  ends o q t ns vs ws a s n v w = record {
    answer = a ∙ sym (ap (λ (x : EventOutcome). x.answer) q);
    state = s ∙ sym (ap (λ (x : EventOutcome). x.left.state) q);
    nodes_are = n ∙ sym (ap (λ (x : EventOutcome). x.left.nodes) q);
    values_are = v ∙ sym (ap (λ (x : EventOutcome). x.left.values) q);
    work_is = w ∙ sym (ap (λ (x : EventOutcome). x.left.work) q);
  }

  -- refused by 1 to 3: everything is as it was
  pub refuses_early : (n p : ℕ) (t : Turn) (ns vs ws : List ℕ) → decide_event rows m e ≡ refused n p → leb 4 n ≡ false → t ≡ kept_turn_law m.state n p
      → ns ≡ m.nodes → vs ≡ m.values → ws ≡ m.work → Happens rows m e t ns vs ws
  unfolding kept_turn_law
  refuses_early n p t ns vs ws d h q a b c = rw q (ends _ (leaves_all rows m e n p d h) _ ns vs ws refl refl a b c)

  -- refused by 4 to 7: the work slice is cleared
  pub refuses_late : (n p : ℕ) (t : Turn) (ns vs ws : List ℕ) → decide_event rows m e ≡ refused n p → leb 4 n ≡ true → t ≡ kept_turn_law m.state n p
      → ns ≡ m.nodes → vs ≡ m.values → ws ≡ cleared (capacity m.nodes) m.work → Happens rows m e t ns vs ws
  unfolding kept_turn_law
  refuses_late n p t ns vs ws d h q a b c = rw q (ends _ (leaves_work rows m e n p d h) _ ns vs ws refl refl a b c)

  -- the diagrams are well kept, and the sizes are theirs
  abbrev pub kept : Bool
  kept = keeps rows m

  -- the tests of k, the rule, and the lengths of nodes and values
  abbrev pub Passed : Type 0
  Passed = (k_right m.state.k ≡ true) × (check_rows rows ≡ right) × ((nodes_right m.nodes && values_right m.state.k m.values) ≡ true)

  decides_first : (n p : ℕ) → judge_start (k_right m.state.k) (check_rows rows) (nodes_right m.nodes && values_right m.state.k m.values) ≡ refused n p
      → (decide_event rows m e ≡ refused n p) × (leb 4 n ≡ false)
  unfolding decide_event judge_event
  decides_first n p h =
      let q = first_refusal (k_right m.state.k) (check_rows rows) (nodes_right m.nodes) (values_right m.state.k m.values) (leb (work_size (capacity m.nodes)) (length m.work)) n p h in
      (rw q.0 refl, q.1)

  module _ {A : Type 0} (r : Result A Refusal) (j : decision_of r ≡ judge_start (k_right m.state.k) (check_rows rows) (nodes_right m.nodes && values_right m.state.k m.values)) where
    pub early : (q : Refusal) (t : Turn) (ns vs ws : List ℕ) → r ≡ Err q → t ≡ kept_turn_law m.state (number_of q) (place_of q) → ns ≡ m.nodes → vs ≡ m.values → ws ≡ m.work → Happens rows m e t ns vs ws
    early q t ns vs ws p g a b c = let z = decides_first (number_of q) (place_of q) (sym j ∙ ap decision_of p) in refuses_early (number_of q) (place_of q) t ns vs ws z.0 z.1 g a b c

    pub passed : (x : A) → r ≡ Ok x → Passed
    passed x p = start_taken _ _ _ (sym j ∙ ap decision_of p)

  module _ (p : Passed) where
    -- the lengths are right exactly if the work slice is long enough
    lengths_are : lengths rows m e ≡ leb (work_size (capacity m.nodes)) (length m.work)
    lengths_are = rw (and_true_l (nodes_right m.nodes) (values_right m.state.k m.values) p.2, and_true_r (nodes_right m.nodes) (values_right m.state.k m.values) p.2) refl

    pub lengths_right : 16 * (length m.nodes / 3) + 1024 ≤ length m.work → lengths rows m e ≡ true
    unfolding work_size capacity
    lengths_right h = lengths_are ∙ le-leb _ _ h

    -- what the check of the lists needs
    pub sizes : (m.state.k ≤ 10) × (length m.values ≡ 4 * most m.state.k)
    unfolding values_right
    sizes = (k_small m.state.k p.0, eqb-true (length m.values) (4 * most m.state.k) (and_true_r (nodes_right m.nodes) (eqb (length m.values) (4 * most m.state.k)) p.2))

    -- refusal 3, of the work slice
    pub too_short : (t : Turn) (ns vs ws : List ℕ) → length m.work < 16 * (length m.nodes / 3) + 1024 → t ≡ kept_turn_law m.state 3 0 → ns ≡ m.nodes → vs ≡ m.values → ws ≡ m.work → Happens rows m e t ns vs ws
    unfolding work_size capacity
    too_short t ns vs ws h q a b c = refuses_early 3 0 t ns vs ws (decides_3 rows m e p.0 p.1 (lengths_are ∙ lt-leb _ _ h)) refl q a b c

    -- refusal 4, of the lists
    pub bad_lists : (t : Turn) (ns vs ws : List ℕ) → 16 * (length m.nodes / 3) + 1024 ≤ length m.work → lists_right m.state (length rows / 9) m.values ≡ false
        → t ≡ kept_turn_law m.state 4 0 → ns ≡ m.nodes → vs ≡ m.values → ws ≡ cleared (capacity m.nodes) m.work → Happens rows m e t ns vs ws
    unfolding lists_right well_formed
    bad_lists t ns vs ws h l q a b c =
        refuses_late 4 0 t ns vs ws
        (decides_4 rows m e p.0 p.1 (lengths_right h)
        (fails (eqb m.state.rows (length (rule_of rows))) kept (all_below 4 (list_right m.state.k m.state m.values))
        (rw (rule_count rows) l))) refl q a b c

    -- the lists are right: what the rest of the event may assume
    pub listed : (w : List ℕ) (masks : List ℕ) → Beyond (16 * (length m.nodes / 3) + 1024) m.work w → 16 * (length m.nodes / 3) + 1024 ≤ length m.work
        → lists_right m.state (length rows / 9) m.values ≡ true → Free rows masks → length m.state.counts ≡ 4 → length m.state.refs ≡ 64 → length m.state.sizes ≡ 64
        → Listed rows masks (machine m.state m.nodes m.values w)
    listed w masks b h l f c r z = record {
      k_is_right = p.0;
      rule_right = p.1;
      lengths = rw b.size (lengths_right h);
      lists = rw (rule_count rows) l;
      free = f;
      counts = c;
      refs = r;
      sizes = z;
    }

  -- where the lists are right, the state is well formed exactly if its diagrams are well kept and the sizes theirs
  module _ (masks : List ℕ) (l : Listed rows masks m) where
    pub formed_kept : formed rows m e ≡ kept
    unfolding well_formed lists_right
    formed_kept = holds (eqb m.state.rows (length (rule_of rows))) kept (all_below 4 (list_right m.state.k m.state m.values)) l.lists

    pub rows_are : m.state.rows ≡ length (rule_of rows)
    unfolding lists_right
    rows_are = eqb-true _ _ (and_true_l (eqb m.state.rows (length (rule_of rows))) (all_below 4 (list_right m.state.k m.state m.values)) l.lists)

    -- refusal n, where refusal 4 does not come first
    pub refuses_formed : (n p : ℕ) (t : Turn) (ns vs ws : List ℕ) → (formed rows m e ≡ true → decide_event rows m e ≡ refused n p) → leb 4 n ≡ true
        → t ≡ formed_turn_law (formed_outcome m.state.k m.state.rows masks m.state.refs m.state.sizes m.state.kept m.nodes m.work).gives m.state n p
        → ws ≡ (formed_outcome m.state.k m.state.rows masks m.state.refs m.state.sizes m.state.kept m.nodes m.work).work
        → ns ≡ m.nodes → vs ≡ m.values → Happens rows m e t ns vs ws
    refuses_formed n p t ns vs ws d h q w a b = go kept refl (rw told at q) (rw told at w)
      where
        told : formed_outcome m.state.k m.state.rows masks m.state.refs m.state.sizes m.state.kept m.nodes m.work ≡ judge_formed true kept (capacity m.nodes) m.work
        told = rw rows_are (formed_told rows m e l.k_is_right l.rule_right l.lengths masks l.free)

        go : (x : Bool) → kept ≡ x → t ≡ formed_turn_law (judge_formed true x (capacity m.nodes) m.work).gives m.state n p → ws ≡ (judge_formed true x (capacity m.nodes) m.work).work → Happens rows m e t ns vs ws
        go true g y z = refuses_late n p t ns vs ws (d (formed_kept ∙ g)) h (good_turn m.state n p t y) a b (clear_same (capacity m.nodes) m.work ws z)
        go false g y z = refuses_late 4 0 t ns vs ws (decides_4 rows m e l.k_is_right l.rule_right l.lengths (formed_kept ∙ g)) refl (bad_turn m.state n p t y) a b (clear_same (capacity m.nodes) m.work ws z)

-- the tests past the third look only at the length of the work slice, and what is left is the same whatever stood in its first W numbers
module _ (rows : List ℕ) (s : State) (nodes values w w' : List ℕ) (e : Event) (same : Beyond (16 * (length nodes / 3) + 1024) w w')
    (kr : k_right s.k ≡ true) (cr : check_rows rows ≡ right) (ls : lengths rows (machine s nodes values w) e ≡ true) where
  same_decision : decide_event rows (machine s nodes values w') e ≡ decide_event rows (machine s nodes values w) e
  unfolding decide_event shows
  same_decision = rw same.size refl

  same_cleared : cleared (capacity nodes) w' ≡ cleared (capacity nodes) w
  unfolding cleared work_size capacity
  same_cleared = rw same.rest refl

  late : (n p : ℕ) → decide_event rows (machine s nodes values w) e ≡ refused n p → leb 4 n ≡ true
  unfolding decide_event judge_start
  late n p d = late_refusal _ _ _ _ _ n p (rw (kr, cr, ls) at d)

  same_settled : (d : Outcome.Decision) → decide_event rows (machine s nodes values w) e ≡ d
      → settle_event d rows (machine s nodes values w') e ≡ settle_event d rows (machine s nodes values w) e
  unfolding settle_event shows
  same_settled taken q = rw same_cleared refl
  same_settled (refused n p) q = rw (late n p q, same_cleared) refl

  same_outcome : event_outcome rows (machine s nodes values w') e ≡ event_outcome rows (machine s nodes values w) e
  unfolding event_outcome
  same_outcome = rw same_decision (same_settled (decide_event rows (machine s nodes values w) e) refl)

  pub happens_same : (t : Turn) (ns vs ws : List ℕ) → Happens rows (machine s nodes values w') e t ns vs ws → Happens rows (machine s nodes values w) e t ns vs ws
  happens_same t ns vs ws h = record {
    answer = h.answer ∙ ap (λ (x : EventOutcome). x.answer) same_outcome;
    state = h.state ∙ ap (λ (x : EventOutcome). x.left.state) same_outcome;
    nodes_are = h.nodes_are ∙ ap (λ (x : EventOutcome). x.left.nodes) same_outcome;
    values_are = h.values_are ∙ ap (λ (x : EventOutcome). x.left.values) same_outcome;
    work_is = h.work_is ∙ ap (λ (x : EventOutcome). x.left.work) same_outcome;
  }

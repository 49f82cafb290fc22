-- The same state with a larger table: it is well formed, shows the same, and answers the same but where the smaller has no room.
-- Assumes nothing.
use Prim.Native.Nat.{ℕ, ◌+◌, ◌-◌, ◌*◌, ◌%◌, ◌≤◌, ◌<◌}
use mathlib.Core.Path.{◌≡◌, refl, ap, sym, ◌∙◌}
use mathlib.Core.Bool.{Bool, true, false, ◌&&◌}
use mathlib.Core.List.{List, [], ◌++◌, append_assoc}
use mathlib.Core.Logic.{◌⊎◌, inl, inr, ⊎_elim}
use native.Mathlib.Omega.{arith}
use lib.Dec.{eqb, ltb, leb}
use lib.ListN.{length, length-append, length-replicate}
use borrow.Author.Tests.{eqb-true, eq-eqb, ltb-true, lt-ltb, leb-true, le-leb}
use Rattle.trees.specs.Table.{add_trees, show}
use Rattle.trees.proofs.Tests.{and_true, and_true_l, and_true_r}
use Rattle.trees.proofs.ShowLaws.{show_length, sound_adds, sound_nil}
use Rattle.meaning.specs.declared.Event.{Event}
use Rattle.meaning.specs.declared.Answer.{Answer}
use Rattle.meaning.specs.declared.Answer.TheVariants.{Refused}
use Rattle.meaning.specs.Rows.{Row, rule_of, right, check_rows}
use Rattle.meaning.specs.Step.{Shown, step, room_of}
use Rattle.meaning.specs.Tables.{padded, kept_table, lay_nodes}
use Rattle.meaning.specs.Outcome.{k_right, capacity, nodes_right, values_right, work_size, cleared, facts_of, count_right, shortest, Decision, taken, refused, judge_start, judge_event, Machine, WellFormed, enlarged, shows, verdict_of, decide_event, settle_event, event_outcome}
use Rattle.meaning.proofs.ProperLaws.{Proper}
use Rattle.meaning.proofs.StartLaws.{zeros, zeros_add}
use Rattle.meaning.proofs.RunLaws.{Laid, k_is, C-is, shows_is, formed_is, laid_on}
use Rattle.meaning.proofs.AnyState.{laid_formed, work_left}

-- nodes laid out with more room
lay_more : (k C d : ℕ) (rule : List Row) (s : Shown) → Proper k C rule s → lay_nodes C s ++ zeros (3 * d) ≡ lay_nodes (C + d) s
unfolding lay_nodes padded kept_table
lay_more k C d rule s p =
    let xs = show (add_trees [] s.trees) (add_trees [] s.trees) in
    let n = show_length (add_trees [] s.trees) (add_trees [] s.trees) (sound_adds s.trees [] sound_nil).nodes in
    let r = p.room in
    let z : (3 * C - length xs) + 3 * d ≡ 3 * (C + d) - length xs = unfold kept_table in omega arith in
    append_assoc xs (zeros (3 * C - length xs)) (zeros (3 * d)) ∙ ap (λ (l : List ℕ). xs ++ l) (zeros_add (3 * C - length xs) (3 * d) ∙ ap zeros z)

-- a machine with its layout, and what it decides and answers of an event
module _ (rows : List ℕ) (k C : ℕ) (kr : k_right k ≡ true) (cr : check_rows rows ≡ right) (m : Machine) (s : Shown) (laid : Laid rows k C kr cr m s)
    (lengths : (nodes_right m.nodes && (values_right m.state.k m.values && leb (work_size (capacity m.nodes)) (length m.work))) ≡ true) (e : Event) where
  decided : decide_event rows m e ≡ judge_event taken true (count_right (rule_of rows) e) (ltb (shortest k (rule_of rows) s (facts_of e)) 4) (shortest k (rule_of rows) s (facts_of e))
      (leb (room_of k (rule_of rows) s (facts_of e) (step k (rule_of rows) s (facts_of e))) C)
  unfolding decide_event judge_start
  decided = rw (lengths, formed_is rows k C kr cr m s laid, shows_is rows k C kr cr m s laid, C-is rows k C kr cr m s laid, k_is rows k C kr cr m s laid, kr, cr) refl

-- what is answered by a decision, where a verdict is a
answer_of : Decision → Answer → Answer
answer_of taken a = a
answer_of (refused n p) a = Refused n p

answer_is : (rows : List ℕ) (k C : ℕ) (kr : k_right k ≡ true) (cr : check_rows rows ≡ right) (m : Machine) (s : Shown) → Laid rows k C kr cr m s → (e : Event)
    → (event_outcome rows m e).answer ≡ answer_of (decide_event rows m e) (verdict_of k (rule_of rows) s (facts_of e) (step k (rule_of rows) s (facts_of e)))
unfolding event_outcome settle_event answer_of
answer_is rows k C kr cr m s laid e = go (decide_event rows m e)
  where
    go : (d : Decision) → (settle_event d rows m e).answer ≡ answer_of d (verdict_of k (rule_of rows) s (facts_of e) (step k (rule_of rows) s (facts_of e)))
    go taken = rw (shows_is rows k C kr cr m s laid, k_is rows k C kr cr m s laid)
    go (refused n p) = refl

-- with no less room, the same is decided, but where there was too little
judge_more : (c b : Bool) (v : ℕ) (r r' : Bool) → (r ≡ true → r' ≡ true)
    → (judge_event taken true c b v r ≡ refused 7 0) ⊎ (judge_event taken true c b v r' ≡ judge_event taken true c b v r)
unfolding judge_event
judge_more false b v r r' h = inr refl
judge_more true true v r r' h = inr refl
judge_more true false v true r' h = inr (rw (h refl) refl)
judge_more true false v false r' h = inl refl

leb_more : (R C d : ℕ) → leb R C ≡ true → leb R (C + d) ≡ true
leb_more R C d h = let q = leb-true R C h in le-leb R (C + d) (omega arith)

module _ (rows : List ℕ) (m : Machine) (w : WellFormed rows m) (d : ℕ) (work : List ℕ) (most : capacity m.nodes + d ≤ 4096) (long : work_size (capacity m.nodes + d) ≤ length work) where
  abbrev k : ℕ
  k = m.state.k

  abbrev C : ℕ
  C = capacity m.nodes

  abbrev large : Machine
  large = enlarged d work m

  laid : Laid rows k C w.k_is_right w.rows_right m (shows rows m)
  laid = laid_formed rows m w.arrays w.k_is_right w.rows_right w.lengths w.formed

  laid_large : Laid rows k (C + d) w.k_is_right w.rows_right large (shows rows m)
  unfolding enlarged
  laid_large =
      let p = laid.proper in
      let fits = p.room in
      record {
        state_is = laid.state_is;
        nodes_are = ap (λ (l : List ℕ). l ++ zeros (3 * d)) laid.nodes_are ∙ lay_more k C d (rule_of rows) (shows rows m) p;
        values_are = laid.values_are;
        proper = record { enough = p.enough; distinct = p.distinct; beyond = p.beyond; count = p.count; fine = p.fine; free = p.free; room = omega arith };
      }

  C-large : capacity large.nodes ≡ C + d
  C-large = C-is rows k (C + d) w.k_is_right w.rows_right large (shows rows m) laid_large

  nodes_large : nodes_right large.nodes ≡ true
  unfolding nodes_right enlarged
  nodes_large =
      let a = eqb (length m.nodes % 3) 0 in
      let b = ltb 0 C && leb C 4096 in
      let t = and_true_l (a && b) _ w.lengths in
      let x : length m.nodes % 3 ≡ 0 = eqb-true (length m.nodes % 3) 0 (and_true_l a b t) in
      let y : 0 < C = ltb-true 0 C (and_true_l (ltb 0 C) (leb C 4096) (and_true_r a b t)) in
      rw (C-large, length-append, length-replicate)
      (and_true _ _ (eq-eqb ((length m.nodes + 3 * d) % 3) 0 (omega arith)) (and_true _ _ (lt-ltb 0 (C + d) (omega arith)) (le-leb (C + d) 4096 most)))

  lengths_large : (nodes_right large.nodes && (values_right large.state.k large.values && leb (work_size (capacity large.nodes)) (length large.work))) ≡ true
  unfolding enlarged
  lengths_large =
      let v : values_right k m.values ≡ true = and_true_l (values_right k m.values) (leb (work_size C) (length m.work)) (and_true_r (nodes_right m.nodes) _ w.lengths) in
      let t : leb (work_size (capacity large.nodes)) (length work) ≡ true = rw C-large (le-leb (work_size (C + d)) (length work) long) in
      and_true (nodes_right large.nodes) (values_right k m.values && leb (work_size (capacity large.nodes)) (length work)) nodes_large
      (and_true (values_right k m.values) (leb (work_size (capacity large.nodes)) (length work)) v t)

  -- it is well formed, and shows the same
  pub large_formed : WellFormed rows (enlarged d work m)
  large_formed = record {
    arrays = unfold enlarged in w.arrays;
    k_is_right = unfold enlarged in w.k_is_right;
    rows_right = w.rows_right;
    lengths = lengths_large;
    formed = formed_is rows k (C + d) w.k_is_right w.rows_right large (shows rows m) laid_large;
  }

  pub large_shows : shows rows (enlarged d work m) ≡ shows rows m
  large_shows = shows_is rows k (C + d) w.k_is_right w.rows_right large (shows rows m) laid_large

  module _ (e : Event) where
    abbrev said : Answer
    said = verdict_of k (rule_of rows) (shows rows m) (facts_of e) (step k (rule_of rows) (shows rows m) (facts_of e))

    decides : (decide_event rows m e ≡ refused 7 0) ⊎ (decide_event rows (enlarged d work m) e ≡ decide_event rows m e)
    decides =
        let a = decided rows k C w.k_is_right w.rows_right m (shows rows m) laid w.lengths e in
        let b = decided rows k (C + d) w.k_is_right w.rows_right large (shows rows m) laid_large lengths_large e in
        ⊎_elim (λ q. inl (a ∙ q)) (λ q. inr (b ∙ q ∙ sym a)) (judge_more (count_right (rule_of rows) e) _ _ _ _ (leb_more _ C d))

    -- it answers the same, but where the smaller table gave 7
    pub large_answers : ((event_outcome rows m e).answer ≡ Refused 7 0) ⊎ ((event_outcome rows (enlarged d work m) e).answer ≡ (event_outcome rows m e).answer)
    unfolding answer_of
    large_answers =
        let a = answer_is rows k C w.k_is_right w.rows_right m (shows rows m) laid e in
        let b = answer_is rows k (C + d) w.k_is_right w.rows_right large (shows rows m) laid_large e in
        ⊎_elim (λ q. inl (a ∙ ap (λ (x : Decision). answer_of x said) q)) (λ q. inr (b ∙ ap (λ (x : Decision). answer_of x said) q ∙ sym a)) decides

    -- and leaves the same, with the room more
    pub large_left : decide_event rows m e ≡ taken → (event_outcome rows (enlarged d work m) e).left ≡ enlarged d (cleared (capacity m.nodes + d) work) (event_outcome rows m e).left
    unfolding enlarged
    large_left t =
        let q : decide_event rows (enlarged d work m) e ≡ taken = ⊎_elim (λ z. absurd (let y : ◌≡◌ {A = ℕ} 0 1 = cc in omega arith)) (λ z. z ∙ t) decides in
        let a = laid_on rows k C w.k_is_right w.rows_right m (shows rows m) laid e t in
        let b = laid_on rows k (C + d) w.k_is_right w.rows_right large (shows rows m) laid_large e q in
        let ns = b.nodes_are ∙ sym (lay_more k C d (rule_of rows) _ a.proper) ∙ ap (λ (l : List ℕ). l ++ zeros (3 * d)) (sym a.nodes_are) in
        let ws = work_left rows large e q ∙ ap (λ (c : ℕ). cleared c work) C-large in
        λ i. record { state = (b.state_is ∙ sym a.state_is) i; nodes = ns i; values = (b.values_are ∙ sym a.values_are) i; work = ws i }

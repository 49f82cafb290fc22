-- An event leaves every slice as long as it was, and the arrays of the state too. Assumes nothing.
use Prim.Native.Nat.{ℕ, ◌*◌, ◌≤◌}
use native.Mathlib.Omega.{arith}
use mathlib.Core.Path.{◌≡◌, refl, sym, ap, ◌∙◌}
use mathlib.Core.Bool.{Bool, true, false, cond, ◌&&◌}
use mathlib.Core.List.{List, [], map}
use mathlib.Core.Logic.{◌⊎◌, inl, inr}
use lib.Dec.{leb}
use lib.ListN.{length, length-append, length-drop, length-replicate, length-map}
use borrow.Author.Tests.{leb-true, lt-leb}
use Rattle.trees.specs.Table.{add_trees, ref_of}
use Rattle.trees.proofs.Tests.{and_true_r}
use Rattle.trees.proofs.ShowLaws.{show_length, sound_adds, sound_nil}
use Rattle.trees.proofs.SizesLaws.{sizes_length}
use Rattle.meaning.specs.declared.Event.{Event}
use Rattle.meaning.specs.declared.State.{State}
use Rattle.meaning.specs.Rows.{Row, Found, right, fault, rule_of, check_rows}
use Rattle.meaning.specs.Step.{Shown, step}
use Rattle.meaning.specs.Tables.{most, kept_table, lay_state, lay_nodes, lay_values}
use Rattle.meaning.specs.Outcome.{Arrays, k_right, capacity, nodes_right, values_right, work_size, cleared, facts_of, Decision, taken, refused, judge_start, judge_event, Machine, shows, decide_event, settle_event, event_outcome}
use Rattle.meaning.proofs.PartsLaws.{padded_length}
use Rattle.meaning.proofs.ProperLaws.{Proper}
use Rattle.meaning.proofs.RunLaws.{start_taken, few, laid_on}
use Rattle.meaning.proofs.AnyState.{passed, laid_of}

-- the node slice that is laid out
nodes_length : (k C : ℕ) (rule : List Row) (s : Shown) → Proper k C rule s → length (lay_nodes C s) ≡ 3 * C
unfolding lay_nodes kept_table
nodes_length k C rule s p =
    let n = show_length (add_trees [] s.trees) (add_trees [] s.trees) (sound_adds s.trees [] sound_nil).nodes in
    padded_length (3 * C) _ (let r = p.room in unfold kept_table in omega arith)

-- the value slice that is laid out
values_length : (k C : ℕ) (rule : List Row) (s : Shown) → Proper k C rule s → length (lay_values k s.lists) ≡ 4 * most k
unfolding lay_values most
values_length k C rule s p =
    rw (
      length-append,
      length-append,
      length-append,
      padded_length (most k) (s.lists 0) (p.enough 0 (omega arith)),
      padded_length (most k) (s.lists 1) (p.enough 1 (omega arith)),
      padded_length (most k) (s.lists 2) (p.enough 2 (omega arith)),
      padded_length (most k) (s.lists 3) (p.enough 3 (omega arith)),
    ) (omega arith)

-- the references that are laid out
refs_length : (k C : ℕ) (rule : List Row) (s : Shown) → length rule ≤ 64 → Proper k C rule s → length (lay_state k s).refs ≡ 64
unfolding lay_state
refs_length k C rule s h p = padded_length 64 (map (ref_of (kept_table s)) s.trees) (omega (arith, length-map s.trees (ref_of (kept_table s)), p.count))

-- and the sizes
sizes_count : (k C : ℕ) (rule : List Row) (s : Shown) → length rule ≤ 64 → Proper k C rule s → length (lay_state k s).sizes ≡ 64
unfolding lay_state
sizes_count k C rule s h p = sizes_length s.trees (omega (arith, p.count))

counts_length : (k : ℕ) (s : Shown) → length (lay_state k s).counts ≡ 4
unfolding lay_state
counts_length k s = refl

-- a work slice that is long enough stays as long as it is
cleared_length : (C : ℕ) (work : List ℕ) → work_size C ≤ length work → length (cleared C work) ≡ length work
unfolding cleared
cleared_length C work h = rw (length-append, length-replicate, length-drop) (omega arith)

-- start refuses with 1 to 3
start_early : (a : Bool) (f : Found) (b : Bool) (n p : ℕ) → judge_start a f b ≡ refused n p → n ≤ 3
unfolding judge_start
start_early false f b n p e = let z : n ≡ 1 = cc in omega arith
start_early true (fault q) b n p e = let z : n ≡ 2 = cc in omega arith
start_early true right false n p e = let z : n ≡ 3 = cc in omega arith
start_early true right true n p e = let z : ◌≡◌ {A = ℕ} 0 1 = cc in absurd (omega arith)

-- a refusal is that of start, or start's tests are passed
event_late : (d : Decision) (f c s : Bool) (v : ℕ) (r : Bool) (n p : ℕ) → judge_event d f c s v r ≡ refused n p → (d ≡ taken) ⊎ (d ≡ refused n p)
unfolding judge_event
event_late (refused m q) f c s v r n p e = inr e
event_late taken f c s v r n p e = inl refl

module _ (rows : List ℕ) (m : Machine) (e : Event) where
  -- what an event keeps
  pub record Keeps : Type 0 where
    pub arrays : Arrays (event_outcome rows m e).left
    pub nodes : length (event_outcome rows m e).left.nodes ≡ length m.nodes
    pub values : length (event_outcome rows m e).left.values ≡ length m.values
    pub work : length (event_outcome rows m e).left.work ≡ length m.work

  long_enough : (nodes_right m.nodes && (values_right m.state.k m.values && leb (work_size (capacity m.nodes)) (length m.work))) ≡ true
      → work_size (capacity m.nodes) ≤ length m.work
  long_enough h =
      leb-true (work_size (capacity m.nodes)) (length m.work)
      (and_true_r (values_right m.state.k m.values) (leb (work_size (capacity m.nodes)) (length m.work))
      (and_true_r (nodes_right m.nodes) (values_right m.state.k m.values && leb (work_size (capacity m.nodes)) (length m.work)) h))

  taken_keeps : Arrays m → decide_event rows m e ≡ taken → Keeps
  taken_keeps arrays d =
      let k : ℕ = m.state.k in
      let C : ℕ = capacity m.nodes in
      let tests = passed rows m e arrays d in
      let was = laid_of rows m e arrays d in
      let after : Shown = step k (rule_of rows) (shows rows m) (facts_of e) in
      let is = laid_on rows k C tests.0 tests.1 m (shows rows m) was e d in
      record {
        arrays = (
          ap (λ (s : State). length s.counts) is.state_is ∙ counts_length k after,
          ap (λ (s : State). length s.refs) is.state_is ∙ refs_length k C (rule_of rows) after (few rows k C tests.0 tests.1) is.proper,
          ap (λ (s : State). length s.sizes) is.state_is ∙ sizes_count k C (rule_of rows) after (few rows k C tests.0 tests.1) is.proper,
        );
        nodes = ap length is.nodes_are ∙ nodes_length k C (rule_of rows) after is.proper ∙ sym (ap length was.nodes_are ∙ nodes_length k C (rule_of rows) (shows rows m) was.proper);
        values = ap length is.values_are ∙ values_length k C (rule_of rows) after is.proper ∙ sym (ap length was.values_are ∙ values_length k C (rule_of rows) (shows rows m) was.proper);
        work = work_taken ∙ cleared_length C m.work (long_enough tests.2);
      }
    where
      work_taken : length (event_outcome rows m e).left.work ≡ length (cleared (capacity m.nodes) m.work)
      work_taken = unfold event_outcome settle_event in rw d

  refused_keeps : Arrays m → (n p : ℕ) → decide_event rows m e ≡ refused n p → Keeps
  unfolding event_outcome settle_event
  refused_keeps arrays n p d = record { arrays = rw d arrays; nodes = rw d; values = rw d; work = rw d (kept_work early) }
    where
      early : (n ≤ 3) ⊎ (work_size (capacity m.nodes) ≤ length m.work)
      early = unfold decide_event in go (event_late _ _ _ _ _ _ n p d)
        where
          go : (judge_start (k_right m.state.k) (check_rows rows) (nodes_right m.nodes && (values_right m.state.k m.values && leb (work_size (capacity m.nodes)) (length m.work))) ≡ taken)
              ⊎ (judge_start (k_right m.state.k) (check_rows rows) (nodes_right m.nodes && (values_right m.state.k m.values && leb (work_size (capacity m.nodes)) (length m.work))) ≡ refused n p)
              → (n ≤ 3) ⊎ (work_size (capacity m.nodes) ≤ length m.work)
          go (inl t) = inr (long_enough (start_taken _ _ _ t).2)
          go (inr r) = inl (start_early _ _ _ n p r)

      kept_work : (n ≤ 3) ⊎ (work_size (capacity m.nodes) ≤ length m.work)
          → length (cond (leb 4 n) (cleared (capacity m.nodes) m.work) m.work) ≡ length m.work
      kept_work (inl h) = rw (lt-leb 4 n (omega arith))
      kept_work (inr h) = both (leb 4 n)
        where
          both : (b : Bool) → length (cond b (cleared (capacity m.nodes) m.work) m.work) ≡ length m.work
          both true = cleared_length (capacity m.nodes) m.work h
          both false = refl

  -- every event keeps the lengths
  pub event_keeps : Arrays m → Keeps
  event_keeps arrays = go (decide_event rows m e) refl
    where
      go : (d : Decision) → decide_event rows m e ≡ d → Keeps
      go taken q = taken_keeps arrays q
      go (refused n p) q = refused_keeps arrays n p q

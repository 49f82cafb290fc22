-- A run with a larger table beside a run from a fresh start, by nothing but what the calls promise. Assumes nothing.
use Prim.Native.Nat.{ℕ, ◌+◌, ◌*◌, ◌/◌, ◌%◌, ◌≤◌}
use mathlib.Core.Path.{◌≡◌, refl, ap, ap₂, sym, subst, ◌∙◌}
use mathlib.Core.Bool.{◌&&◌}
use mathlib.Core.List.{List, [], ◌∷◌, ◌++◌, map}
use mathlib.Core.Logic.{⊎_elim}
use native.Mathlib.Omega.{arith}
use lib.Dec.{eqb, ltb, leb}
use lib.ListN.{length, length-append, length-replicate, length-drop, length-map}
use borrow.Author.Tests.{eqb-true, leb-true}
use Rattle.trees.specs.Table.{ref_of}
use Rattle.trees.proofs.Tests.{and_true_r}
use Rattle.trees.proofs.SizesLaws.{sizes_length}
use Rattle.meaning.specs.declared.State.{State}
use Rattle.meaning.specs.declared.Event.{Event}
use Rattle.meaning.specs.declared.Answer.{Answer}
use Rattle.meaning.specs.declared.Answer.TheVariants.{Started, Refused}
use Rattle.meaning.specs.Rows.{rule_of}
use Rattle.meaning.specs.Step.{Shown, step}
use Rattle.meaning.specs.Tables.{most, kept_table, lay_state}
use Rattle.meaning.specs.Outcome.{capacity, nodes_right, values_right, work_size, cleared, facts_of, taken, state_of, Machine, Arrays, WellFormed, enlarged, shows, decide_event, event_outcome}
use Rattle.meaning.proofs.PartsLaws.{padded_length}
use Rattle.meaning.proofs.StartLaws.{zeros, zeros_add}
use Rattle.meaning.proofs.RunLaws.{few, Laid, C-is, laid_on, Begun, begun}
use Rattle.meaning.proofs.AnyState.{passed, laid_of}
use Rattle.meaning.proofs.LargerTable.{large_answers, large_left}
use Rattle.monitor.specs.Calls.{IsVerdict}
use Rattle.monitor.specs.Runs.{Fresh, Calls, AllTaken}
use Rattle.demands.proofs.RunLaws.{fresh_started, call_left}
use Rattle.demands.proofs.AnsweredLaws.{verdict_taken, starts_leaves}

state_arrays : (k : ℕ) (s : Shown) → length s.trees ≤ 64 → (length (lay_state k s).counts ≡ 4) × (length (lay_state k s).refs ≡ 64) × (length (lay_state k s).sizes ≡ 64)
unfolding lay_state
state_arrays k s h = (refl, padded_length 64 (map (ref_of (kept_table s)) s.trees) (omega (arith, length-map s.trees (ref_of (kept_table s)))), sizes_length s.trees h)

cleared_length : (C : ℕ) (w : List ℕ) → work_size C ≤ length w → length (cleared C w) ≡ length w
unfolding cleared
cleared_length C w h = rw (length-append, length-replicate, length-drop) (omega arith)

-- an event that is taken: the state was well formed, and what is left has arrays of the same lengths and as many nodes
module _ (rows : List ℕ) (m : Machine) (e : Event) (arrays : Arrays m) (t : decide_event rows m e ≡ taken) where
  formed : WellFormed rows m
  formed = let p = passed rows m e arrays t in record { arrays = arrays; k_is_right = p.0; rows_right = p.1; lengths = p.2; formed = p.3 }

  abbrev left : Machine
  left = (event_outcome rows m e).left

  abbrev after : Shown
  after = step m.state.k (rule_of rows) (shows rows m) (facts_of e)

  laid : Laid rows m.state.k (capacity m.nodes) (passed rows m e arrays t).0 (passed rows m e arrays t).1 left after
  laid = laid_on rows m.state.k (capacity m.nodes) (passed rows m e arrays t).0 (passed rows m e arrays t).1 m (shows rows m) (laid_of rows m e arrays t) e t

  C-left : capacity left.nodes ≡ capacity m.nodes
  C-left = C-is rows m.state.k (capacity m.nodes) (passed rows m e arrays t).0 (passed rows m e arrays t).1 left after laid

  arrays_left : Arrays left
  arrays_left =
      let a = state_arrays m.state.k after (omega (arith, laid.proper.count, few rows m.state.k (capacity m.nodes) (passed rows m e arrays t).0 (passed rows m e arrays t).1)) in (
        ap (λ (s : State). length s.counts) laid.state_is ∙ a.0,
        ap (λ (s : State). length s.refs) laid.state_is ∙ a.1,
        ap (λ (s : State). length s.sizes) laid.state_is ∙ a.2,
      )

-- a verdict is no refusal
no_refusal : (a : Answer) → IsVerdict a → a ≡ Refused 7 0 → ⊥
no_refusal a v q = let z = v.3 in let x : ◌≡◌ {A = ℕ} 0 1 = cc in omega arith

-- where the smaller table takes every event, the larger one answers alike
alike : (rows : List ℕ) (d : ℕ) (es : List Event) (xs ys : List Answer) (m o p : Machine) (work : List ℕ) → Arrays m → capacity m.nodes + d ≤ 4096
    → work_size (capacity m.nodes + d) ≤ length work → Calls rows m es xs o → Calls rows (enlarged d work m) es ys p → AllTaken xs → ys ≡ xs
unfolding Calls AllTaken
alike rows d [] [] [] m o p work ar most long c g v = refl
alike rows d [] [] (b ∷ ys) m o p work ar most long c g v = absurd g
alike rows d [] (a ∷ xs) ys m o p work ar most long c g v = absurd c
alike rows d (e ∷ es) [] ys m o p work ar most long c g v = absurd c
alike rows d (e ∷ es) (a ∷ xs) [] m o p work ar most long c g v = absurd g
alike rows d (e ∷ es) (a ∷ xs) (b ∷ ys) m o p work ar most long c g v =
    let t = verdict_taken rows m e v.0.0 v.0.1 v.0.2 (sym c.1.answer ∙ v.0.3) in
    let w = formed rows m e ar t in
    let C = C-left rows m e ar t in
    let l = call_left rows m c.0 e a c.1 in
    let r = call_left rows (enlarged d work m) g.0 e b g.1 ∙ large_left rows m w d work most long e t in
    let same : b ≡ a = ⊎_elim
    (λ q. absurd (no_refusal a v.0 (c.1.answer ∙ q)))
    (λ q. g.1.answer ∙ q ∙ sym c.1.answer)
    (large_answers rows m w d work most long e) in
    ap₂ (λ (x : Answer) (zs : List Answer). x ∷ zs) same
    (alike rows d es xs ys (event_outcome rows m e).left o p (cleared (capacity m.nodes + d) work) (arrays_left rows m e ar t) (rw C most)
    (rw (C, cleared_length (capacity m.nodes + d) work long) long)
    (subst (λ (x : Machine). Calls rows x es xs o) l c.2) (subst (λ (x : Machine). Calls rows x es ys p) r g.2) v.1)

-- two fresh starts, the second with room for d nodes more
module _ (k : ℕ) (rows nodes values nodes' values' : List ℕ) (m₀ n₀ : Machine) (small : Fresh k rows nodes values m₀) (large : Fresh k rows nodes' values' n₀)
    (d : ℕ) (more : length nodes' ≡ length nodes + 3 * d) (long : work_size (capacity nodes') ≤ length n₀.work) where
  b : Begun k rows nodes values
  b = (begun k rows nodes values (fresh_started k rows nodes values m₀ small)).0

  b' : Begun k rows nodes' values'
  b' = (begun k rows nodes' values' (fresh_started k rows nodes' values' n₀ large)).0

  C-more : (capacity nodes' ≡ capacity nodes + d) × (capacity nodes + d ≤ 4096)
  unfolding capacity
  C-more =
      let c = length nodes' / 3 in
      let t = leb-true c 4096 (and_true_r (ltb 0 c) (leb c 4096) (and_true_r (eqb (length nodes' % 3) 0) (ltb 0 c && leb c 4096) (unfold nodes_right capacity in b'.nodes_right_law))) in
      (omega arith, omega arith)

  same_values : length values' ≡ length values
  unfolding values_right
  same_values = eqb-true (length values') (4 * most k) b'.values_right_law ∙ sym (eqb-true (length values) (4 * most k) b.values_right_law)

  start_enlarged : n₀ ≡ enlarged d n₀.work m₀
  unfolding enlarged
  start_enlarged =
      let p = starts_leaves k rows nodes values (record { state = m₀.state; answer = Started }) m₀.nodes m₀.values small refl in
      let q = starts_leaves k rows nodes' values' (record { state = n₀.state; answer = Started }) n₀.nodes n₀.values large refl in
      let ns : n₀.nodes ≡ m₀.nodes ++ zeros (3 * d) = q.1 ∙ ap zeros more ∙ sym (zeros_add (length nodes) (3 * d)) ∙ ap (λ (l : List ℕ). l ++ zeros (3 * d)) (sym p.1) in
      let ss : n₀.state ≡ m₀.state = q.0 ∙ sym p.0 in
      let vs : n₀.values ≡ m₀.values = q.2 ∙ ap zeros same_values ∙ sym p.2 in
      λ i. record { state = ss i; nodes = ns i; values = vs i; work = n₀.work }

  C-start : capacity m₀.nodes ≡ capacity nodes
  unfolding capacity
  C-start =
      let p = starts_leaves k rows nodes values (record { state = m₀.state; answer = Started }) m₀.nodes m₀.values small refl in
      ap (λ (n : ℕ). n / 3) (ap length p.1 ∙ length-replicate (length nodes) 0)

  arrays_start : Arrays m₀
  unfolding state_of
  arrays_start =
      let p = starts_leaves k rows nodes values (record { state = m₀.state; answer = Started }) m₀.nodes m₀.values small refl in
      (ap (λ (s : State). length s.counts) p.0, ap (λ (s : State). length s.refs) p.0, ap (λ (s : State). length s.sizes) p.0)

  pub runs_alike : (es : List Event) (xs ys : List Answer) (m n : Machine) → Calls rows m₀ es xs m → Calls rows n₀ es ys n → AllTaken xs → ys ≡ xs
  runs_alike es xs ys m n c g v =
      alike rows d es xs ys m₀ m n n₀.work arrays_start (rw C-start C-more.1) (rw (C-start, ← C-more.0) long) c (subst (λ (x : Machine). Calls rows x es ys n) start_enlarged g) v

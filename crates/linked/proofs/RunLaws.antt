-- Calls one after the other: what a call leaves is what the next one reads, so they are the calls that the monitor's demands speak of.
-- Assumes nothing.
use Prim.Native.Nat.{ℕ, ◌%◌, ◌≤◌}
use mathlib.Core.Path.{◌≡◌, refl, ap, sym, ◌∙◌}
use mathlib.Core.Bool.{Bool, true}
use mathlib.Core.List.{List, map}
use native.Mathlib.Omega.{arith}
use lib.ListN.{length, drop, length-append, length-drop, length-map}
use lib.Seq.{length-take-le}
use Rattle.trees.specs.Table.{ref_of}
use Rattle.trees.proofs.SizesLaws.{sizes_length}
use Rattle.meaning.specs.declared.State.{State}
use Rattle.meaning.specs.declared.Event.{Event}
use Rattle.meaning.specs.declared.Answer.TheVariants.{Started}
use Rattle.meaning.specs.Step.{Shown, step}
use Rattle.meaning.specs.Rows.{count_of_rows, rule_of}
use Rattle.meaning.specs.Tables.{kept_table, lay_state}
use Rattle.meaning.specs.Outcome.{Decision, taken, refused, capacity, facts_of, state_of, settle_start, decide_start, start_outcome, Machine, Arrays, shows, decide_event, settle_event, event_outcome}
use Rattle.meaning.specs.Outcome as outcome
use Rattle.monitor.specs.Runs.{Fresh, Call}
use Rattle.meaning.proofs.PartsLaws.{padded_length}
use Rattle.meaning.proofs.RunLaws.{few, laid_on}
use Rattle.meaning.proofs.AnyState.{passed, laid_of}
use Rattle.linked.specs.Packing.{figures_of, references_of, sizes_in, packed_state, unpacked_state}
use Rattle.linked.specs.Happening.{event_of}
use Rattle.linked.specs.Calls.{fits, fits_event, start_left, LinkedStart, machine_of, event_left, LinkedEvent}
use Rattle.linked.specs.Calls as calls
use Rattle.linked.proofs.PackingLaws.{unpack_pack}
use Rattle.linked.proofs.CallLaws.{right_lengths, whole_facts}

-- the arrays of a layout have their lengths
lay_arrays : (k : ℕ) (s : Shown) → length s.trees ≤ 64 → (length (lay_state k s).counts ≡ 4) × (length (lay_state k s).refs ≡ 64) × (length (lay_state k s).sizes ≡ 64)
unfolding lay_state
lay_arrays k s h = (refl, padded_length 64 (map (ref_of (kept_table s)) s.trees) (omega (arith, length-map s.trees (ref_of (kept_table s)))), sizes_length s.trees h)

-- an event leaves a state with arrays of the same lengths
arrays_kept : (rows : List ℕ) (m : Machine) (e : Event) → Arrays m → Arrays (event_outcome rows m e).left
unfolding event_outcome settle_event
arrays_kept rows m e a = go (decide_event rows m e) refl
  where
    go : (d : Decision) → decide_event rows m e ≡ d → Arrays (event_outcome rows m e).left
    go taken h =
        let k = m.state.k in
        let C = capacity m.nodes in
        let p = passed rows m e a h in
        let l = laid_on rows k C p.0 p.1 m (shows rows m) (laid_of rows m e a h) e h in
        let t = lay_arrays k (step k (rule_of rows) (shows rows m) (facts_of e)) (omega (arith, l.proper.count, few rows k C p.0 p.1)) in (
          ap (λ (s : State). length s.counts) l.state_is ∙ t.0,
          ap (λ (s : State). length s.refs) l.state_is ∙ t.1,
          ap (λ (s : State). length s.sizes) l.state_is ∙ t.2,
        )
    go (refused n p) h = rw h a

-- a start leaves a state with arrays of these lengths
arrays_begun : (k : ℕ) (rows nodes values : List ℕ)
    → (length (start_outcome k rows nodes values).state.counts ≡ 4) × (length (start_outcome k rows nodes values).state.refs ≡ 64) × (length (start_outcome k rows nodes values).state.sizes ≡ 64)
unfolding start_outcome settle_start state_of
arrays_begun k rows nodes values = go (decide_start k rows nodes values)
  where
    go : (d : Decision)
        → (length (settle_start d k (count_of_rows rows) nodes values).state.counts ≡ 4) × (length (settle_start d k (count_of_rows rows) nodes values).state.refs ≡ 64)
        × (length (settle_start d k (count_of_rows rows) nodes values).state.sizes ≡ 64)
    go taken = (refl, refl, refl)
    go (refused n p) = (refl, refl, refl)

-- the arrays of the state that 135 numbers are
unpacked_arrays : (xs : List ℕ) → length xs ≡ 135 → (length (unpacked_state xs).counts ≡ 4) × (length (unpacked_state xs).refs ≡ 64) × (length (unpacked_state xs).sizes ≡ 64)
unfolding unpacked_state figures_of references_of sizes_in
unpacked_arrays xs h =
    (length-take-le 4 (drop 3 xs) (simp length-drop (omega arith)), length-take-le 64 (drop 7 xs) (simp length-drop (omega arith)), length-take-le 64 (drop 71 xs) (simp length-drop (omega arith)))

-- the next call is lent as many numbers
packed_length : (s : State) → length s.counts ≡ 4 → length s.refs ≡ 64 → length s.sizes ≡ 64 → length (packed_state s) ≡ 135
unfolding packed_state
packed_length s hc hr hz = simp length-append (omega arith)

-- what a start leaves is what an event then reads
pub start_leaves : (k : ℕ) (rows nodes values work state answer : List ℕ) (r : Bool) (ns vs ss as' : List ℕ) → length state ≡ 135 → length answer ≡ 10
    → LinkedStart k rows nodes values state answer r ns vs ss as'
    → (machine_of ns vs work ss ≡ outcome.machine_of (start_outcome k rows nodes values) work) × (length ss ≡ 135)
unfolding start_left calls.settle_start machine_of outcome.machine_of
start_leaves k rows nodes values work state answer r ns vs ss as' h g o =
    let e : fits state answer ≡ true = right_lengths state answer h g in
    let x : State = (start_outcome k rows nodes values).state in
    let a = arrays_begun k rows nodes values in
    let n : ns ≡ (start_outcome k rows nodes values).nodes = rw e at o.nodes_are in
    let v : vs ≡ (start_outcome k rows nodes values).values = rw e at o.values_are in
    let p : ss ≡ packed_state x = rw e at o.state_is in
    let q : unpacked_state ss ≡ x = ap unpacked_state p ∙ unpack_pack x a.0 a.1 a.2 in
    (λ i. record { state = q i; nodes = n i; values = v i; work = work }, ap length p ∙ packed_length x a.0 a.1 a.2)

-- what an event leaves is what the next one reads
pub event_leaves : (rows nodes values work facts state answer : List ℕ) (r : Bool) (ns vs ws ss as' : List ℕ) → length facts % 5 ≡ 0 → length state ≡ 135 → length answer ≡ 10
    → LinkedEvent rows nodes values work facts state answer r ns vs ws ss as'
    → (machine_of ns vs ws ss ≡ (event_outcome rows (machine_of nodes values work state) (event_of facts)).left) × (length ss ≡ 135)
unfolding event_left calls.settle_event machine_of
event_leaves rows nodes values work facts state answer r ns vs ws ss as' d h g o =
    let f : fits_event facts state answer ≡ true = whole_facts facts state answer d ∙ right_lengths state answer h g in
    let e : Event = event_of facts in
    let m : Machine = machine_of nodes values work state in
    let x : Machine = (event_outcome rows m e).left in
    let a = arrays_kept rows m e (unpacked_arrays state h) in
    let n : ns ≡ x.nodes = rw f at o.nodes_are in
    let v : vs ≡ x.values = rw f at o.values_are in
    let w : ws ≡ x.work = rw f at o.work_is in
    let p : ss ≡ packed_state x.state = rw f at o.state_is in
    let q : unpacked_state ss ≡ x.state = ap unpacked_state p ∙ unpack_pack x.state a.0 a.1 a.2 in
    (λ i. record { state = q i; nodes = n i; values = v i; work = w i }, ap length p ∙ packed_length x.state a.0 a.1 a.2)

-- a start that is taken begins a run of the monitor
pub start_fresh : (k : ℕ) (rows nodes values work state answer : List ℕ) (r : Bool) (ns vs ss as' : List ℕ) → length state ≡ 135 → length answer ≡ 10
    → LinkedStart k rows nodes values state answer r ns vs ss as' → (start_outcome k rows nodes values).answer ≡ Started → Fresh k rows nodes values (machine_of ns vs work ss)
unfolding outcome.machine_of
start_fresh k rows nodes values work state answer r ns vs ss as' h g o t =
    let l = (start_leaves k rows nodes values work state answer r ns vs ss as' h g o).0 in
    record {
      answer = sym t;
      state = ap (λ (m : Machine). m.state) l;
      nodes_are = ap (λ (m : Machine). m.nodes) l;
      values_are = ap (λ (m : Machine). m.values) l;
    }

-- an event is a call of the monitor
pub event_call : (rows nodes values work facts state answer : List ℕ) (r : Bool) (ns vs ws ss as' : List ℕ) → length facts % 5 ≡ 0 → length state ≡ 135 → length answer ≡ 10
    → LinkedEvent rows nodes values work facts state answer r ns vs ws ss as'
    → Call rows (machine_of nodes values work state) (event_of facts) (event_outcome rows (machine_of nodes values work state) (event_of facts)).answer (machine_of ns vs ws ss)
event_call rows nodes values work facts state answer r ns vs ws ss as' d h g o =
    let l = (event_leaves rows nodes values work facts state answer r ns vs ws ss as' d h g o).0 in
    record {
      answer = refl;
      state = ap (λ (m : Machine). m.state) l;
      nodes_are = ap (λ (m : Machine). m.nodes) l;
      values_are = ap (λ (m : Machine). m.values) l;
      work_is = ap (λ (m : Machine). m.work) l;
    }

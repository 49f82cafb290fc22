-- A start and an event on the parts of the tables that the sizes ask for leave what shows the run after them. Assumes nothing.
use Prim.Native.Nat.{ℕ, ◌+◌, ◌-◌, ◌*◌, ◌≤◌}
use native.Mathlib.Omega.{arith}
use mathlib.Core.Path.{◌≡◌, refl, sym, ap, subst, ◌∙◌}
use mathlib.Core.Bool.{Bool, true, false}
use mathlib.Core.List.{List, ◌++◌, append-nil}
use lib.Dec.{ltb}
use lib.ListN.{length, take, drop, replicate, length-append, length-drop, length-replicate, replicate-append-replicate}
use lib.Seq.{length-take-le, take_at}
use borrow.Author.Tests.{ltb-true, ltb-false}
use Rattle.meaning.specs.declared.Event.{Event}
use Rattle.meaning.specs.declared.Answer.{Answer}
use Rattle.meaning.specs.declared.Answer.TheVariants.{Started, Verdict, Refused}
use Rattle.meaning.specs.Rows.{count_of_rows}
use Rattle.meaning.specs.Outcome.{work_size, Decision, taken, refused, decide_start, state_of, settle_start, start_outcome, machine_of, EventOutcome, event_outcome}
use Rattle.monitor.specs.Calls.{machine}
use Rattle.answers.specs.Answers.{headed, said_line, told_lines}
use Rattle.transcript.specs.Output.{judging, Reply, start_reply, values_asked, begins, judged}
use Rattle.transcript.proofs.LengthLaws.{Keeps, event_keeps}
use Rattle.session.specs.declared.Part.TheVariants.{Events}
use Rattle.session.specs.declared.Session.{Session}
use Rattle.session.specs.Sessions as session
use Rattle.session.specs.Sessions.{Sound, Long}
use Rattle.session.specs.Lefts.{started, begun_as, begin_left, happen_left, happened}
use Rattle.session.proofs.SessionLaws.{listed_none, listed_shift}
use Rattle.kiosk.proofs.ShowLaws.{stand_as, Due, Shows, Replies, turned_over}

-- the front of zeros
take_zeros : (n m : ℕ) → n ≤ m → take {A = ℕ} n (replicate m 0) ≡ replicate n 0
take_zeros n m h =
    let whole : n + (m - n) ≡ m = omega arith in
    ap (λ (x : ℕ). take {A = ℕ} n (replicate x 0)) (sym whole)
    ∙ ap (λ (l : List ℕ). take n l) (sym (replicate-append-replicate n (m - n) 0))
    ∙ take_at (replicate n 0) (replicate (m - n) 0) n (length-replicate n 0)

-- a start keeps the lengths, and gives a state with its arrays
start_nodes : (k : ℕ) (rows nodes values : List ℕ) → length (start_outcome k rows nodes values).nodes ≡ length nodes
unfolding start_outcome
start_nodes k rows nodes values = go (decide_start k rows nodes values)
  where
    go : (d : Decision) → length (settle_start d k (count_of_rows rows) nodes values).nodes ≡ length nodes
    go taken = unfold settle_start in length-replicate (length nodes) 0
    go (refused n p) = unfold settle_start in refl

start_values : (k : ℕ) (rows nodes values : List ℕ) → length (start_outcome k rows nodes values).values ≡ length values
unfolding start_outcome
start_values k rows nodes values = go (decide_start k rows nodes values)
  where
    go : (d : Decision) → length (settle_start d k (count_of_rows rows) nodes values).values ≡ length values
    go taken = unfold settle_start in length-replicate (length values) 0
    go (refused n p) = unfold settle_start in refl

start_arrays : (k : ℕ) (rows nodes values : List ℕ)
    → (length (start_outcome k rows nodes values).state.counts ≡ 4) × (length (start_outcome k rows nodes values).state.refs ≡ 64) × (length (start_outcome k rows nodes values).state.sizes ≡ 64)
unfolding start_outcome settle_start state_of
start_arrays k rows nodes values = go (decide_start k rows nodes values)
  where
    go : (d : Decision)
        → (length (settle_start d k (count_of_rows rows) nodes values).state.counts ≡ 4) × (length (settle_start d k (count_of_rows rows) nodes values).state.refs ≡ 64)
        × (length (settle_start d k (count_of_rows rows) nodes values).state.sizes ≡ 64)
    go taken = (refl, refl, refl)
    go (refused n p) = (refl, refl, refl)

-- the value slice fits its table
listed_few : (k : ℕ) → values_asked k ≤ 4092
listed_few k = go (ltb 10 k) refl
  where
    go : (q : Bool) → ltb 10 k ≡ q → values_asked k ≤ 4092
    go true e = omega (arith, listed_none k (ltb-true 10 k e))
    go false e =
        let entry = listed_shift k (ltb-false 10 k e) in
        omega (arith, entry.0, entry.1)

module _ (s : Session) (rows nodes values work : List ℕ) (h : Sound s) (t : Long rows nodes values work) where
  nodes_part : length (take (3 * s.c) nodes) ≡ 3 * s.c
  nodes_part = length-take-le (3 * s.c) nodes (omega (arith, h.nodes_few, t.nodes_long))

  values_part : length (take (values_asked s.k) values) ≡ values_asked s.k
  values_part = length-take-le (values_asked s.k) values (omega (arith, listed_few s.k, t.values_long))

  work_part : length (take (16 * s.c + 1024) work) ≡ 16 * s.c + 1024
  work_part = length-take-le (16 * s.c + 1024) work (omega (arith, h.nodes_few, t.work_long))

  -- parts put back keep the tables' lengths
  put_back : (ns vs : List ℕ) → length ns ≡ 3 * s.c → length vs ≡ values_asked s.k
      → Long rows (ns ++ drop (3 * s.c) nodes) (vs ++ drop (values_asked s.k) values) work
  put_back ns vs n v = record {
    rows_long = t.rows_long;
    nodes_long = omega (arith, length-append ns (drop (3 * s.c) nodes), length-drop (3 * s.c) nodes, n, t.nodes_long, h.nodes_few);
    values_long = omega (arith, length-append vs (drop (values_asked s.k) values), length-drop (values_asked s.k) values, v, t.values_long, listed_few s.k);
    work_long = t.work_long;
  }

  -- a start, by its answer
  module _ (d : (s.ordinal ≡ 0) × (nodes ≡ replicate 1536 0) × (values ≡ replicate 4092 0) × (work ≡ replicate 9216 0)) where
    ns_long : length (started s rows nodes values).nodes ≡ 3 * s.c
    unfolding started
    ns_long = start_nodes s.k (take s.rows rows) (take (3 * s.c) nodes) (take (values_asked s.k) values) ∙ nodes_part

    vs_long : length (started s rows nodes values).values ≡ values_asked s.k
    unfolding started
    vs_long = start_values s.k (take s.rows rows) (take (3 * s.c) nodes) (take (values_asked s.k) values) ∙ values_part

    arrays : (length (started s rows nodes values).state.counts ≡ 4) × (length (started s rows nodes values).state.refs ≡ 64) × (length (started s rows nodes values).state.sizes ≡ 64)
    unfolding started
    arrays = start_arrays s.k (take s.rows rows) (take (3 * s.c) nodes) (take (values_asked s.k) values)

    work_zeros : take (16 * s.c + 1024) work ≡ replicate (work_size s.c) 0
    unfolding work_size
    work_zeros = ap (take (16 * s.c + 1024)) d.3 ∙ take_zeros (16 * s.c + 1024) 9216 (omega (arith, h.nodes_few))

    back : Long rows ((started s rows nodes values).nodes ++ drop (3 * s.c) nodes) ((started s rows nodes values).values ++ drop (values_asked s.k) values) work
    back = put_back (started s rows nodes values).nodes (started s rows nodes values).values ns_long vs_long

    begun_shows : Shows
        (record { part = Events; k = s.k; c = s.c; rows = s.rows; ordinal = s.ordinal; state = (started s rows nodes values).state })
        rows
        ((started s rows nodes values).nodes ++ drop (3 * s.c) nodes)
        ((started s rows nodes values).values ++ drop (values_asked s.k) values)
        work
        (judging (take s.rows rows) 0 (machine_of (started s rows nodes values) (replicate (work_size s.c) 0)))
    unfolding stand_as Due session.machine_of machine_of
    begun_shows =
        let zero = d.0 in
        let n = take_at (started s rows nodes values).nodes (drop (3 * s.c) nodes) (3 * s.c) ns_long in
        let v = take_at (started s rows nodes values).values (drop (values_asked s.k) values) (values_asked s.k) vs_long in
        let w = work_zeros in
        record {
          stand_is = sym (λ i. judging (take s.rows rows) (zero i) (machine (started s rows nodes values).state (n i) (v i) (w i)));
          sound = record { nodes_few = h.nodes_few; rows_few = h.rows_few };
          tables = back;
          rest = arrays;
        }

    begun_replies : (a : Answer)
        → Replies (begun_as a s (started s rows nodes values)) rows ((started s rows nodes values).nodes ++ drop (3 * s.c) nodes) ((started s rows nodes values).values ++ drop (values_asked s.k) values) work
        (start_reply s.c (take s.rows rows) (started s rows nodes values) a)
    unfolding begun_as start_reply told_lines said_line
    begun_replies Started = record { shows = begun_shows; bytes_are = append-nil _ }
    begun_replies (Verdict holds kept room) = record { shows = begun_shows; bytes_are = append-nil _ }
    begun_replies (Refused number place) = record { shows = turned_over s rows _ _ work h back; bytes_are = refl }

    -- the same start as on slices of the lengths that k and C ask for
    start_same : start_reply s.c (take s.rows rows) (started s rows nodes values) (started s rows nodes values).answer
        ≡ start_reply s.c (take s.rows rows) (begins s.k s.c (take s.rows rows)) (begins s.k s.c (take s.rows rows)).answer
    unfolding started begins
    start_same =
        let n : take (3 * s.c) nodes ≡ replicate (3 * s.c) 0 = ap (take (3 * s.c)) d.1 ∙ take_zeros (3 * s.c) 1536 (omega (arith, h.nodes_few)) in
        let v : take (values_asked s.k) values ≡ replicate (values_asked s.k) 0 =
        ap (take (values_asked s.k)) d.2 ∙ take_zeros (values_asked s.k) 4092 (listed_few s.k) in
        λ i. start_reply s.c (take s.rows rows) (start_outcome s.k (take s.rows rows) (n i) (v i)) (start_outcome s.k (take s.rows rows) (n i) (v i)).answer

    pub begin_shows : Replies (begin_left s (started s rows nodes values) nodes values).after rows (begin_left s (started s rows nodes values) nodes values).nodes (begin_left s (started s rows nodes values) nodes values).values work
        (start_reply s.c (take s.rows rows) (begins s.k s.c (take s.rows rows)) (begins s.k s.c (take s.rows rows)).answer)
    unfolding begin_left
    begin_shows =
        subst
        (λ (y : Reply). Replies (begun_as (started s rows nodes values).answer s (started s rows nodes values)) rows ((started s rows nodes values).nodes ++ drop (3 * s.c) nodes) ((started s rows nodes values).values ++ drop (values_asked s.k) values) work y)
        start_same
        (begun_replies (started s rows nodes values).answer)

  -- an event, behind what was told before it
  module _ (e : Event) (arrays : (length s.state.counts ≡ 4) × (length s.state.refs ≡ 64) × (length s.state.sizes ≡ 64)) where
    kept : Keeps (take s.rows rows) (session.machine_of s nodes values work) e
    kept = event_keeps (take s.rows rows) (session.machine_of s nodes values work) e (unfold session.machine_of in arrays)

    nodes_kept : length (event_outcome (take s.rows rows) (session.machine_of s nodes values work) e).left.nodes ≡ 3 * s.c
    nodes_kept = kept.nodes ∙ (unfold session.machine_of in nodes_part)

    values_kept : length (event_outcome (take s.rows rows) (session.machine_of s nodes values work) e).left.values ≡ values_asked s.k
    values_kept = kept.values ∙ (unfold session.machine_of in values_part)

    work_kept : length (event_outcome (take s.rows rows) (session.machine_of s nodes values work) e).left.work ≡ 16 * s.c + 1024
    work_kept = kept.work ∙ (unfold session.machine_of in work_part)

    pub happen_shows : (header : Bool)
        → Replies (happened s header e rows nodes values work).after rows (happened s header e rows nodes values work).nodes (happened s header e rows nodes values work).values (happened s header e rows nodes values work).work
        (judged e (headed header) (judging (take s.rows rows) s.ordinal (session.machine_of s nodes values work)))
    unfolding happened happen_left judged stand_as Due told_lines said_line session.machine_of
    happen_shows header =
        let o : EventOutcome = event_outcome (take s.rows rows) (session.machine_of s nodes values work) e in
        let back = put_back o.left.nodes o.left.values nodes_kept values_kept in
        let n = take_at o.left.nodes (drop (3 * s.c) nodes) (3 * s.c) nodes_kept in
        let v = take_at o.left.values (drop (values_asked s.k) values) (values_asked s.k) values_kept in
        let w = take_at o.left.work (drop (16 * s.c + 1024) work) (16 * s.c + 1024) work_kept in
        let long : length (o.left.work ++ drop (16 * s.c + 1024) work) ≡ 9216 =
        omega (arith, length-append o.left.work (drop (16 * s.c + 1024) work), length-drop (16 * s.c + 1024) work, work_kept, t.work_long, h.nodes_few) in
        record {
          shows = record {
            stand_is = sym (λ i. judging (take s.rows rows) (s.ordinal + 1) (machine o.left.state (n i) (v i) (w i)));
            sound = record { nodes_few = h.nodes_few; rows_few = h.rows_few };
            tables = record { rows_long = back.rows_long; nodes_long = back.nodes_long; values_long = back.values_long; work_long = long };
            rest = kept.arrays;
          };
          bytes_are = refl;
        }

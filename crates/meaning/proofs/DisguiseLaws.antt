-- Disguised logs: both runs give the same answers and diagrams, and the value lists differ by the disguise only. Assumes nothing.
use Prim.Native.Nat.{ℕ, zero, suc, ◌*◌, ◌≤◌, ◌<◌}
use mathlib.Core.Path.{◌≡◌, refl, ap, ap₂, sym, ◌∙◌, fun_ext}
use mathlib.Core.Bool.{Bool, true, false, cond, ◌&&◌}
use mathlib.Core.List.{List, [], ◌∷◌, map}
use native.Mathlib.Omega.{arith}
use lib.Dec.{ltb, leb}
use lib.ListN.{length, get_or, take, length-append, length-map, length-drop}
use Rattle.meaning.specs.declared.State.{State}
use Rattle.meaning.specs.declared.Event.{Event}
use Rattle.meaning.specs.declared.Fact.{Fact as Given}
use Rattle.meaning.specs.declared.Value.{Value}
use Rattle.meaning.specs.declared.Answer.{Answer}
use Rattle.meaning.specs.Qtl.{Fact}
use Rattle.meaning.specs.Rows.{Row, truth, atom, both, neg, since, previous, exists, rule_of, first_below, right, check_rows}
use Rattle.meaning.specs.Numbering.{Lists, ask_facts}
use Rattle.meaning.specs.Step.{Shown, step, room_of}
use Rattle.meaning.specs.Tables.{most, kept_table, lay_state, lay_nodes, lay_values}
use Rattle.meaning.specs.Outcome.{k_right, capacity, nodes_right, values_right, work_size, cleared, fact_of, given, facts_of, agrees, all_agree, fact_right, all_right, count_right, shortest, Decision, taken, refused, judge_start, judge_event, Machine, shows, decide_event, verdict_of, settle_event, event_outcome, runs, answers}
use Rattle.meaning.specs.Disguise.{disguised_given, disguised, disguised_fact}
use Rattle.meaning.proofs.ValuesLaws.{Distinct}
use Rattle.meaning.proofs.PartsLaws.{padded_length}
use Rattle.meaning.proofs.ProperLaws.{Proper}
use Rattle.meaning.proofs.RenameLaws.{Every, EveryFact, EveryEvent, EveryList, KeepsRows, renamed_lists, renamed, ask_facts_every, ask_facts_ren, step_ren, room_ren}
use Rattle.meaning.proofs.RunLaws.{Laid, k_is, shows_is, formed_is, laid_on, laid_stays}

-- the fact of a disguised event
take_map : {A : Type 0} (n : ℕ) (f : A → A) (vs : List A) → take n (map f vs) ≡ map f (take n vs)
take_map zero f vs = refl
take_map (suc n) f [] = refl
take_map {A} (suc n) f (v ∷ vs) = ap (λ (l : List A). f v ∷ l) (take_map n f vs)

hidden : (ℕ → ℕ) → Value → Value
hidden π v = record { 0 = π v.0 }

plain : Value → ℕ
plain v = v.0

values_of : (π : ℕ → ℕ) (vs : List Value) → map plain (map (hidden π) vs) ≡ map π (map plain vs)
unfolding hidden plain
values_of π [] = refl
values_of π (v ∷ vs) = ap (λ (l : List ℕ). π v.0 ∷ l) (values_of π vs)

pub fact_of_law : (π : ℕ → ℕ) (e : Given) → fact_of (disguised_given π e) ≡ disguised_fact π (fact_of e)
unfolding fact_of disguised_given disguised_fact hidden plain
fact_of_law π e =
    let q : map plain (take e.count (map (hidden π) e.values)) ≡ map π (map plain (take e.count e.values)) =
    ap (map plain) (take_map e.count (hidden π) e.values) ∙ values_of π (take e.count e.values) in
    λ i. record { predicate = e.predicate; values = q i }

pub given_of : (π : ℕ → ℕ) (e : Event) → given (disguised π e) ≡ map (disguised_given π) (given e)
unfolding given disguised
given_of π e = take_map e.count (disguised_given π) e.facts

pub facts_of_law : (π : ℕ → ℕ) (e : Event) → facts_of (disguised π e) ≡ map (disguised_fact π) (facts_of e)
unfolding facts_of
facts_of_law π e = rw (given_of π e) (go (given e))
  where
    go : (fs : List Given) → map fact_of (map (disguised_given π) fs) ≡ map (disguised_fact π) (map fact_of fs)
    go [] = refl
    go (f ∷ fs) = ap₂ (λ (x : Fact) (l : List Fact). x ∷ l) (fact_of_law π f) (go fs)

agree_same : (π : ℕ → ℕ) (e : Given) (rs : List Row) → all_agree (disguised_given π e) rs ≡ all_agree e rs
unfolding all_agree agrees disguised_given
agree_same π e [] = refl
agree_same π e (truth ∷ rs) = agree_same π e rs
agree_same π e (atom p gs ∷ rs) = rw (agree_same π e rs)
agree_same π e (both l r ∷ rs) = agree_same π e rs
agree_same π e (neg r ∷ rs) = agree_same π e rs
agree_same π e (since l r ∷ rs) = agree_same π e rs
agree_same π e (previous r ∷ rs) = agree_same π e rs
agree_same π e (exists x r ∷ rs) = agree_same π e rs

right_same : (π : ℕ → ℕ) (fs : List Given) (rs : List Row) → all_right rs (map (disguised_given π) fs) ≡ all_right rs fs
unfolding all_right fact_right
right_same π [] rs = refl
right_same π (f ∷ fs) rs = rw (agree_same π f rs, right_same π fs rs) (unfold disguised_given in refl)

count_same : (π : ℕ → ℕ) (e : Event) (rs : List Row) → count_right rs (disguised π e) ≡ count_right rs e
unfolding count_right
count_same π e rs = rw (given_of π e, right_same π (given e) rs) (unfold disguised in refl)

-- what is shown, renamed, is laid out alike
pub lay_same : (π : ℕ → ℕ) (k : ℕ) (s : Shown) → lay_state k (renamed π s) ≡ lay_state k s
unfolding lay_state renamed renamed_lists kept_table
lay_same π k s = rw (length-map (s.lists 0) π, length-map (s.lists 1) π, length-map (s.lists 2) π, length-map (s.lists 3) π)

pub nodes_same : (π : ℕ → ℕ) (C : ℕ) (s : Shown) → lay_nodes C (renamed π s) ≡ lay_nodes C s
unfolding lay_nodes renamed kept_table
nodes_same π C s = refl

lay_length : (k : ℕ) (L : Lists) → ((v : ℕ) → v < 4 → length (L v) ≤ most k) → length (lay_values k L) ≡ 4 * most k
unfolding lay_values
lay_length k L h =
    rw (
      length-append,
      length-append,
      length-append,
      padded_length (most k) (L 0) (h 0 (omega arith)),
      padded_length (most k) (L 1) (h 1 (omega arith)),
      padded_length (most k) (L 2) (h 2 (omega arith)),
      padded_length (most k) (L 3) (h 3 (omega arith)),
    ) (omega arith)

cleared_length : (C : ℕ) (v w : List ℕ) → length v ≡ length w → length (cleared C v) ≡ length (cleared C w)
unfolding cleared
cleared_length C v w e = rw (length-append, length-append, length-drop, length-drop, e)

-- an element of a renamed list
renamed_at : (π : ℕ → ℕ) (xs : List ℕ) (i : ℕ) → i < length xs → get_or (map π xs) i 0 ≡ π (get_or xs i 0)
renamed_at π [] i h = absurd (omega arith)
renamed_at π (x ∷ xs) zero h = refl
renamed_at π (x ∷ xs) (suc i) h = renamed_at π xs i (omega arith)

every_at : (U : ℕ → Type 0) (xs : List ℕ) → Every U xs → (i : ℕ) → i < length xs → U (get_or xs i 0)
every_at U [] u i h = absurd (omega arith)
every_at U (x ∷ xs) u zero h = u.0
every_at U (x ∷ xs) u (suc i) h = every_at U xs u.1 i (omega arith)

-- equal parts are judged alike
lengths_same : (rows : List ℕ) (k k' : ℕ) (nodes nodes' values values' work work' : List ℕ) → k' ≡ k → nodes' ≡ nodes → length values' ≡ length values → length work' ≡ length work
    → judge_start (k_right k') (check_rows rows) (nodes_right nodes' && (values_right k' values' && leb (work_size (capacity nodes')) (length work')))
    ≡ judge_start (k_right k) (check_rows rows) (nodes_right nodes && (values_right k values && leb (work_size (capacity nodes)) (length work)))
unfolding values_right
lengths_same rows k k' nodes nodes' values values' work work' a b c d = rw (a, b, c, d)

judge_same : (d d' : Decision) (f f' c c' : Bool) (v v' : ℕ) (r r' : Bool) → d' ≡ d → f' ≡ f → c' ≡ c → v' ≡ v → r' ≡ r
    → judge_event d' f' c' (ltb v' 4) v' r' ≡ judge_event d f c (ltb v 4) v r
judge_same d d' f f' c c' v v' r r' p q s t u = rw (p, q, s, t, u)

module _ (π : ℕ → ℕ) (U : ℕ → Type 0) (inj : (x y : ℕ) → U x → U y → π x ≡ π y → x ≡ y) where
  distinct_ren : (xs : List ℕ) → Every U xs → Distinct xs → Distinct (map π xs)
  distinct_ren xs u d i j hi hj e =
      let p : i < length xs = rw length-map at hi in
      let q : j < length xs = rw length-map at hj in
      d i j p q (inj (get_or xs i 0) (get_or xs j 0) (every_at U xs u i p) (every_at U xs u j q) (sym (renamed_at π xs i p) ∙ e ∙ renamed_at π xs j q))

  proper_ren : (k C : ℕ) (rule : List Row) (s : Shown) → EveryList U s.lists → Proper k C rule s → Proper k C rule (renamed π s)
  unfolding renamed renamed_lists kept_table
  proper_ren k C rule s u p = record {
    enough = λ v h. rw (length-map (s.lists v) π) (p.enough v h);
    distinct = λ v. distinct_ren (s.lists v) (u v) (p.distinct v);
    beyond = λ v h. rw (p.beyond v h);
    count = p.count;
    fine = p.fine;
    free = p.free;
    room = p.room;
  }

  module _ (rows : List ℕ) (k C : ℕ) (kr : k_right k ≡ true) (cr : check_rows rows ≡ right) (keeps : KeepsRows π U (rule_of rows)) where
    -- two machines that show the same but for the disguise
    pub record Twins (m n : Machine) : Type 0 where
      pub s : Shown
      pub laid : Laid rows k C kr cr m s
      pub twin : Laid rows k C kr cr n (renamed π s)
      pub work : length n.work ≡ length m.work
      pub uses : EveryList U s.lists

    module _ (m n : Machine) (t : Twins m n) (e : Event) (ue : EveryFact U (facts_of e)) where
      state_same : n.state ≡ m.state
      state_same = t.twin.state_is ∙ lay_same π k t.s ∙ sym t.laid.state_is

      nodes_are : n.nodes ≡ m.nodes
      nodes_are = t.twin.nodes_are ∙ nodes_same π C t.s ∙ sym t.laid.nodes_are

      enough_lists : (v : ℕ) → v < 4 → length (t.s.lists v) ≤ most k
      unfolding most
      enough_lists v h = t.laid.proper.enough v h

      values_length : length n.values ≡ length m.values
      unfolding renamed renamed_lists
      values_length =
          ap length t.twin.values_are ∙ lay_length k (renamed π t.s).lists (λ v h. rw (length-map (t.s.lists v) π) (enough_lists v h))
          ∙ sym (ap length t.laid.values_are ∙ lay_length k t.s.lists enough_lists)

      shows_n : shows rows n ≡ renamed π t.s
      shows_n = shows_is rows k C kr cr n (renamed π t.s) t.twin

      shows_m : shows rows m ≡ t.s
      shows_m = shows_is rows k C kr cr m t.s t.laid

      after_n : step n.state.k (rule_of rows) (shows rows n) (facts_of (disguised π e)) ≡ renamed π (step k (rule_of rows) t.s (facts_of e))
      after_n = rw (shows_n, k_is rows k C kr cr n (renamed π t.s) t.twin, facts_of_law π e) (step_ren π U inj k (rule_of rows) t.s (facts_of e) t.uses ue keeps)

      after_m : step m.state.k (rule_of rows) (shows rows m) (facts_of e) ≡ step k (rule_of rows) t.s (facts_of e)
      after_m = rw (shows_m, k_is rows k C kr cr m t.s t.laid)

      short_same : shortest n.state.k (rule_of rows) (shows rows n) (facts_of (disguised π e)) ≡ shortest m.state.k (rule_of rows) (shows rows m) (facts_of e)
      unfolding shortest renamed
      short_same =
          rw (
            shows_n,
            shows_m,
            k_is rows k C kr cr n (renamed π t.s) t.twin,
            k_is rows k C kr cr m t.s t.laid,
            facts_of_law π e,
            ask_facts_ren π U inj (facts_of e) (rule_of rows) t.s.lists t.uses ue keeps,
          )
          (ap (first_below 4) (fun_ext (λ v. ap (ltb (most k)) (unfold renamed_lists in length-map (ask_facts (facts_of e) t.s.lists (rule_of rows) v) π))))

      after_uses : EveryList U (step k (rule_of rows) t.s (facts_of e)).lists
      unfolding step
      after_uses = ask_facts_every U (facts_of e) (rule_of rows) t.s.lists ue t.uses

      room_same : room_of n.state.k (rule_of rows) (shows rows n) (facts_of (disguised π e)) (step n.state.k (rule_of rows) (shows rows n) (facts_of (disguised π e)))
          ≡ room_of m.state.k (rule_of rows) (shows rows m) (facts_of e) (step m.state.k (rule_of rows) (shows rows m) (facts_of e))
      room_same =
          rw (after_n, after_m, shows_n, shows_m, k_is rows k C kr cr n (renamed π t.s) t.twin, k_is rows k C kr cr m t.s t.laid, facts_of_law π e)
          (room_ren π U inj k (rule_of rows) t.s (facts_of e) (step k (rule_of rows) t.s (facts_of e)) after_uses ue keeps)

      -- both events are decided alike
      pub decide_same : decide_event rows n (disguised π e) ≡ decide_event rows m e
      unfolding decide_event
      decide_same =
          judge_same _ _ _ _ _ _ _ _ _ _
          (lengths_same rows m.state.k n.state.k m.nodes n.nodes m.values n.values m.work n.work (ap (λ (x : State). x.k) state_same) nodes_are values_length t.work)
          (formed_is rows k C kr cr n (renamed π t.s) t.twin ∙ sym (formed_is rows k C kr cr m t.s t.laid))
          (count_same π e (rule_of rows)) short_same (ap₂ leb room_same (ap capacity nodes_are))

      verdicts_same : verdict_of n.state.k (rule_of rows) (shows rows n) (facts_of (disguised π e)) (step n.state.k (rule_of rows) (shows rows n) (facts_of (disguised π e)))
          ≡ verdict_of m.state.k (rule_of rows) (shows rows m) (facts_of e) (step m.state.k (rule_of rows) (shows rows m) (facts_of e))
      unfolding verdict_of
      verdicts_same = rw (room_same, after_n, after_m) (unfold renamed kept_table in refl)

      -- and answered alike
      pub answer_same : (event_outcome rows n (disguised π e)).answer ≡ (event_outcome rows m e).answer
      unfolding event_outcome settle_event
      answer_same = rw decide_same (go (decide_event rows m e))
        where
          go : (d : Decision) → (settle_event d rows n (disguised π e)).answer ≡ (settle_event d rows m e).answer
          go taken = verdicts_same
          go (refused j q) = refl

      work_same : length (event_outcome rows n (disguised π e)).left.work ≡ length (event_outcome rows m e).left.work
      unfolding event_outcome settle_event
      work_same = rw decide_same (go (decide_event rows m e))
        where
          pick : (b : Bool) → length (cond b (cleared (capacity m.nodes) n.work) n.work) ≡ length (cond b (cleared (capacity m.nodes) m.work) m.work)
          pick true = cleared_length (capacity m.nodes) n.work m.work t.work
          pick false = t.work

          go : (d : Decision) → length (settle_event d rows n (disguised π e)).left.work ≡ length (settle_event d rows m e).left.work
          go taken = ap (λ (c : ℕ). length (cleared c n.work)) (ap capacity nodes_are) ∙ cleared_length (capacity m.nodes) n.work m.work t.work
          go (refused j q) = ap (λ (c : ℕ). length (cond (leb 4 j) (cleared c n.work) n.work)) (ap capacity nodes_are) ∙ pick (leb 4 j)

      -- and they stay twins
      pub twins_turn : Twins (event_outcome rows m e).left (event_outcome rows n (disguised π e)).left
      twins_turn = go (decide_event rows m e) refl
        where
          go : (d : Decision) → decide_event rows m e ≡ d → Twins (event_outcome rows m e).left (event_outcome rows n (disguised π e)).left
          go taken q = record {
            s = step k (rule_of rows) t.s (facts_of e);
            laid = laid_on rows k C kr cr m t.s t.laid e q;
            twin =
                rw (facts_of_law π e, step_ren π U inj k (rule_of rows) t.s (facts_of e) t.uses ue keeps) at
                (laid_on rows k C kr cr n (renamed π t.s) t.twin (disguised π e) (decide_same ∙ q));
            work = work_same;
            uses = after_uses;
          }
          go (refused j p) q = record {
            s = t.s;
            laid = laid_stays rows k C kr cr m t.s t.laid e j p q;
            twin = laid_stays rows k C kr cr n (renamed π t.s) t.twin (disguised π e) j p (decide_same ∙ q);
            work = work_same;
            uses = t.uses;
          }

    -- whole runs
    pub twins_answers : (es : List Event) (m n : Machine) → Twins m n → EveryEvent U es → answers rows n (map (disguised π) es) ≡ answers rows m es
    unfolding answers
    twins_answers [] m n t u = refl
    twins_answers (e ∷ es) m n t u =
        ap₂ (λ (a : Answer) (l : List Answer). a ∷ l) (answer_same m n t e u.0)
        (twins_answers es (event_outcome rows m e).left (event_outcome rows n (disguised π e)).left (twins_turn m n t e u.0) u.1)

    pub twins_runs : (es : List Event) (m n : Machine) → Twins m n → EveryEvent U es → Twins (runs rows m es) (runs rows n (map (disguised π) es))
    unfolding runs
    twins_runs [] m n t u = t
    twins_runs (e ∷ es) m n t u =
        twins_runs es (event_outcome rows m e).left (event_outcome rows n (disguised π e)).left (twins_turn m n t e u.0) u.1

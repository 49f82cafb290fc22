-- One call, by nothing but what it promises: what it answers and leaves. Assumes nothing.
use Prim.Native.Nat.{ℕ, ◌+◌, ◌≤◌}
use mathlib.Core.Path.{◌≡◌, refl, ap, sym, subst, ◌∙◌}
use mathlib.Core.Bool.{Bool, cond}
use mathlib.Core.List.{List}
use mathlib.Core.Logic.{◌↔◌, ◌⊎◌, inl, inr, ⊎_elim}
use native.Mathlib.Omega.{arith}
use lib.Dec.{leb}
use lib.ListN.{length, replicate}
use Rattle.meaning.specs.declared.Event.{Event}
use Rattle.meaning.specs.declared.Answer.TheVariants.{Started, Verdict, Refused}
use Rattle.meaning.specs.declared.Turn.{Turn}
use Rattle.meaning.specs.Rows.{count_of_rows}
use Rattle.meaning.specs.Outcome.{capacity, work_size, cleared, SameEvent, Decision, taken, refused, state_of, decide_start, settle_start, start_outcome, Machine, Arrays, WellFormed, enlarged, decide_event, verdict_of, settle_event, EventOutcome, event_outcome}
use Rattle.meaning.specs.Refusals.{StartSentence, Sentence, First}
use Rattle.meaning.specs.Verdicts.{Stepped}
use Rattle.meaning.proofs.Demands
use Rattle.monitor.specs.Calls.{IsVerdict, IsRefusal, Starts, machine, Happens}
use Rattle.demands.proofs.RunLaws.{start_answer, start_refused, event_answer, event_refused}

-- a start answers by what was decided
module _ (k : ℕ) (rows nodes values : List ℕ) where
  started_taken : (start_outcome k rows nodes values).answer ≡ Started → decide_start k rows nodes values ≡ taken
  unfolding start_outcome settle_start
  started_taken q = go (decide_start k rows nodes values) q
    where
      go : (d : Decision) → (settle_start d k (count_of_rows rows) nodes values).answer ≡ Started → d ≡ taken
      go taken z = refl
      go (refused n p) z = let x : ◌≡◌ {A = ℕ} 0 1 = cc in absurd (omega arith)

  taken_started : decide_start k rows nodes values ≡ taken
      → ((start_outcome k rows nodes values).answer ≡ Started) × ((start_outcome k rows nodes values).state ≡ state_of k (count_of_rows rows))
      × ((start_outcome k rows nodes values).nodes ≡ replicate (length nodes) 0) × ((start_outcome k rows nodes values).values ≡ replicate (length values) 0)
  unfolding start_outcome settle_start
  taken_started d = rw d (refl, refl, refl, refl)

  either_start : ((start_outcome k rows nodes values).answer ≡ Started) ⊎ IsRefusal (start_outcome k rows nodes values).answer
  unfolding start_outcome settle_start
  either_start = go (decide_start k rows nodes values)
    where
      go : (d : Decision) → ((settle_start d k (count_of_rows rows) nodes values).answer ≡ Started) ⊎ IsRefusal (settle_start d k (count_of_rows rows) nodes values).answer
      go taken = inl refl
      go (refused n p) = inr (n, p, refl)

  module _ (t : Turn) (ns vs : List ℕ) (s : Starts k rows nodes values t ns vs) where
    pub starts_refuses : (n p : ℕ) → (t.answer ≡ Refused n p) ↔ First (StartSentence k rows nodes values) n p
    starts_refuses n p =
        let d = Demands.start_refuses k rows nodes values n p in
        (λ q. d.0 (start_answer k rows nodes values n p (sym s.answer ∙ q)), λ q. s.answer ∙ (start_refused k rows nodes values n p (d.1 q)).0)

    pub starts_keeps : (n p : ℕ) → t.answer ≡ Refused n p → (t.state ≡ state_of 0 0) × (ns ≡ nodes) × (vs ≡ values)
    starts_keeps n p q =
        let r = start_refused k rows nodes values n p (start_answer k rows nodes values n p (sym s.answer ∙ q)) in
        (s.state ∙ r.1, s.nodes_are ∙ r.2, s.values_are ∙ r.3)

    pub starts_takes : (t.answer ≡ Started) ↔ ((n p : ℕ) → StartSentence k rows nodes values n p → ⊥)
    starts_takes =
        let d = Demands.start_taken k rows nodes values in
        (λ q. d.0 (started_taken (sym s.answer ∙ q)), λ q. s.answer ∙ (taken_started (d.1 q)).0)

    pub starts_leaves : t.answer ≡ Started → (t.state ≡ state_of k (count_of_rows rows)) × (ns ≡ replicate (length nodes) 0) × (vs ≡ replicate (length values) 0)
    starts_leaves q =
        let r = taken_started (started_taken (sym s.answer ∙ q)) in
        (s.state ∙ r.1, s.nodes_are ∙ r.2, s.values_are ∙ r.3)

    pub starts_answers : (t.answer ≡ Started) ⊎ IsRefusal t.answer
    starts_answers = ⊎_elim (λ q. inl (s.answer ∙ q)) (λ q. inr (q.0, q.1, s.answer ∙ q.2)) either_start

-- and so does an event
module _ (rows : List ℕ) (m : Machine) (e : Event) where
  pub verdict_taken : (y : Bool) (n r : ℕ) → (event_outcome rows m e).answer ≡ Verdict y n r → decide_event rows m e ≡ taken
  unfolding event_outcome settle_event
  verdict_taken y n r q = go (decide_event rows m e) q
    where
      go : (d : Decision) → (settle_event d rows m e).answer ≡ Verdict y n r → d ≡ taken
      go taken z = refl
      go (refused i o) z = let x : ◌≡◌ {A = ℕ} 0 1 = cc in absurd (omega arith)

  taken_verdict : decide_event rows m e ≡ taken → IsVerdict (event_outcome rows m e).answer
  unfolding event_outcome settle_event verdict_of
  taken_verdict d = rw d (_, _, _, refl)

  either_event : IsVerdict (event_outcome rows m e).answer ⊎ IsRefusal (event_outcome rows m e).answer
  either_event = go (decide_event rows m e) refl
    where
      go : (d : Decision) → decide_event rows m e ≡ d → IsVerdict (event_outcome rows m e).answer ⊎ IsRefusal (event_outcome rows m e).answer
      go taken q = inl (taken_verdict q)
      go (refused n p) q = inr (n, p, (event_refused rows m e n p q).0)

  module _ (t : Turn) (ns vs ws : List ℕ) (h : Happens rows m e t ns vs ws) where
    pub happens_refuses : (n p : ℕ) → (t.answer ≡ Refused n p) ↔ First (Sentence rows m e) n p
    happens_refuses n p =
        let d = Demands.event_refuses rows m e n p in
        (λ q. d.0 (event_answer rows m e n p (sym h.answer ∙ q)), λ q. h.answer ∙ (event_refused rows m e n p (d.1 q)).0)

    pub happens_keeps : (n p : ℕ) → t.answer ≡ Refused n p
        → (t.state ≡ m.state) × (ns ≡ m.nodes) × (vs ≡ m.values) × (ws ≡ cond (leb 4 n) (cleared (capacity m.nodes) m.work) m.work)
    happens_keeps n p q =
        let r = event_refused rows m e n p (event_answer rows m e n p (sym h.answer ∙ q)) in
        (h.state ∙ r.1, h.nodes_are ∙ r.2, h.values_are ∙ r.3, h.work_is ∙ r.4)

    pub happens_takes : IsVerdict t.answer ↔ ((n p : ℕ) → Sentence rows m e n p → ⊥)
    happens_takes =
        let d = Demands.event_taken rows m e in (
          λ q. d.0 (verdict_taken q.0 q.1 q.2 (sym h.answer ∙ q.3)),
          λ q. let v = taken_verdict (d.1 q) in (v.0, v.1, v.2, h.answer ∙ v.3),
        )

    pub happens_answers : IsVerdict t.answer ⊎ IsRefusal t.answer
    happens_answers = ⊎_elim (λ v. inl (v.0, v.1, v.2, h.answer ∙ v.3)) (λ v. inr (v.0, v.1, h.answer ∙ v.2)) either_event

    left_is : (event_outcome rows m e).left ≡ machine t.state ns vs ws
    left_is = λ i. record { state = sym h.state i; nodes = sym h.nodes_are i; values = sym h.values_are i; work = sym h.work_is i }

    pub happens_steps : Arrays m → (y : Bool) (n r : ℕ) → t.answer ≡ Verdict y n r → Stepped rows m e y n r (machine t.state ns vs ws)
    happens_steps a y n r q = subst (λ (x : Machine). Stepped rows m e y n r x) left_is (Demands.any_state rows m e a y n r (sym h.answer ∙ q))

    -- an event that differs past its count happens alike
    pub happens_alike : (f : Event) → SameEvent e f → Happens rows m f t ns vs ws
    happens_alike f s =
        let o = sym (Demands.past_the_count rows m e f s) in
        record {
          answer = h.answer ∙ ap (λ (x : EventOutcome). x.answer) o;
          state = h.state ∙ ap (λ (x : EventOutcome). x.left.state) o;
          nodes_are = h.nodes_are ∙ ap (λ (x : EventOutcome). x.left.nodes) o;
          values_are = h.values_are ∙ ap (λ (x : EventOutcome). x.left.values) o;
          work_is = h.work_is ∙ ap (λ (x : EventOutcome). x.left.work) o;
        }

    -- with a larger table the answer is the same, but where there was no room
    pub happens_larger : WellFormed rows m → (d : ℕ) (work : List ℕ) → capacity m.nodes + d ≤ 4096 → work_size (capacity m.nodes + d) ≤ length work
        → (u : Turn) (ns' vs' ws' : List ℕ) → Happens rows (enlarged d work m) e u ns' vs' ws' → (t.answer ≡ Refused 7 0) ⊎ (u.answer ≡ t.answer)
    happens_larger w d work most long u ns' vs' ws' g = ⊎_elim
        (λ q. inl (h.answer ∙ q))
        (λ q. inr (g.answer ∙ q ∙ sym h.answer))
        (Demands.larger_answers rows m w d work most long e)

-- The numbers of an answer tell it: two starts whose answers are written alike answered alike, and so did two events. Assumes nothing.
use Prim.Native.Nat.{ℕ, ◌<◌}
use mathlib.Core.Path.{◌≡◌, refl, ap}
use mathlib.Core.Bool.{Bool, true, false}
use mathlib.Core.List.{List}
use native.Mathlib.Omega.{arith}
use lib.ListN.{get_or, replicate}
use Rattle.meaning.specs.declared.Answer.{Answer}
use Rattle.meaning.specs.declared.Answer.TheVariants.{Started, Verdict, Refused}
use Rattle.meaning.specs.declared.Event.{Event}
use Rattle.meaning.specs.Rows.{Found, right, fault}
use Rattle.meaning.specs.Outcome.{Decision, taken, refused, Machine, judge_start, judge_event, settle_start, decide_start, start_outcome, verdict_of, settle_event, decide_event, event_outcome}
use Rattle.linked.specs.Packing.{bit, first_six, packed_answer}

-- a decision that refuses does so with a number other than 0
data Told : Decision → Type 0 where
  told_taken : Told taken
  told_refused : (n p : ℕ) → 0 < n → Told (refused n p)

-- what a start can answer
data OfStart : Answer → Type 0 where
  started : OfStart Started
  start_refused : {n p : ℕ} → 0 < n → OfStart (Refused n p)

-- what an event can answer
data OfEvent : Answer → Type 0 where
  verdict : {y : Bool} {kept room : ℕ} → OfEvent (Verdict y kept room)
  event_refused : {n p : ℕ} → 0 < n → OfEvent (Refused n p)

first_tells : (b : Bool) (f : Found) (c : Bool) → Told (judge_start b f c)
unfolding judge_start
first_tells false f c = told_refused 1 0 (omega arith)
first_tells true (fault p) c = told_refused 2 p (omega arith)
first_tells true right false = told_refused 3 0 (omega arith)
first_tells true right true = told_taken

then_tells : (d : Decision) (a b c : Bool) (v : ℕ) (e : Bool) → Told d → Told (judge_event d a b c v e)
unfolding judge_event
then_tells (refused n p) a b c v e t = t
then_tells taken false b c v e t = told_refused 4 0 (omega arith)
then_tells taken true false c v e t = told_refused 5 0 (omega arith)
then_tells taken true true true v e t = told_refused 6 v (omega arith)
then_tells taken true true false v false t = told_refused 7 0 (omega arith)
then_tells taken true true false v true t = told_taken

start_settles : (d : Decision) (k n : ℕ) (nodes values : List ℕ) → Told d → OfStart (settle_start d k n nodes values).answer
unfolding settle_start
start_settles _ k n nodes values told_taken = started
start_settles _ k n nodes values (told_refused m p h) = start_refused h

event_settles : (d : Decision) (rows : List ℕ) (m : Machine) (e : Event) → Told d → OfEvent (settle_event d rows m e).answer
unfolding settle_event verdict_of
event_settles _ rows m e told_taken = verdict
event_settles _ rows m e (told_refused n p h) = event_refused h

of_start : (k : ℕ) (rows nodes values : List ℕ) → OfStart (start_outcome k rows nodes values).answer
unfolding start_outcome decide_start
of_start k rows nodes values = start_settles _ _ _ _ _ (first_tells _ _ _)

of_event : (rows : List ℕ) (m : Machine) (e : Event) → OfEvent (event_outcome rows m e).answer
unfolding event_outcome decide_event
of_event rows m e = event_settles _ _ _ _ (then_tells _ _ _ _ _ _ (first_tells _ _ _))

bits_tell : (y z : Bool) → bit y ≡ bit z → y ≡ z
unfolding bit
bits_tell false false e = refl
bits_tell true true e = refl
bits_tell false true e = absurd (omega arith)
bits_tell true false e = absurd (omega arith)

starts_tell : (a b : Answer) → OfStart a → OfStart b → (c v c' v' : ℕ) (ns ns' : List ℕ) → packed_answer a c v ns ≡ packed_answer b c' v' ns' → a ≡ b
unfolding packed_answer first_six
starts_tell Started Started started started c v c' v' ns ns' e = refl
starts_tell Started (Refused n p) started (start_refused h) c v c' v' ns ns' e = absurd (omega (arith, ap (λ (l : List ℕ). get_or l 0 0) e))
starts_tell (Refused n p) Started (start_refused h) started c v c' v' ns ns' e = absurd (omega (arith, ap (λ (l : List ℕ). get_or l 0 0) e))
starts_tell (Refused n p) (Refused m q) (start_refused h) (start_refused g) c v c' v' ns ns' e = cc e
starts_tell Started (Verdict _ _ _) _ x c v c' v' ns ns' e = elim x [ ]
starts_tell (Verdict _ _ _) b x _ c v c' v' ns ns' e = elim x [ ]
starts_tell (Refused n p) (Verdict _ _ _) _ x c v c' v' ns ns' e = elim x [ ]

events_tell : (a b : Answer) → OfEvent a → OfEvent b → (c v c' v' : ℕ) (ns ns' : List ℕ) → packed_answer a c v ns ≡ packed_answer b c' v' ns' → a ≡ b
unfolding packed_answer first_six
events_tell (Verdict y j r) (Verdict z k s) verdict verdict c v c' v' ns ns' e =
    let p : y ≡ z = bits_tell y z (ap (λ (l : List ℕ). get_or l 1 0) e) in
    let q : j ≡ k = ap (λ (l : List ℕ). get_or l 2 0) e in
    let t : r ≡ s = ap (λ (l : List ℕ). get_or l 3 0) e in
    cc
events_tell (Verdict y j r) (Refused n p) verdict (event_refused h) c v c' v' ns ns' e = absurd (omega (arith, ap (λ (l : List ℕ). get_or l 0 0) e))
events_tell (Refused n p) (Verdict z k s) (event_refused h) verdict c v c' v' ns ns' e = absurd (omega (arith, ap (λ (l : List ℕ). get_or l 0 0) e))
events_tell (Refused n p) (Refused m q) (event_refused h) (event_refused g) c v c' v' ns ns' e = cc e
events_tell Started b x _ c v c' v' ns ns' e = elim x [ ]
events_tell (Verdict y j r) Started _ x c v c' v' ns ns' e = elim x [ ]
events_tell (Refused n p) Started _ x c v c' v' ns ns' e = elim x [ ]

-- two starts whose answers are written alike answered alike
pub one_start_answer : (k j : ℕ) (rows nodes values rows' nodes' values' : List ℕ)
    → packed_answer (start_outcome k rows nodes values).answer 0 0 (replicate 4 0) ≡ packed_answer (start_outcome j rows' nodes' values').answer 0 0 (replicate 4 0)
    → (start_outcome k rows nodes values).answer ≡ (start_outcome j rows' nodes' values').answer
one_start_answer k j rows nodes values rows' nodes' values' e = starts_tell _ _ (of_start k rows nodes values) (of_start j rows' nodes' values') 0 0 0 0 (replicate 4 0) (replicate 4 0) e

-- two events whose answers are written alike were answered alike
pub one_event_answer : (rows rows' : List ℕ) (m m' : Machine) (e e' : Event) (c v c' v' : ℕ) (ns ns' : List ℕ)
    → packed_answer (event_outcome rows m e).answer c v ns ≡ packed_answer (event_outcome rows' m' e').answer c' v' ns'
    → (event_outcome rows m e).answer ≡ (event_outcome rows' m' e').answer
one_event_answer rows rows' m m' e e' c v c' v' ns ns' h = events_tell _ _ (of_event rows m e) (of_event rows' m' e') c v c' v' ns ns' h

-- What calls promise is what the definitions give: of a start, of an event, and of a run of them. Assumes nothing.
use Prim.Native.Nat.{ℕ}
use mathlib.Core.Path.{◌≡◌, refl, ap, ap₂, sym, ◌∙◌}
use mathlib.Core.Bool.{cond}
use mathlib.Core.List.{List, [], ◌∷◌}
use native.Mathlib.Omega.{arith}
use lib.Dec.{leb}
use Rattle.meaning.specs.declared.Event.{Event}
use Rattle.meaning.specs.declared.Answer.{Answer}
use Rattle.meaning.specs.declared.Answer.TheVariants.{Started, Refused}
use Rattle.meaning.specs.Rows.{count_of_rows}
use Rattle.meaning.specs.Outcome.{capacity, cleared, Decision, taken, refused, state_of, settle_start, decide_start, start_outcome, Machine, machine_of, verdict_of, decide_event, settle_event, event_outcome, runs, answers, with_taken, taken_of}
use Rattle.monitor.specs.Runs.{Fresh, Call, Calls, taken_in}

-- one answer is no other
refusal_is : (n p m q : ℕ) → Refused n p ≡ Refused m q → refused n p ≡ refused m q
refusal_is n p m q e = let a : n ≡ m = cc in let b : p ≡ q = cc in ap₂ refused a b

-- a start is refused exactly where it is decided so
pub start_answer : (k : ℕ) (rows nodes values : List ℕ) (n p : ℕ) → (start_outcome k rows nodes values).answer ≡ Refused n p → decide_start k rows nodes values ≡ refused n p
unfolding start_outcome settle_start
start_answer k rows nodes values n p q = go (decide_start k rows nodes values) q
  where
    go : (d : Decision) → (settle_start d k (count_of_rows rows) nodes values).answer ≡ Refused n p → d ≡ refused n p
    go taken z = let x : ◌≡◌ {A = ℕ} 0 1 = cc in absurd (omega arith)
    go (refused m o) z = refusal_is m o n p z

pub start_refused : (k : ℕ) (rows nodes values : List ℕ) (n p : ℕ) → decide_start k rows nodes values ≡ refused n p
    → ((start_outcome k rows nodes values).answer ≡ Refused n p) × ((start_outcome k rows nodes values).state ≡ state_of 0 0) × ((start_outcome k rows nodes values).nodes ≡ nodes) × ((start_outcome k rows nodes values).values ≡ values)
unfolding start_outcome settle_start
start_refused k rows nodes values n p d = rw d (refl, refl, refl, refl)

-- and so is an event
pub event_answer : (rows : List ℕ) (m : Machine) (e : Event) (n p : ℕ) → (event_outcome rows m e).answer ≡ Refused n p → decide_event rows m e ≡ refused n p
unfolding event_outcome settle_event verdict_of
event_answer rows m e n p q = go (decide_event rows m e) q
  where
    go : (d : Decision) → (settle_event d rows m e).answer ≡ Refused n p → d ≡ refused n p
    go taken z = let x : ◌≡◌ {A = ℕ} 0 1 = cc in absurd (omega arith)
    go (refused i o) z = refusal_is i o n p z

pub event_refused : (rows : List ℕ) (m : Machine) (e : Event) (n p : ℕ) → decide_event rows m e ≡ refused n p
    → ((event_outcome rows m e).answer ≡ Refused n p) × ((event_outcome rows m e).left.state ≡ m.state) × ((event_outcome rows m e).left.nodes ≡ m.nodes) × ((event_outcome rows m e).left.values ≡ m.values)
    × ((event_outcome rows m e).left.work ≡ cond (leb 4 n) (cleared (capacity m.nodes) m.work) m.work)
unfolding event_outcome settle_event
event_refused rows m e n p d = rw d (refl, refl, refl, refl, refl)

-- what a fresh start left is the machine of the definitions
pub fresh_started : (k : ℕ) (rows nodes values : List ℕ) (m : Machine) → Fresh k rows nodes values m → (start_outcome k rows nodes values).answer ≡ Started
fresh_started k rows nodes values m f = sym f.answer

pub fresh_is : (k : ℕ) (rows nodes values : List ℕ) (m : Machine) → Fresh k rows nodes values m → m ≡ machine_of (start_outcome k rows nodes values) m.work
unfolding machine_of
fresh_is k rows nodes values m f = λ i. record { state = f.state i; nodes = f.nodes_are i; values = f.values_are i; work = m.work }

-- what a call left and answered
pub call_left : (rows : List ℕ) (m n : Machine) (e : Event) (a : Answer) → Call rows m e a n → n ≡ (event_outcome rows m e).left
call_left rows m n e a c = λ i. record { state = c.state i; nodes = c.nodes_are i; values = c.values_are i; work = c.work_is i }

-- what a run of calls left and answered
pub calls_left : (rows : List ℕ) (es : List Event) (xs : List Answer) (m o : Machine) → Calls rows m es xs o → (o ≡ runs rows m es) × (xs ≡ answers rows m es)
unfolding Calls runs answers
calls_left rows [] [] m o c = (c, refl)
calls_left rows [] (a ∷ xs) m o c = absurd c
calls_left rows (e ∷ es) [] m o c = absurd c
calls_left rows (e ∷ es) (a ∷ xs) m o c =
    let l = call_left rows m c.0 e a c.1 in
    let r = calls_left rows es xs c.0 o c.2 in
    (r.0 ∙ ap (λ (x : Machine). runs rows x es) l, ap₂ ◌∷◌ c.1.answer (r.1 ∙ ap (λ (x : Machine). answers rows x es) l))

-- the facts of the events taken
taken_first : (rows : List ℕ) (m : Machine) (e : Event) (es : List Event) (xs : List Answer) (d : Decision) → taken_in (e ∷ es) ((settle_event d rows m e).answer ∷ xs) ≡ with_taken d e (taken_in es xs)
unfolding taken_in settle_event with_taken verdict_of
taken_first rows m e es xs taken = refl
taken_first rows m e es xs (refused n p) = refl

pub taken_are : (rows : List ℕ) (es : List Event) (m : Machine) → taken_in es (answers rows m es) ≡ taken_of rows m es
unfolding taken_in answers taken_of event_outcome
taken_are rows [] m = refl
taken_are rows (e ∷ es) m =
    taken_first rows m e es (answers rows (settle_event (decide_event rows m e) rows m e).left es) (decide_event rows m e)
    ∙ ap (with_taken (decide_event rows m e) e) (taken_are rows es (settle_event (decide_event rows m e) rows m e).left)

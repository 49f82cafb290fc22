-- Laws of the three calls: what makes one, and what it then leaves. Assumes nothing.
use Prim.Native.Nat.{ℕ, ◌%◌}
use mathlib.Core.Path.{◌≡◌, refl, ap, subst, ◌∙◌}
use mathlib.Core.Bool.{true, false}
use mathlib.Core.List.{List}
use lib.ListN.{length, replicate}
use borrow.Author.Tests.{eq-eqb, ne_eqb}
use Rattle.meaning.specs.declared.State.{State}
use Rattle.meaning.specs.declared.Event.{Event}
use Rattle.meaning.specs.declared.Turn.{Turn}
use Rattle.meaning.specs.declared.Answer.{Answer}
use Rattle.monitor.specs.Calls.{Starts, Happens, machine}
use Rattle.numbers.specs.declared.Lookup.{Lookup}
use Rattle.numbers.specs.Looking.{look_up}
use Rattle.monitor.specs.Visits.{Looks}
use Rattle.monitor.specs.Numbered.{Numbers}
use Rattle.monitor.proofs.OneOutcome.{looks_are}
use Rattle.linked.specs.Packing.{packed_state, unpacked_state, packed_answer, packed_lookup}
use Rattle.linked.specs.Happening.{event_of}
use Rattle.linked.specs.Calls.{fits, fits_event, settle_start, start_left, LinkedStart, machine_of, settle_event, event_left, LinkedEvent, fits_lookup, settle_lookup, lookup_left, LinkedLookup}

-- a state of another length
pub other_state : (state answer : List ℕ) → (length state ≡ 135 → ⊥) → fits state answer ≡ false
unfolding fits
other_state state answer h = rw (ne_eqb (length state) 135 h) refl

-- an answer of another length
pub other_answer : (state answer : List ℕ) → length state ≡ 135 → (length answer ≡ 10 → ⊥) → fits state answer ≡ false
unfolding fits
other_answer state answer e h = rw (eq-eqb (length state) 135 e, ne_eqb (length answer) 10 h) refl

-- both lengths are right
pub right_lengths : (state answer : List ℕ) → length state ≡ 135 → length answer ≡ 10 → fits state answer ≡ true
unfolding fits
right_lengths state answer e h = rw (eq-eqb (length state) 135 e, eq-eqb (length answer) 10 h) refl

-- a start that is not made
pub start_not_made : (k : ℕ) (rows nodes values state answer : List ℕ) → fits state answer ≡ false
    → LinkedStart k rows nodes values state answer false nodes values state answer
unfolding start_left settle_start
start_not_made k rows nodes values state answer e = record { called = rw e refl; nodes_are = rw e refl; values_are = rw e refl; state_is = rw e refl; answer_is = rw e refl }

-- a start that is made
pub start_made : (k : ℕ) (rows nodes values state answer : List ℕ) (t : Turn) (ns vs ss as' : List ℕ) → length state ≡ 135 → length answer ≡ 10
    → Starts k rows nodes values t ns vs → ss ≡ packed_state t.state → as' ≡ packed_answer t.answer 0 0 (replicate 4 0)
    → LinkedStart k rows nodes values state answer true ns vs ss as'
unfolding start_left settle_start
start_made k rows nodes values state answer t ns vs ss as' h g o p q =
    let e : fits state answer ≡ true = right_lengths state answer h g in
    record {
      called = rw e refl;
      nodes_are = rw e o.nodes_are;
      values_are = rw e o.values_are;
      state_is = rw e (p ∙ ap packed_state o.state);
      answer_is = rw e (q ∙ ap (λ (a : Answer). packed_answer a 0 0 (replicate 4 0)) o.answer);
    }

-- facts that are no fives
pub other_facts : (facts state answer : List ℕ) → (length facts % 5 ≡ 0 → ⊥) → fits_event facts state answer ≡ false
unfolding fits_event
other_facts facts state answer h = rw (ne_eqb (length facts % 5) 0 h) refl

-- facts of five numbers each leave it to the other lengths
pub whole_facts : (facts state answer : List ℕ) → length facts % 5 ≡ 0 → fits_event facts state answer ≡ fits state answer
unfolding fits_event
whole_facts facts state answer h = rw (eq-eqb (length facts % 5) 0 h) refl

-- an event that is not made
pub event_not_made : (rows nodes values work facts state answer : List ℕ) → fits_event facts state answer ≡ false
    → LinkedEvent rows nodes values work facts state answer false nodes values work state answer
unfolding event_left settle_event
event_not_made rows nodes values work facts state answer h = record {
  called = rw h refl;
  nodes_are = rw h refl;
  values_are = rw h refl;
  work_is = rw h refl;
  state_is = rw h refl;
  answer_is = rw h refl;
}

-- an event that is made on the state and the facts that the numbers are
pub event_made : (rows nodes values work facts state answer : List ℕ) (s : State) (e : Event) (t : Turn) (complements swept : ℕ) (numbered ns vs ws ss as' : List ℕ)
    → length facts % 5 ≡ 0 → length state ≡ 135 → length answer ≡ 10 → s ≡ unpacked_state state → e ≡ event_of facts
    → Happens rows (machine s nodes values work) e t ns vs ws → Looks rows (machine s nodes values work) e t.answer complements swept
    → Numbers rows (machine s nodes values work) e t.answer numbered → ss ≡ packed_state t.state → as' ≡ packed_answer t.answer complements swept numbered
    → LinkedEvent rows nodes values work facts state answer true ns vs ws ss as'
unfolding event_left settle_event machine_of
event_made rows nodes values work facts state answer s e t complements swept numbered ns vs ws ss as' w h g u d o l b p q =
    let f : fits_event facts state answer ≡ true = whole_facts facts state answer w ∙ right_lengths state answer h g in
    let m : Happens rows (machine (unpacked_state state) nodes values work) (event_of facts) t ns vs ws =
    subst (λ (y : Event). Happens rows (machine (unpacked_state state) nodes values work) y t ns vs ws) d (subst (λ (x : State). Happens rows (machine x nodes values work) e t ns vs ws) u o) in
    let v : Looks rows (machine (unpacked_state state) nodes values work) (event_of facts) t.answer complements swept =
    subst (λ (y : Event). Looks rows (machine (unpacked_state state) nodes values work) y t.answer complements swept) d (subst (λ (x : State). Looks rows (machine x nodes values work) e t.answer complements swept) u l) in
    let k = looks_are rows (machine (unpacked_state state) nodes values work) (event_of facts) t.answer complements swept v in
    let n : Numbers rows (machine (unpacked_state state) nodes values work) (event_of facts) t.answer numbered =
    subst (λ (y : Event). Numbers rows (machine (unpacked_state state) nodes values work) y t.answer numbered) d (subst (λ (x : State). Numbers rows (machine x nodes values work) e t.answer numbered) u b) in
    record {
      called = rw f refl;
      nodes_are = rw f m.nodes_are;
      values_are = rw f m.values_are;
      work_is = rw f m.work_is;
      state_is = rw f (p ∙ ap packed_state m.state);
      answer_is = rw f (q ∙ rw (k.0, k.1, n.tells, m.answer) refl);
    }

-- a lookup that is not made: the state or the answer has another length
pub lookup_no_state : (values state : List ℕ) (v y : ℕ) (answer : List ℕ) → (length state ≡ 135 → ⊥) → LinkedLookup values state v y answer false answer
unfolding lookup_left fits_lookup settle_lookup
lookup_no_state values state v y answer h = let e = ne_eqb (length state) 135 h in record { called = rw e refl; answer_is = rw e refl }

pub lookup_no_answer : (values state : List ℕ) (v y : ℕ) (answer : List ℕ) → length state ≡ 135 → (length answer ≡ 2 → ⊥) → LinkedLookup values state v y answer false answer
unfolding lookup_left fits_lookup settle_lookup
lookup_no_answer values state v y answer h g = let e = eq-eqb (length state) 135 h in let f = ne_eqb (length answer) 2 g in record { called = rw (e, f) refl; answer_is = rw (e, f) refl }

-- a lookup that is made on the state that the numbers are
pub lookup_made : (values state : List ℕ) (v y : ℕ) (answer : List ℕ) (s : State) (found : Lookup) (as' : List ℕ) → length state ≡ 135 → length answer ≡ 2 → s ≡ unpacked_state state
    → found ≡ look_up s.k s.counts values v y → as' ≡ packed_lookup found → LinkedLookup values state v y answer true as'
unfolding lookup_left fits_lookup settle_lookup
lookup_made values state v y answer s found as' h g e l p =
    let a = eq-eqb (length state) 135 h in
    let b = eq-eqb (length answer) 2 g in
    record { called = rw (a, b) refl; answer_is = rw (a, b) (p ∙ ap packed_lookup (l ∙ ap (λ (x : State). look_up x.k x.counts values v y) e)) }

-- What is said, with the references and sizes that are left, is the turn. Assumes nothing.
use Prim.Native.Nat.{ℕ}
use mathlib.Core.Path.{◌≡◌, refl}
use mathlib.Core.Bool.{Bool}
use mathlib.Core.List.{List}
use Rattle.std.specs.Prelude.{Ok, Err}
use native.Mathlib.Omega.{arith}
use lib.ListN.{length}
use Rattle.meaning.specs.declared.State.{State}
use Rattle.meaning.specs.declared.Turn.{Turn}
use Rattle.meaning.specs.declared.Answer.{Answer}
use Rattle.meaning.specs.declared.Answer.TheVariants.{Started, Verdict, Refused}
use Rattle.diagram.specs.declared.Unformed.TheVariants.{Unfit, Bad}
use Rattle.diagram.specs.Steps.{Formed}
use Rattle.monitor.specs.declared.Figures.{Figures}
use Rattle.monitor.specs.declared.Said.{Said}
use Rattle.monitor.specs.Said.{whole, turn_of, refused_said, taken_said}
use Rattle.meaning.specs.Tables.{list_of, list_right}
use Rattle.meaning.specs.declared.Event.{Event}
use Rattle.meaning.specs.Rows.{rule_of}
use Rattle.meaning.specs.Outcome.{Machine, shows}
use Rattle.monitor.specs.Calls.{machine}
use Rattle.diagram.specs.Counts.{Visited}
use Rattle.monitor.specs.Events.{lists_right}
use Rattle.monitor.specs.Decisions.{of_formed, said_of}
use Rattle.monitor.specs.declared.refusals.Refusal.{Refusal}
use Rattle.monitor.specs.declared.refusals.Refusal.TheVariants.{State as wrong_state}
use Rattle.monitor.specs.Visits.{event_plan, Looks}

-- the turn of a refused event: "A refused event returns the state it got"
unfoldable pub kept_turn_law : State → ℕ → ℕ → Turn
kept_turn_law s number place = record { state = s; answer = Refused number place }

-- the turn of an event that is refused by what follows the state's check: refusal 4 comes before it
unfoldable pub formed_turn_law : Formed → State → ℕ → ℕ → Turn
formed_turn_law (Ok x) s number place = kept_turn_law s number place
formed_turn_law (Err Bad) s number place = kept_turn_law s 4 0
formed_turn_law (Err Unfit) s number place = kept_turn_law s 4 0

-- the turn of an event that is taken
unfoldable pub taken_turn_law : State → List ℕ → List ℕ → List ℕ → ℕ → ℕ → Bool → Turn
taken_turn_law s counts refs sizes kept room y = record {
  state = record { k = s.k; rows = s.rows; kept = kept; counts = counts; refs = refs; sizes = sizes };
  answer = Verdict y kept room;
}

-- the lists are right or not whatever the references and sizes are
pub lists_same : (f : Figures) (refs refs' sizes sizes' : List ℕ) (n : ℕ) (values : List ℕ) → lists_right (whole f refs sizes) n values ≡ lists_right (whole f refs' sizes') n values
unfolding lists_right list_right list_of
lists_same f refs refs' sizes sizes' n values = refl

pub kept_turn : (f : Figures) (refs refs' sizes sizes' : List ℕ) (n p : ℕ) (t : Said) → t ≡ refused_said f n p → refs' ≡ refs → sizes' ≡ sizes → turn_of t refs' sizes' ≡ kept_turn_law (whole f refs sizes) n p
unfolding kept_turn_law refused_said
kept_turn f refs refs' sizes sizes' n p t e r z = rw (e, r, z) refl

-- the check of the diagrams refuses, and nothing else is asked
pub formed_err : (x : Formed) (q : Refusal) (f : Figures) (refs sizes : List ℕ) (n p : ℕ) → Err q ≡ of_formed x → turn_of (said_of f (Err q)) refs sizes ≡ formed_turn_law x (whole f refs sizes) n p
unfolding formed_turn_law of_formed kept_turn_law refused_said
formed_err (Ok x) q f refs sizes n p e = let z : ◌≡◌ {A = ℕ} 0 1 = cc in absurd (omega arith)
formed_err (Err Bad) q f refs sizes n p e = let z : q ≡ wrong_state = cc in rw z refl
formed_err (Err Unfit) q f refs sizes n p e = let z : q ≡ wrong_state = cc in rw z refl

-- it passes, and leaves the event to another refusal
pub formed_ok : (x : Formed) (u : Unit {0}) (f : Figures) (refs sizes : List ℕ) (n p : ℕ) → Ok u ≡ of_formed x → turn_of (refused_said f n p) refs sizes ≡ formed_turn_law x (whole f refs sizes) n p
unfolding formed_turn_law of_formed kept_turn_law refused_said
formed_ok (Ok x) u f refs sizes n p e = refl
formed_ok (Err Bad) u f refs sizes n p e = let z : ◌≡◌ {A = ℕ} 0 1 = cc in absurd (omega arith)
formed_ok (Err Unfit) u f refs sizes n p e = let z : ◌≡◌ {A = ℕ} 0 1 = cc in absurd (omega arith)

pub taken_turn : (f : Figures) (counts refs refs' sizes sizes' : List ℕ) (kept room : ℕ) (y : Bool) (complements swept : ℕ) (numbered : List ℕ) (t : Said)
    → t ≡ taken_said f counts kept room y complements swept numbered → turn_of t refs' sizes' ≡ taken_turn_law (whole f refs sizes) counts refs' sizes' kept room y
unfolding taken_turn_law taken_said
taken_turn f counts refs refs' sizes sizes' kept room y complements swept numbered t e = rw e refl

-- a refused event tells no visits
pub kept_looks : (rows : List ℕ) (m : Machine) (e : Event) (f : Figures) (n p : ℕ) (t : Said) → t ≡ refused_said f n p → Looks rows m e t.answer t.complements t.swept
unfolding refused_said
kept_looks rows m e f n p t q = rw q (record { tells = (refl, refl) })

-- one that is taken tells those of its plan
pub taken_looks : (rows : List ℕ) (m : Machine) (e : Event) (f : Figures) (counts : List ℕ) (kept room : ℕ) (y : Bool) (complements swept : ℕ) (numbered : List ℕ) (t : Said)
    → t ≡ taken_said f counts kept room y complements swept numbered
    → Visited m.state.k (length (rule_of rows)) (event_plan rows m e) m.state.refs m.state.kept m.nodes kept complements swept → Looks rows m e t.answer t.complements t.swept
unfolding taken_said
taken_looks rows m e f counts kept room y complements swept numbered t q v = rw q (record { tells = v })

-- the visits do not ask what stands in the work slice
pub looks_same : (rows : List ℕ) (s : State) (nodes values w w' : List ℕ) (e : Event) (a : Answer) (complements swept : ℕ) → Looks rows (machine s nodes values w) e a complements swept
    → Looks rows (machine s nodes values w') e a complements swept
unfolding event_plan shows
looks_same rows s nodes values w w' e Started complements swept l = record { tells = l.tells }
looks_same rows s nodes values w w' e (Verdict y kept room) complements swept l = record { tells = l.tells }
looks_same rows s nodes values w w' e (Refused n p) complements swept l = record { tells = l.tells }

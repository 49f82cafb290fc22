-- The outcome of start and of event for every input whatsoever: the answer, the state and every lent slice.
-- Assumes nothing: these are definitions.
use Rattle.std.specs.Prelude.{ℕ, ◌+◌, ◌-◌, ◌*◌, ◌/◌, ◌%◌, ◌≡◌, Bool, true, false, cond, not, ◌&&◌, ◌||◌, List, [], ◌∷◌, ◌++◌, map, eqb, ltb, leb, length, get_or, take, drop, replicate}
use Rattle.trees.specs.Tree.{off, is_on}
use Rattle.meaning.specs.declared.State.{State}
use Rattle.meaning.specs.declared.Event.{Event}
use Rattle.meaning.specs.declared.Fact.{Fact as Given}
use Rattle.meaning.specs.declared.Answer.{Answer}
use Rattle.meaning.specs.declared.Answer.TheVariants.{Started, Verdict, Refused}
use Rattle.meaning.specs.Qtl.{Fact}
use Rattle.meaning.specs.Rows.{Row, truth, atom, both, neg, since, previous, exists, count_of_rows, rule_of, first_below, Found, right, fault, check_rows}
use Rattle.meaning.specs.Numbering.{ask_facts}
use Rattle.meaning.specs.Step.{Shown, step, room_of}
use Rattle.meaning.specs.Tables.{most, read, kept_table, lay_state, lay_nodes, lay_values, well_formed}

-- "k from 1 to 10"
unfoldable pub k_right : ℕ → Bool
k_right k = ltb 0 k && leb k 10

-- "The node slice has 3 × C numbers, C from 1 to 4,096."
unfoldable pub capacity : List ℕ → ℕ
capacity nodes = length nodes / 3

unfoldable pub nodes_right : List ℕ → Bool
nodes_right nodes = eqb (length nodes % 3) 0 && (ltb 0 (capacity nodes) && leb (capacity nodes) 4096)

-- "The value slice has 4 × (2^k − 1) numbers"
unfoldable pub values_right : ℕ → List ℕ → Bool
values_right k values = eqb (length values) (4 * most k)

-- "The work slice has at least W = 16 × C + 1,024 numbers."
unfoldable pub work_size : ℕ → ℕ
work_size C = 16 * C + 1024

-- "its first W numbers are 0 and the rest untouched"
unfoldable pub cleared : ℕ → List ℕ → List ℕ
cleared C work = replicate (work_size C) 0 ++ drop (work_size C) work

-- a fact that is handed in: "Values past an event's count are ignored."
unfoldable pub fact_of : Given → Fact
fact_of f = record { predicate = f.predicate; values = map (λ v. v.0) (take f.count f.values) }

-- "an event becomes a list of 0 to 8 facts"
unfoldable pub given : Event → List Given
given e = take e.count e.facts

unfoldable pub facts_of : Event → List Fact
facts_of e = map fact_of (given e)

-- the two lists are as long as each other, and R holds of each two facts at one place
abbrev pub Each : (Given → Given → Type 0) → List Given → List Given → Type 0
Each R [] [] = Unit {0}
Each R [] (g ∷ gs) = ⊥
Each R (f ∷ fs) [] = ⊥
Each R (f ∷ fs) (g ∷ gs) = R f g × Each R fs gs

-- g is f but for what is ignored: the same fact, and the same count; and so for all facts of an event
abbrev pub SameGiven : Given → Given → Type 0
SameGiven f g = (fact_of g ≡ fact_of f) × (g.count ≡ f.count)

abbrev pub SameEvent : Event → Event → Type 0
SameEvent e f = (f.count ≡ e.count) × Each SameGiven (given e) (given f)

-- refusal 5 of one fact is given where this does not hold: "event count over 3, or not the rule's count for its predicate"
unfoldable pub agrees : Given → Row → Bool
agrees e truth = true
agrees e (atom p gs) = not (eqb e.predicate p) || eqb (length gs) e.count
agrees e (both l r) = true
agrees e (neg r) = true
agrees e (since l r) = true
agrees e (previous r) = true
agrees e (exists x r) = true

unfoldable pub all_agree : Given → List Row → Bool
all_agree e [] = true
all_agree e (r ∷ rs) = agrees e r && all_agree e rs

unfoldable pub fact_right : List Row → Given → Bool
fact_right rule f = leb f.count 3 && all_agree f rule

unfoldable pub all_right : List Row → List Given → Bool
all_right rule [] = true
all_right rule (f ∷ fs) = fact_right rule f && all_right rule fs

-- "more than 8 facts gives 5; 5 also covers any fact in the list"
unfoldable pub count_right : List Row → Event → Bool
count_right rule e = leb e.count 8 && all_right rule (given e)

-- "a variable asks more numbers than it has left": the lowest such variable, or 4
unfoldable pub shortest : ℕ → List Row → Shown → List Fact → ℕ
shortest k rule s es = first_below 4 (λ v. ltb (most k) (length (ask_facts es s.lists rule v)))

-- what is done with a call: it is taken, or refused with a number and a place
pub data Decision : Type 0 where
  taken : Decision
  refused : ℕ → ℕ → Decision

-- "Checked in this order; the first that applies is given." The tests: k; the rows; the lengths.
unfoldable pub judge_start : Bool → Found → Bool → Decision
judge_start false rows lengths = refused 1 0
judge_start true (fault p) lengths = refused 2 p
judge_start true right false = refused 3 0
judge_start true right true = taken

-- The further tests of an event: the state; the count; whether a variable v is short; whether there is room.
unfoldable pub judge_event : Decision → Bool → Bool → Bool → ℕ → Bool → Decision
judge_event (refused n p) formed count short v room = refused n p
judge_event taken false count short v room = refused 4 0
judge_event taken true false short v room = refused 5 0
judge_event taken true true true v room = refused 6 v
judge_event taken true true false v false = refused 7 0
judge_event taken true true false v true = taken

-- what start leaves
pub record StartOutcome : Type 0 where
  pub answer : Answer
  pub state : State
  pub nodes : List ℕ
  pub values : List ℕ

-- "it fills nodes and values with 0 and sets every reference to 0. A refused start returns an all-zero state and writes nothing."
unfoldable pub state_of : ℕ → ℕ → State
state_of k n = record { k = k; rows = n; kept = 0; counts = replicate 4 0; refs = replicate 64 0; sizes = replicate 64 0 }

unfoldable pub settle_start : Decision → ℕ → ℕ → List ℕ → List ℕ → StartOutcome
settle_start taken k n nodes values = record { answer = Started; state = state_of k n; nodes = replicate (length nodes) 0; values = replicate (length values) 0 }
settle_start (refused m p) k n nodes values = record { answer = Refused m p; state = state_of 0 0; nodes = nodes; values = values }

unfoldable pub decide_start : ℕ → List ℕ → List ℕ → List ℕ → Decision
decide_start k rows nodes values = judge_start (k_right k) (check_rows rows) (nodes_right nodes && values_right k values)

unfoldable pub start_outcome : ℕ → List ℕ → List ℕ → List ℕ → StartOutcome
start_outcome k rows nodes values = settle_start (decide_start k rows nodes values) k (count_of_rows rows) nodes values

-- the state and the lent slices
pub record Machine : Type 0 where
  pub state : State
  pub nodes : List ℕ
  pub values : List ℕ
  pub work : List ℕ

-- "four value counts and 64 references", and "the 64 sizes": the arrays of a state have these lengths by their type
abbrev pub Arrays : Machine → Type 0
Arrays m = (length m.state.counts ≡ 4) × (length m.state.refs ≡ 64) × (length m.state.sizes ≡ 64)

-- "any well-formed state", its slices of the right lengths: refusals 1 to 4 do not apply
pub record WellFormed (rows : List ℕ) (m : Machine) : Type 0 where
  pub arrays : Arrays m
  pub k_is_right : k_right m.state.k ≡ true
  pub rows_right : check_rows rows ≡ right
  pub lengths : (nodes_right m.nodes && (values_right m.state.k m.values && leb (work_size (capacity m.nodes)) (length m.work))) ≡ true
  pub formed : well_formed m.state.k (capacity m.nodes) (rule_of rows) m.state m.nodes m.values ≡ true

-- the same state with room for d nodes more: zeros behind the nodes, and another work slice
unfoldable pub enlarged : ℕ → List ℕ → Machine → Machine
enlarged d work m = record { state = m.state; nodes = m.nodes ++ replicate (3 * d) 0; values = m.values; work = work }

-- what the machine shows of a rule
unfoldable pub shows : List ℕ → Machine → Shown
shows rows m = read m.state.k (length (rule_of rows)) m.state m.nodes m.values

unfoldable pub decide_event : List ℕ → Machine → Event → Decision
decide_event rows m e =
    let k = m.state.k in
    let rule = rule_of rows in
    let C = capacity m.nodes in
    let before = shows rows m in
    let v = shortest k rule before (facts_of e) in
    judge_event
    (judge_start (k_right k) (check_rows rows) (nodes_right m.nodes && (values_right k m.values && leb (work_size C) (length m.work))))
    (well_formed k C rule m.state m.nodes m.values)
    (count_right rule e) (ltb v 4) v
    (leb (room_of k rule before (facts_of e) (step k rule before (facts_of e))) C)

-- "A verdict returns yes or no, kept nodes and room."
unfoldable pub verdict_of : ℕ → List Row → Shown → List Fact → Shown → Answer
verdict_of k rule before es after =
    Verdict (is_on (get_or after.trees (length rule - 1) off)) (length (kept_table after)) (room_of k rule before es after)

pub record EventOutcome : Type 0 where
  pub answer : Answer
  pub left : Machine

-- "A refused event returns the state it got; node and value slices stay as they were .. Work: untouched after 1 to 3; after 4 to 7
-- and after a verdict its first W numbers are 0 and the rest untouched."
unfoldable pub settle_event : Decision → List ℕ → Machine → Event → EventOutcome
settle_event taken rows m e =
    let k = m.state.k in
    let C = capacity m.nodes in
    let before = shows rows m in
    let after = step k (rule_of rows) before (facts_of e) in
    record {
      answer = verdict_of k (rule_of rows) before (facts_of e) after;
      left = record { state = lay_state k after; nodes = lay_nodes C after; values = lay_values k after.lists; work = cleared C m.work };
    }
settle_event (refused n p) rows m e = record {
  answer = Refused n p;
  left = record { state = m.state; nodes = m.nodes; values = m.values; work = cond (leb 4 n) (cleared (capacity m.nodes) m.work) m.work };
}

unfoldable pub event_outcome : List ℕ → Machine → Event → EventOutcome
event_outcome rows m e = settle_event (decide_event rows m e) rows m e

-- a run: the machine after some events, the answers, and the facts of the events taken
unfoldable pub runs : List ℕ → Machine → List Event → Machine
runs rows m [] = m
runs rows m (e ∷ es) = runs rows (event_outcome rows m e).left es

unfoldable pub answers : List ℕ → Machine → List Event → List Answer
answers rows m [] = []
answers rows m (e ∷ es) = (event_outcome rows m e).answer ∷ answers rows (event_outcome rows m e).left es

unfoldable pub with_taken : Decision → Event → List (List Fact) → List (List Fact)
with_taken taken e fs = facts_of e ∷ fs
with_taken (refused n p) e fs = fs

unfoldable pub taken_of : List ℕ → Machine → List Event → List (List Fact)
taken_of rows m [] = []
taken_of rows m (e ∷ es) = with_taken (decide_event rows m e) e (taken_of rows (event_outcome rows m e).left es)

-- the events' facts as the meaning counts them, from 1 on
unfoldable pub log : List (List Fact) → ℕ → List Fact
log fs i = get_or fs (i - 1) []

-- the machine that a start leaves, with a work slice
unfoldable pub machine_of : StartOutcome → List ℕ → Machine
machine_of s work = record { state = s.state; nodes = s.nodes; values = s.values; work = work }

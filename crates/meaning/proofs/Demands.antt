-- The demands, in the mission's words, each as a theorem of the definitions. Assumes nothing.
use Prim.Native.Nat.{ℕ, suc, ◌+◌, ◌-◌, ◌≤◌, ◌<◌}
use mathlib.Core.Path.{◌≡◌, refl, sym, ◌∙◌}
use mathlib.Core.Bool.{Bool, true, false}
use mathlib.Core.List.{List, [], ◌∷◌, ◌++◌}
use mathlib.Core.Logic.{◌↔◌, ◌⊎◌}
use lib.ListN.{length, get_or}
use Rattle.trees.specs.Bits.{Bits, Function, Same}
use Rattle.trees.specs.Tree.{off, eval}
use Rattle.trees.specs.Room.{Room}
use Rattle.trees.proofs.RoomLaws.{room_one}
use Rattle.meaning.specs.declared.State.{State}
use Rattle.meaning.specs.declared.Event.{Event}
use Rattle.meaning.specs.declared.Answer.TheVariants.{Started, Verdict, Refused}
use Rattle.meaning.specs.Qtl.{Fact, Assignment, SameFacts, SameEvents, Holds}
use Rattle.meaning.specs.Rows.{Row, rule_of, formula_at}
use Rattle.meaning.specs.Numbering.{shown, Shows}
use Rattle.meaning.specs.Step.{says_at}
use Rattle.meaning.specs.Tables.{well_formed}
use Rattle.meaning.specs.Outcome.{capacity, work_size, cleared, facts_of, SameEvent, taken, refused, decide_start, decide_event, start_outcome, Machine, Arrays, WellFormed, enlarged, machine_of, shows, settle_event, event_outcome, runs, answers, log}
use Rattle.meaning.specs.Refusals.{IllFormed, StartSentence, Sentence, First}
use Rattle.meaning.specs.Verdicts.{Sized, Stepped, Answered}
use Rattle.meaning.specs.Disguise.{Disguise, Disguised, DisguisedLog, Alike}
use Rattle.meaning.proofs.RefusalLaws.{exact, exact_taken, judged_start, judged_event}
use Rattle.meaning.proofs.IllFormedLaws.{formed_bad}
use Rattle.meaning.proofs.FromStart.{after, facts, sets, own_numbers, sized, says}
use Rattle.meaning.proofs.AnyState.{stepped, sizes_true, one_tables}
use Rattle.meaning.proofs.LargerTable.{large_formed, large_shows, large_answers, large_left}
use Rattle.meaning.proofs.OrderLaws.{same_length, same_snoc, same_holds}
use Rattle.meaning.proofs.IgnoredLaws.{ignored}
use Rattle.meaning.proofs.HiddenRuns.{hidden_answers, hidden_alike, hidden_answer}

-- Demand 1. "Bad input gets exactly the refusal number of document 01", for any numbers whatever handed to start ..
pub start_refuses : (k : ℕ) (rows nodes values : List ℕ) (n p : ℕ) → (decide_start k rows nodes values ≡ refused n p) ↔ First (StartSentence k rows nodes values) n p
start_refuses k rows nodes values n p = exact (StartSentence k rows nodes values) (decide_start k rows nodes values) (judged_start k rows nodes values) n p

-- .. which is taken exactly if no sentence applies;
pub start_taken : (k : ℕ) (rows nodes values : List ℕ) → (decide_start k rows nodes values ≡ taken) ↔ ((n p : ℕ) → StartSentence k rows nodes values n p → ⊥)
start_taken k rows nodes values = exact_taken (StartSentence k rows nodes values) (decide_start k rows nodes values) (judged_start k rows nodes values)

-- .. and to event: "An event is refused exactly where 01 says so" ..
pub event_refuses : (rows : List ℕ) (m : Machine) (e : Event) (n p : ℕ) → (decide_event rows m e ≡ refused n p) ↔ First (Sentence rows m e) n p
event_refuses rows m e n p = exact (Sentence rows m e) (decide_event rows m e) (judged_event rows m e) n p

-- .. and taken exactly if no sentence applies.
pub event_taken : (rows : List ℕ) (m : Machine) (e : Event) → (decide_event rows m e ≡ taken) ↔ ((n p : ℕ) → Sentence rows m e n p → ⊥)
event_taken rows m e = exact_taken (Sentence rows m e) (decide_event rows m e) (judged_event rows m e)

-- "state not well formed: ..": the test of refusal 4 fails exactly if one of its clauses holds, for a rule of "1 to 64 rows".
pub ill_formed : (k C : ℕ) (rule : List Row) → length rule ≤ 64 → (s : State) (nodes values : List ℕ) → (well_formed k C rule s nodes values ≡ false) ↔ IllFormed k C rule s nodes values
ill_formed k C rule few s nodes values = formed_bad k C rule few s nodes values

-- "a refused event gives the state back as it was", and the node and value slices.
pub refused_keeps : (rows : List ℕ) (m : Machine) (e : Event) (n p : ℕ) → decide_event rows m e ≡ refused n p
    → ((event_outcome rows m e).answer ≡ Refused n p) × ((event_outcome rows m e).left.state ≡ m.state) × ((event_outcome rows m e).left.nodes ≡ m.nodes) × ((event_outcome rows m e).left.values ≡ m.values)
unfolding event_outcome settle_event
refused_keeps rows m e n p d = rw d (refl, refl, refl, refl)

-- "Values past an event's count are ignored."
pub past_the_count : (rows : List ℕ) (m : Machine) (e f : Event) → SameEvent e f → event_outcome rows m f ≡ event_outcome rows m e
past_the_count rows m e f s = ignored e f s rows m

-- Demand 2. From a fresh start, whatever the tables held before, and any list of events:
module _ (k : ℕ) (rows nodes values work : List ℕ) (started : (start_outcome k rows nodes values).answer ≡ Started) (es : List Event) where
  -- "the set kept for each part of the rule [is] what the logic QTL says of the events taken so far": for every row and every assignment
  -- the kept diagram says yes exactly if the row holds, at whatever numbers stand for the assignment's values. "An unassigned number
  -- also stands for an unseen value."
  pub kept_sets : (i : ℕ) → i < length (rule_of rows) → (s : Bits) (a : Assignment) → Shows k (shows rows (after k rows nodes values work started es)).lists s a
      → (eval (get_or (shows rows (after k rows nodes values work started es)).trees i off) s ≡ true)
      ↔ Holds (log (facts k rows nodes values work started es)) (formula_at (rule_of rows) i) (length (facts k rows nodes values work started es)) a
  kept_sets i h s a w = sets k rows nodes values work started es i h s a w

  -- ".. over all whole numbers, seen or not": every assignment has such numbers.
  pub every_assignment : (a : Assignment)
      → Shows k (shows rows (after k rows nodes values work started es)).lists (shown k (shows rows (after k rows nodes values work started es)).lists a) a
  every_assignment a = own_numbers k rows nodes values work started es a

  -- "after every event taken, the verdict": of an answer y with n kept nodes and room r, y is yes exactly if the rule holds of the events
  -- taken so far, this one among them, n is the count of kept nodes, and r the room of document 01.
  pub verdicts : (e : Event) (y : Bool) (n r : ℕ) → (event_outcome rows (after k rows nodes values work started es) e).answer ≡ Verdict y n r
      → Answered rows (after k rows nodes values work started es) e y n r (event_outcome rows (after k rows nodes values work started es) e).left (facts k rows nodes values work started es)
  verdicts e y n r q = says k rows nodes values work started es e y n r q

  -- "Keep the 64 sizes in the state, true after start and after every event": of each row the count of the nodes of its diagram, 0 past the rows.
  pub sizes_kept : Sized rows (after k rows nodes values work started es)
  sizes_kept = sized k rows nodes values work started es

-- Several facts in one moment. "From a fresh start, verdicts and kept sets, read as values, don't depend on the facts' order while both orders
-- are taken": two runs of one rule that have taken the same facts, event by event, in whatever order within each. Nothing is asked of the
-- table sizes, and copies of a fact don't matter.
module _ (k k' : ℕ) (rows nodes nodes' values values' work work' : List ℕ) (started : (start_outcome k rows nodes values).answer ≡ Started)
    (started' : (start_outcome k' rows nodes' values').answer ≡ Started) (es es' : List Event)
    (same : SameEvents (facts k rows nodes values work started es) (facts k' rows nodes' values' work' started' es')) where
  abbrev one : Machine
  one = after k rows nodes values work started es

  abbrev other : Machine
  other = after k' rows nodes' values' work' started' es'

  abbrev taken_one : List (List Fact)
  taken_one = facts k rows nodes values work started es

  abbrev taken_other : List (List Fact)
  taken_other = facts k' rows nodes' values' work' started' es'

  -- at whatever numbers stand for the assignment's values in each run
  pub order_kept : (i : ℕ) → i < length (rule_of rows) → (a : Assignment) (s s' : Bits) → Shows k (shows rows one).lists s a → Shows k' (shows rows other).lists s' a
      → eval (get_or (shows rows one).trees i off) s ≡ eval (get_or (shows rows other).trees i off) s'
  order_kept i h a s s' w w' =
      same_holds taken_one taken_other same (formula_at (rule_of rows) i) (length taken_one) a _ _ (kept_sets k rows nodes values work started es i h s a w)
      (rw (same_length taken_one taken_other same) (kept_sets k' rows nodes' values' work' started' es' i h s' a w'))

  pub order_verdicts : (e e' : Event) → SameFacts (facts_of e) (facts_of e') → (y y' : Bool) (n n' r r' : ℕ)
      → (event_outcome rows one e).answer ≡ Verdict y n r → (event_outcome rows other e').answer ≡ Verdict y' n' r' → y ≡ y'
  order_verdicts e e' t y y' n n' r r' p q =
      same_holds (taken_one ++ facts_of e ∷ []) (taken_other ++ facts_of e' ∷ []) (same_snoc taken_one taken_other (facts_of e) (facts_of e') same t)
      (formula_at (rule_of rows) (length (rule_of rows) - 1)) (suc (length taken_one)) (λ v. 0) y y'
      ((verdicts k rows nodes values work started es e y n r p).verdict (λ v. 0))
      (rw (same_length taken_one taken_other same) ((verdicts k' rows nodes' values' work' started' es' e' y' n' r' q).verdict (λ v. 0)))

-- "The functions shown by the diagrams go to those that one step of the meaning gives, read over numbers", for any well-formed state:
-- the new state is well formed, its sizes are true, and verdict, kept, room and the work slice are as 01 says.
pub any_state : (rows : List ℕ) (m : Machine) (e : Event) → Arrays m → (y : Bool) (n r : ℕ) → (event_outcome rows m e).answer ≡ Verdict y n r → Stepped rows m e y n r (event_outcome rows m e).left
any_state rows m e a y n r q = stepped rows m e a y n r q

-- The sizes of any well-formed state are true: "sizes that don't fit the diagrams give 4".
pub any_sizes : (rows : List ℕ) (m : Machine) → WellFormed rows m → Sized rows m
any_sizes rows m w = sizes_true rows m w

-- One outcome. "The room is the number of ..": there is one such number ..
pub one_room : (levels : ℕ) (fs : List Function) (n m : ℕ) → Room levels fs n → Room levels fs m → n ≡ m
one_room levels fs n m x y = room_one levels fs n m x y

-- .. and the state and the slices are determined by the lists and functions that they show, where no refusal of 1 to 4 applies.
pub one_outcome : (rows : List ℕ) (m n : Machine) → WellFormed rows m → WellFormed rows n → m.state.k ≡ n.state.k → capacity m.nodes ≡ capacity n.nodes
    → (shows rows m).lists ≡ (shows rows n).lists → ((i : ℕ) → i < length (rule_of rows) → Same (says_at (shows rows m).trees i) (says_at (shows rows n).trees i))
    → (m.state ≡ n.state) × (m.nodes ≡ n.nodes) × (m.values ≡ n.values)
one_outcome rows m n p q k C l f = one_tables rows m n p q k C l f

-- A larger table. "room over C" is the one refusal of a well-formed state that depends on C: with zeros behind the nodes the state is
-- well formed ..
pub larger_formed : (rows : List ℕ) (m : Machine) → WellFormed rows m → (d : ℕ) (work : List ℕ) → capacity m.nodes + d ≤ 4096 → work_size (capacity m.nodes + d) ≤ length work
    → WellFormed rows (enlarged d work m)
larger_formed rows m w d work most long = large_formed rows m w d work most long

-- .. shows the same ..
pub larger_shows : (rows : List ℕ) (m : Machine) → WellFormed rows m → (d : ℕ) (work : List ℕ) → capacity m.nodes + d ≤ 4096 → work_size (capacity m.nodes + d) ≤ length work
    → shows rows (enlarged d work m) ≡ shows rows m
larger_shows rows m w d work most long = large_shows rows m w d work most long

-- .. and answers the same, but where the smaller table had no room; so 7 is given only for less room.
pub larger_answers : (rows : List ℕ) (m : Machine) → WellFormed rows m → (d : ℕ) (work : List ℕ) → capacity m.nodes + d ≤ 4096 → work_size (capacity m.nodes + d) ≤ length work
    → (e : Event) → ((event_outcome rows m e).answer ≡ Refused 7 0) ⊎ ((event_outcome rows (enlarged d work m) e).answer ≡ (event_outcome rows m e).answer)
larger_answers rows m w d work most long e = large_answers rows m w d work most long e

-- An event that the smaller table takes leaves the same in the larger one.
pub larger_leaves : (rows : List ℕ) (m : Machine) → WellFormed rows m → (d : ℕ) (work : List ℕ) → capacity m.nodes + d ≤ 4096 → work_size (capacity m.nodes + d) ≤ length work
    → (e : Event) → decide_event rows m e ≡ taken → (event_outcome rows (enlarged d work m) e).left ≡ enlarged d (cleared (capacity m.nodes + d) work) (event_outcome rows m e).left
larger_leaves rows m w d work most long e t = large_left rows m w d work most long e t

-- Demand 3. "Disguised logs: rename values one to one, each constant of the rule to itself and nothing else to a constant. From a fresh start,
-- with the same rule and table sizes ..", whatever the values past a fact's count, and the facts past an event's:
module _ (k : ℕ) (rows nodes values work nodes' values' work' : List ℕ) (started : (start_outcome k rows nodes values).answer ≡ Started)
    (same_nodes : length nodes' ≡ length nodes) (same_values : length values' ≡ length values) (same-work : length work' ≡ length work)
    (es fs : List Event) (π : ℕ → ℕ) (d : Disguise (rule_of rows) es π) (l : DisguisedLog π es fs) where
  abbrev pub plain : Machine
  plain = machine_of (start_outcome k rows nodes values) work

  abbrev pub hidden : Machine
  hidden = machine_of (start_outcome k rows nodes' values') work'

  -- ".. both logs give, event by event, the same refusals, counts .. and verdicts" ..
  pub same_answers : answers rows hidden fs ≡ answers rows plain es
  same_answers = hidden_answers k rows nodes values work nodes' values' work' started same_nodes same_values same-work es π d fs l

  -- ".. the same .. diagrams", and "The value lists differ only by the disguise".
  pub same_tables : Alike π rows (runs rows plain es) (runs rows hidden fs)
  same_tables = hidden_alike k rows nodes values work nodes' values' work' started same_nodes same_values same-work es π d fs l

-- ".. and those verdicts are QTL's for the undisguised events taken": one more event after any disguised log.
pub hidden_verdicts : (k : ℕ) (rows nodes values work nodes' values' work' : List ℕ) (started : (start_outcome k rows nodes values).answer ≡ Started)
    → length nodes' ≡ length nodes → length values' ≡ length values → length work' ≡ length work
    → (es fs : List Event) (e f : Event) (π : ℕ → ℕ) → Disguise (rule_of rows) (es ++ e ∷ []) π → DisguisedLog π es fs → Disguised π e f
    → (y : Bool) (n r : ℕ) → (event_outcome rows (runs rows (machine_of (start_outcome k rows nodes' values') work') fs) f).answer ≡ Verdict y n r
    → (a : Assignment) → (y ≡ true) ↔ Holds (log (facts k rows nodes values work started es ++ facts_of e ∷ [])) (formula_at (rule_of rows) (length (rule_of rows) - 1)) (suc (length (facts k rows nodes values work started es))) a
hidden_verdicts k rows nodes values work nodes' values' work' started sn sv sw es fs e f π d l g y n r q =
    (verdicts k rows nodes values work started es e y n r (sym (hidden_answer k rows nodes values work nodes' values' work' started sn sv sw es fs e f π d l g) ∙ q)).verdict

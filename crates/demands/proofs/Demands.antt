-- The demands, in the mission's words, of the code: each is a theorem about what `start` and `event` promise, by `Starts` and `Happens`
-- alone. Assumes nothing.
use Prim.Native.Nat.{ℕ, suc, ◌+◌, ◌-◌, ◌*◌, ◌≤◌, ◌<◌}
use mathlib.Core.Path.{◌≡◌}
use mathlib.Core.Bool.{Bool, true, cond}
use mathlib.Core.List.{List, [], ◌∷◌, ◌++◌}
use mathlib.Core.Logic.{◌↔◌, ◌⊎◌}
use lib.Dec.{leb}
use lib.ListN.{length, get_or, replicate}
use Rattle.trees.specs.Bits.{Bits}
use Rattle.trees.specs.Tree.{off, eval}
use Rattle.meaning.specs.declared.Event.{Event}
use Rattle.meaning.specs.declared.Answer.{Answer}
use Rattle.meaning.specs.declared.Answer.TheVariants.{Started, Verdict, Refused}
use Rattle.meaning.specs.declared.Turn.{Turn}
use Rattle.meaning.specs.Qtl.{Assignment, SameFacts, SameEvents, Holds}
use Rattle.meaning.specs.Rows.{count_of_rows, rule_of, formula_at}
use Rattle.meaning.specs.Numbering.{shown, Shows}
use Rattle.meaning.specs.Outcome.{capacity, work_size, cleared, facts_of, SameEvent, state_of, Machine, Arrays, WellFormed, enlarged, shows, log}
use Rattle.meaning.specs.Refusals.{StartSentence, Sentence, First}
use Rattle.meaning.specs.Verdicts.{Sized, Stepped, Answered}
use Rattle.meaning.specs.Disguise.{Disguise, Disguised, DisguisedLog, Alike}
use Rattle.monitor.specs.Calls.{IsVerdict, IsRefusal, Starts, machine, Happens}
use Rattle.monitor.specs.Runs.{Fresh, Call, Calls, taken_in, AllTaken}
use Rattle.demands.proofs.AnsweredLaws.{starts_refuses, starts_keeps, starts_takes, starts_leaves, starts_answers, happens_refuses, happens_keeps, happens_takes, happens_answers, happens_steps, happens_alike, happens_larger}
use Rattle.demands.proofs.LargerRuns.{runs_alike}
use Rattle.demands.proofs.FreshRuns.{run_sets, run_numbers, run_sizes, run_verdict, same_sets, same_verdict, both_answer, both_alike, hidden_verdict}

-- Demand 1, of `start`, for any numbers whatever handed to it, and what it then answers and leaves.
module _ (k : ℕ) (rows nodes values : List ℕ) (t : Turn) (ns vs : List ℕ) (s : Starts k rows nodes values t ns vs) where
  -- "Bad input gets exactly the refusal number of document 01": "the first that applies is given".
  pub start_refuses : (n p : ℕ) → (t.answer ≡ Refused n p) ↔ First (StartSentence k rows nodes values) n p
  start_refuses n p = starts_refuses k rows nodes values t ns vs s n p

  -- "A refused start returns an all-zero state and writes nothing."
  pub start_keeps : (n p : ℕ) → t.answer ≡ Refused n p → (t.state ≡ state_of 0 0) × (ns ≡ nodes) × (vs ≡ values)
  start_keeps n p q = starts_keeps k rows nodes values t ns vs s n p q

  -- A start that no sentence refuses is taken ..
  pub start_takes : (t.answer ≡ Started) ↔ ((n p : ℕ) → StartSentence k rows nodes values n p → ⊥)
  start_takes = starts_takes k rows nodes values t ns vs s

  -- .. and "fills nodes and values with 0 and sets every reference to 0", and every size.
  pub start_leaves : t.answer ≡ Started → (t.state ≡ state_of k (count_of_rows rows)) × (ns ≡ replicate (length nodes) 0) × (vs ≡ replicate (length values) 0)
  start_leaves q = starts_leaves k rows nodes values t ns vs s q

  -- There is no other answer.
  pub start_answers : (t.answer ≡ Started) ⊎ IsRefusal t.answer
  start_answers = starts_answers k rows nodes values t ns vs s

-- Demand 1, of `event`, and what demand 2 says of one event, for any state and any numbers whatever handed to it.
module _ (rows : List ℕ) (m : Machine) (e : Event) (t : Turn) (ns vs ws : List ℕ) (h : Happens rows m e t ns vs ws) where
  -- "An event is refused exactly where 01 says so" ..
  pub event_refuses : (n p : ℕ) → (t.answer ≡ Refused n p) ↔ First (Sentence rows m e) n p
  event_refuses n p = happens_refuses rows m e t ns vs ws h n p

  -- ".. leaves the tables as it says; a refused event gives the state back as it was." "Work: untouched after 1 to 3; after 4 to 7 .. its
  -- first W numbers are 0 and the rest untouched."
  pub event_keeps : (n p : ℕ) → t.answer ≡ Refused n p
      → (t.state ≡ m.state) × (ns ≡ m.nodes) × (vs ≡ m.values) × (ws ≡ cond (leb 4 n) (cleared (capacity m.nodes) m.work) m.work)
  event_keeps n p q = happens_keeps rows m e t ns vs ws h n p q

  -- .. and an event that no sentence refuses is answered by a verdict.
  pub event_takes : IsVerdict t.answer ↔ ((n p : ℕ) → Sentence rows m e n p → ⊥)
  event_takes = happens_takes rows m e t ns vs ws h

  -- There is no other answer.
  pub event_answers : IsVerdict t.answer ⊎ IsRefusal t.answer
  event_answers = happens_answers rows m e t ns vs ws h

  -- "Promise for any well-formed state, from a fresh start or not: the functions shown by the diagrams go to those that one step of the
  -- meaning gives, read over numbers." The new state is well formed, its sizes are true, the verdict is the last row's, kept and room are
  -- 01's, and after a verdict the work slice's "first W numbers are 0 and the rest untouched".
  pub any_state : Arrays m → (y : Bool) (n r : ℕ) → t.answer ≡ Verdict y n r → Stepped rows m e y n r (machine t.state ns vs ws)
  any_state a y n r q = happens_steps rows m e t ns vs ws h a y n r q

  -- "Values past an event's count are ignored", and so are facts past it.
  pub past_the_count : (f : Event) → SameEvent e f → Happens rows m f t ns vs ws
  past_the_count f s = happens_alike rows m e t ns vs ws h f s

  -- "room over C": with zeros behind the nodes of a well-formed state, and more room, the answer is the same, but where there was no room.
  pub larger_table : WellFormed rows m → (d : ℕ) (work : List ℕ) → capacity m.nodes + d ≤ 4096 → work_size (capacity m.nodes + d) ≤ length work
      → (u : Turn) (ns' vs' ws' : List ℕ) → Happens rows (enlarged d work m) e u ns' vs' ws' → (t.answer ≡ Refused 7 0) ⊎ (u.answer ≡ t.answer)
  larger_table w d work most long u ns' vs' ws' g = happens_larger rows m e t ns vs ws h w d work most long u ns' vs' ws' g

-- Demand 2. From a fresh start, whatever the tables held before it, and any events, each with the state and the tables as last left:
module _ (k : ℕ) (rows nodes values : List ℕ) (m₀ : Machine) (fresh : Fresh k rows nodes values m₀) (es : List Event) (xs : List Answer) (m : Machine) (calls : Calls rows m₀ es xs m) where
  -- "the set kept for each part of the rule [is] what the logic QTL says of the events taken so far": for every row and every assignment
  -- the kept diagram says yes exactly if the row holds, at whatever numbers stand for the assignment's values. "An unassigned number
  -- also stands for an unseen value."
  pub kept_sets : (i : ℕ) → i < length (rule_of rows) → (s : Bits) (a : Assignment) → Shows k (shows rows m).lists s a
      → (eval (get_or (shows rows m).trees i off) s ≡ true) ↔ Holds (log (taken_in es xs)) (formula_at (rule_of rows) i) (length (taken_in es xs)) a
  kept_sets i h s a w = run_sets k rows nodes values m₀ fresh es xs m calls i h s a w

  -- ".. over all whole numbers, seen or not": every assignment has such numbers.
  pub every_assignment : (a : Assignment) → Shows k (shows rows m).lists (shown k (shows rows m).lists a) a
  every_assignment a = run_numbers k rows nodes values m₀ fresh es xs m calls a

  -- "after every event taken, the verdict": the next call, if it answers with a verdict of y, n kept nodes and room r. y is yes exactly if
  -- the rule holds of the events taken so far, this one among them; n is the count of kept nodes, and r the room of document 01.
  pub verdicts : (e : Event) (y : Bool) (n r : ℕ) (m' : Machine) → Call rows m e (Verdict y n r) m' → Answered rows m e y n r m' (taken_in es xs)
  verdicts e y n r m' c = run_verdict k rows nodes values m₀ fresh es xs m calls e y n r m' c

  -- "Keep the 64 sizes in the state, true after start and after every event": of each row the count of the nodes of its diagram, 0 past the rows.
  pub sizes_kept : Sized rows m
  sizes_kept = run_sizes k rows nodes values m₀ fresh es xs m calls

-- "Take the same rule and events from a fresh start, same k, and a larger C: up to the first refusal of the smaller, both answer alike."
pub larger_runs : (k : ℕ) (rows nodes values nodes' values' : List ℕ) (m₀ n₀ : Machine) → Fresh k rows nodes values m₀ → Fresh k rows nodes' values' n₀
    → (d : ℕ) → length nodes' ≡ length nodes + 3 * d → work_size (capacity nodes') ≤ length n₀.work
    → (es : List Event) (xs ys : List Answer) (m n : Machine) → Calls rows m₀ es xs m → Calls rows n₀ es ys n → AllTaken xs → ys ≡ xs
larger_runs k rows nodes values nodes' values' m₀ n₀ a b d more long = runs_alike k rows nodes values nodes' values' m₀ n₀ a b d more long

-- "From a fresh start, verdicts and kept sets, read as values, don't depend on the facts' order while both orders are taken": two runs of one
-- rule that have taken the same facts, event by event, in whatever order within each. Copies of a fact don't matter. Nothing is asked of k
-- and of the tables, so this is also: "With a larger k, wherever both have taken the same events their verdicts agree."
module _ (k k' : ℕ) (rows nodes values nodes' values' : List ℕ) (m₀ n₀ : Machine) (one : Fresh k rows nodes values m₀) (other : Fresh k' rows nodes' values' n₀)
    (es fs : List Event) (xs ys : List Answer) (m n : Machine) (one-calls : Calls rows m₀ es xs m) (other-calls : Calls rows n₀ fs ys n) (same : SameEvents (taken_in es xs) (taken_in fs ys)) where
  -- at whatever numbers stand for the assignment's values in each run
  pub order_kept : (i : ℕ) → i < length (rule_of rows) → (a : Assignment) (s s' : Bits) → Shows k (shows rows m).lists s a → Shows k' (shows rows n).lists s' a
      → eval (get_or (shows rows m).trees i off) s ≡ eval (get_or (shows rows n).trees i off) s'
  order_kept = same_sets k k' rows nodes values nodes' values' m₀ n₀ one other es fs xs ys m n one-calls other-calls same

  pub order_verdicts : (e f : Event) → SameFacts (facts_of e) (facts_of f) → (y z : Bool) (i r j s : ℕ) (m' n' : Machine) → Call rows m e (Verdict y i r) m' → Call rows n f (Verdict z j s) n' → y ≡ z
  order_verdicts = same_verdict k k' rows nodes values nodes' values' m₀ n₀ one other es fs xs ys m n one-calls other-calls same

-- Demand 3. "Disguised logs: rename values one to one, each constant of the rule to itself and nothing else to a constant. From a fresh start,
-- with the same rule and table sizes ..", whatever the values past a fact's count, and the facts past an event's:
module _ (k : ℕ) (rows nodes values nodes' values' : List ℕ) (m₀ n₀ : Machine) (plain : Fresh k rows nodes values m₀) (hidden : Fresh k rows nodes' values' n₀)
    (same_nodes : length nodes' ≡ length nodes) (same_values : length values' ≡ length values) (same-work : length n₀.work ≡ length m₀.work)
    (es fs : List Event) (π : ℕ → ℕ) (xs ys : List Answer) (m n : Machine) (plain-calls : Calls rows m₀ es xs m) (hidden-calls : Calls rows n₀ fs ys n) where
  -- ".. both logs give, event by event, the same refusals, counts .. and verdicts" ..
  pub same_answers : Disguise (rule_of rows) es π → DisguisedLog π es fs → ys ≡ xs
  same_answers = both_answer k rows nodes values nodes' values' m₀ n₀ plain hidden same_nodes same_values same-work es fs π xs ys m n plain-calls hidden-calls

  -- ".. the same .. diagrams", and "The value lists differ only by the disguise".
  pub same_tables : Disguise (rule_of rows) es π → DisguisedLog π es fs → Alike π rows m n
  same_tables = both_alike k rows nodes values nodes' values' m₀ n₀ plain hidden same_nodes same_values same-work es fs π xs ys m n plain-calls hidden-calls

  -- ".. and those verdicts are QTL's for the undisguised events taken": one more event after any disguised log.
  pub hidden_verdicts : (e f : Event) → Disguise (rule_of rows) (es ++ e ∷ []) π → DisguisedLog π es fs → Disguised π e f → (n' : Machine) (y : Bool) (i r : ℕ) → Call rows n f (Verdict y i r) n'
      → (a : Assignment) → (y ≡ true) ↔ Holds (log (taken_in es xs ++ facts_of e ∷ [])) (formula_at (rule_of rows) (length (rule_of rows) - 1)) (suc (length (taken_in es xs))) a
  hidden_verdicts = hidden_verdict k rows nodes values nodes' values' m₀ n₀ plain hidden same_nodes same_values same-work es fs π xs ys m n plain-calls hidden-calls

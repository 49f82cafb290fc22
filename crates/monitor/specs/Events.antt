-- What an event's parts may assume and promise, test after test. Assumes nothing: these are definitions.
use Rattle.std.specs.Prelude.{ℕ, ◌≡◌, Bool, true, false, ◌&&◌, List, eqb, leb, ltb, length, drop}
use Rattle.trees.specs.Kept.{all_below}
use Rattle.meaning.specs.declared.State.{State}
use Rattle.meaning.specs.declared.Event.{Event}
use Rattle.meaning.specs.Rows.{rule_of, right, check_rows}
use Rattle.meaning.specs.Tables.{list_right}
use Rattle.meaning.specs.Outcome.{k_right, capacity, nodes_right, values_right, work_size, facts_of, count_right, shortest, Machine, shows}
use Rattle.rule.specs.Checking.{Free}
use Rattle.numbers.specs.declared.Asked.{Asked}
use Rattle.numbers.specs.Asking.{Asks}
use Rattle.monitor.specs.declared.Said.{Said}
use Rattle.monitor.specs.Said.{turn_of}
use Rattle.monitor.specs.Calls.{Happens}
use Rattle.monitor.specs.Visits.{Looks}
use Rattle.monitor.specs.Numbered.{Numbers}

-- the parts of refusal 4 that the lists and the count of rows decide
unfoldable pub lists_right : State → ℕ → List ℕ → Bool
lists_right s n values = eqb s.rows n && all_below 4 (list_right s.k s values)

-- the numbers past the first w are as they were, and none is added or lost
pub record Beyond (w : ℕ) (entry exit : List ℕ) : Type 0 where
  pub size : length exit ≡ length entry
  pub rest : drop w exit ≡ drop w entry

-- refusals 1 to 3 do not apply, the count of rows and the lists are right, and the masks are the rule's
pub record Listed (rows masks : List ℕ) (m : Machine) : Type 0 where
  pub k_is_right : k_right m.state.k ≡ true
  pub rule_right : check_rows rows ≡ right
  pub lengths : (nodes_right m.nodes && (values_right m.state.k m.values && leb (work_size (capacity m.nodes)) (length m.work))) ≡ true
  pub lists : lists_right m.state (length (rule_of rows)) m.values ≡ true
  pub free : Free rows masks
  pub counts : length m.state.counts ≡ 4
  pub refs : length m.state.refs ≡ 64
  pub sizes : length m.state.sizes ≡ 64

-- neither refusal 5 nor refusal 6 applies, and this is what the event asks
pub record Asking (rows masks : List ℕ) (m : Machine) (e : Event) (a : Asked) : Type 0 where
  pub listed : Listed rows masks m
  pub count_is_right : count_right (rule_of rows) e ≡ true
  pub enough : ltb (shortest m.state.k (rule_of rows) (shows rows m) (facts_of e)) 4 ≡ false
  pub asks : Asks m.state.k m.state.counts m.values rows e a
  -- an event has an array of eight facts
  pub facts : length e.facts ≡ 8

-- an event of which this was said, and that left these references, sizes and slices, had the outcome of the definitions, and tells its
-- visits and what it newly numbered
pub record Ends (rows : List ℕ) (m : Machine) (e : Event) (said : Said) (refs sizes nodes values work : List ℕ) : Type 0 where
  pub happens : Happens rows m e (turn_of said refs sizes) nodes values work
  pub looks : Looks rows m e said.answer said.complements said.swept
  pub numbers : Numbers rows m e said.answer said.numbered

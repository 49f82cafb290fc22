-- What is decided of an event at each of its tests, and what is then left. Assumes nothing.
use Prim.Native.Nat.{ℕ, ◌<◌}
use mathlib.Core.Path.{◌≡◌}
use mathlib.Core.Bool.{Bool, true, false, ◌&&◌}
use mathlib.Core.List.{List}
use lib.Dec.{leb, ltb}
use lib.ListN.{length}
use borrow.Author.Tests.{lt-ltb}
use Rattle.meaning.specs.declared.Event.{Event}
use Rattle.meaning.specs.declared.Answer.TheVariants.{Refused}
use Rattle.meaning.specs.Rows.{rule_of, right, fault, check_rows}
use Rattle.meaning.specs.Step.{step, room_of}
use Rattle.meaning.specs.Tables.{well_formed}
use Rattle.meaning.specs.Outcome.{k_right, capacity, nodes_right, values_right, work_size, cleared, facts_of, count_right, shortest, taken, refused, judge_start, judge_event, decide_event, Machine, shows, settle_event, event_outcome}

module _ (rows : List ℕ) (m : Machine) (e : Event) where
  -- the tests of an event, by name
  abbrev pub lengths : Bool
  lengths = nodes_right m.nodes && (values_right m.state.k m.values && leb (work_size (capacity m.nodes)) (length m.work))

  abbrev pub formed : Bool
  formed = well_formed m.state.k (capacity m.nodes) (rule_of rows) m.state m.nodes m.values

  abbrev pub short : ℕ
  short = shortest m.state.k (rule_of rows) (shows rows m) (facts_of e)

  abbrev pub fitting : Bool
  fitting = leb (room_of m.state.k (rule_of rows) (shows rows m) (facts_of e) (step m.state.k (rule_of rows) (shows rows m) (facts_of e))) (capacity m.nodes)

  pub decides_1 : k_right m.state.k ≡ false → decide_event rows m e ≡ refused 1 0
  unfolding decide_event judge_start judge_event
  decides_1 a = rw a

  pub decides_2 : k_right m.state.k ≡ true → (p : ℕ) → check_rows rows ≡ fault p → decide_event rows m e ≡ refused 2 p
  unfolding decide_event judge_start judge_event
  decides_2 a p b = rw (a, b)

  pub decides_3 : k_right m.state.k ≡ true → check_rows rows ≡ right → lengths ≡ false → decide_event rows m e ≡ refused 3 0
  unfolding decide_event judge_start judge_event
  decides_3 a b c = rw (a, b, c)

  module _ (a : k_right m.state.k ≡ true) (b : check_rows rows ≡ right) (c : lengths ≡ true) where
    pub decides_4 : formed ≡ false → decide_event rows m e ≡ refused 4 0
    unfolding decide_event judge_start judge_event
    decides_4 d = rw (a, b, c, d)

    pub decides_5 : formed ≡ true → count_right (rule_of rows) e ≡ false → decide_event rows m e ≡ refused 5 0
    unfolding decide_event judge_start judge_event
    decides_5 d f = rw (a, b, c, d, f)

    pub decides_6 : formed ≡ true → count_right (rule_of rows) e ≡ true → short < 4 → decide_event rows m e ≡ refused 6 short
    unfolding decide_event judge_start judge_event
    decides_6 d f g = rw (a, b, c, d, f, lt-ltb _ _ g)

    pub decides_room : formed ≡ true → count_right (rule_of rows) e ≡ true → ltb short 4 ≡ false → (x : Bool) → fitting ≡ x → decide_event rows m e ≡ judge_event taken true true false short x
    unfolding decide_event judge_start
    decides_room d f g x h = rw (a, b, c, d, f, g, h)

  -- a refusal by 1 to 3 leaves everything
  pub leaves_all : (n p : ℕ) → decide_event rows m e ≡ refused n p → leb 4 n ≡ false → event_outcome rows m e ≡ record { answer = Refused n p; left = m }
  unfolding event_outcome settle_event
  leaves_all n p d h = rw (d, h)

  -- a later one clears the work slice
  pub leaves_work : (n p : ℕ) → decide_event rows m e ≡ refused n p → leb 4 n ≡ true
      → event_outcome rows m e ≡ record { answer = Refused n p; left = record { state = m.state; nodes = m.nodes; values = m.values; work = cleared (capacity m.nodes) m.work } }
  unfolding event_outcome settle_event
  leaves_work n p d h = rw (d, h)

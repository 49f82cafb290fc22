-- A run from a fresh start, whatever the tables held before: what it keeps and answers is what the definitions say. Assumes nothing.
use Prim.Native.Nat.{ℕ, ◌<◌}
use mathlib.Core.Path.{◌≡◌}
use mathlib.Core.Bool.{Bool, true}
use mathlib.Core.List.{List, []}
use mathlib.Core.Logic.{◌↔◌}
use lib.ListN.{length, get_or}
use Rattle.trees.specs.Bits.{Bits}
use Rattle.trees.specs.Tree.{off, eval}
use Rattle.meaning.specs.declared.Event.{Event}
use Rattle.meaning.specs.declared.Answer.TheVariants.{Started, Verdict}
use Rattle.meaning.specs.Qtl.{Fact, Assignment, Holds}
use Rattle.meaning.specs.Rows.{rule_of, formula_at, right, check_rows}
use Rattle.meaning.specs.Numbering.{shown, Shows}
use Rattle.meaning.specs.Step.{says_at}
use Rattle.meaning.specs.Outcome.{k_right, capacity, start_outcome, Machine, machine_of, shows, event_outcome, runs, taken_of, log}
use Rattle.meaning.specs.Verdicts.{Sized, Answered}
use Rattle.meaning.proofs.ShownLaws.{shown_shows}
use Rattle.meaning.proofs.RunLaws.{Running, shows_is, runs_all}
use Rattle.meaning.proofs.AnswerLaws.{answered}
use Rattle.meaning.proofs.SizedLaws.{sized_of}
use Rattle.meaning.proofs.StartLaws.{b, m₀, start_running}

module _ (k : ℕ) (rows nodes values work : List ℕ) (started : (start_outcome k rows nodes values).answer ≡ Started) (es : List Event) where
  -- the machine after the events, and the facts of those that were taken
  abbrev pub after : Machine
  after = runs rows (machine_of (start_outcome k rows nodes values) work) es

  abbrev pub facts : List (List Fact)
  facts = taken_of rows (machine_of (start_outcome k rows nodes values) work) es

  pub kr : k_right k ≡ true
  kr = (b k rows nodes values work started).k_is_right

  pub cr : check_rows rows ≡ right
  cr = (b k rows nodes values work started).rows_right

  pub running : Running rows k (capacity nodes) kr cr after facts
  unfolding kr cr
  running = runs_all rows k (capacity nodes) (b k rows nodes values work started).k_is_right (b k rows nodes values work started).rows_right es (m₀ k rows nodes values work started) [] (start_running k rows nodes values work started)

  -- each row's diagram, at any numbers that stand for the values of an assignment
  pub sets : (i : ℕ) → i < length (rule_of rows) → (s : Bits) (a : Assignment) → Shows k (shows rows after).lists s a
      → (eval (get_or (shows rows after).trees i off) s ≡ true) ↔ Holds (log facts) (formula_at (rule_of rows) i) (length facts) a
  sets i h s a w =
      let r = running in
      let e = shows_is rows k (capacity nodes) kr cr after r.s r.laid in
      rw e (unfold formula_at says_at in (r.faithful.means i h).means s a (rw e at w))

  -- the numbers of an assignment stand for its values
  pub own_numbers : (a : Assignment) → Shows k (shows rows after).lists (shown k (shows rows after).lists a) a
  own_numbers a = let r = running in rw (shows_is rows k (capacity nodes) kr cr after r.s r.laid) (shown_shows k r.s.lists a r.laid.proper.enough)

  -- the sizes
  pub sized : Sized rows after
  sized = let r = running in sized_of rows k (capacity nodes) kr cr after r.s r.laid

  -- a verdict
  pub says : (e : Event) (y : Bool) (n r : ℕ) → (event_outcome rows after e).answer ≡ Verdict y n r → Answered rows after e y n r (event_outcome rows after e).left facts
  says e y n r q = answered rows k (capacity nodes) kr cr after facts running e y n r q

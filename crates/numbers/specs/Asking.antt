-- What an event asks, over the lists of `meaning`: what `ask` and its parts promise. Assumes nothing: these are definitions.
use Rattle.std.specs.Prelude.{ℕ, ◌+◌, ◌-◌, ◌*◌, ◌≤◌, ◌<◌, ◌≡◌, true, cond, List, [], ◌++◌, ◌⊎◌, Option, Some, None, length, get_or, take, drop, replicate}
use Rattle.making.specs.declared.Number.{Number}
use Rattle.meaning.specs.declared.Event.{Event}
use Rattle.meaning.specs.declared.Fact.{Fact as Handed}
use Rattle.meaning.specs.declared.State.{State}
use Rattle.meaning.specs.declared.Value.{Value}
use Rattle.meaning.specs.Qtl.{Argument, variable, constant, Fact}
use Rattle.meaning.specs.Rows.{Row, argument_at, row_at, count_of_rows, rule_of, right, check_rows}
use Rattle.meaning.specs.Numbering.{Lists, place, listed, ask, ask_facts}
use Rattle.meaning.specs.Tables.{most, list_of}
use Rattle.meaning.specs.Outcome.{facts_of, count_right}
use Rattle.numbers.specs.declared.Asked.{Asked}
use Rattle.numbers.specs.Matching.{matches_row, arguments_in, Readable}
pub use Rattle.numbers.specs.Matching.{bare}

-- a state with these counts of values: the lists depend on nothing else of it
abbrev pub with_counts : List ℕ → State
with_counts counts = record { k = 0; rows = 0; kept = 0; counts = counts; refs = []; sizes = [] }

-- there is a number, n
abbrev pub numbered : ℕ → Option Number
numbered n = Some (record { 0 = n })

-- the number of a value: its place, where it has one
unfoldable pub number_in : List ℕ → ℕ → Option Number
number_in xs y = cond (listed xs y) (numbered (place xs y)) None

-- the lists L with the fresh values behind them, as many as the counts grew by: those of the variable v stand from 24 * v on
unfoldable pub with_fresh : List ℕ → List ℕ → List ℕ → Lists → Lists
with_fresh before counts fresh L v = L v ++ take (get_or counts v 0 - get_or before v 0) (drop (24 * v) fresh)

-- What was asked from the lists L on shows the lists M: how many values have numbers, and the fresh values. Both are determined.
pub record Listing (before : List ℕ) (L M : Lists) (counts fresh : List ℕ) : Type 0 where
  -- how many values have numbers: at the start, and now
  pub start : (v : ℕ) → v < 4 → length (L v) ≡ get_or before v 0
  pub counted : (v : ℕ) → v < 4 → length (M v) ≡ get_or counts v 0
  pub lists : (v : ℕ) → v < 4 → M v ≡ with_fresh before counts fresh L v
  -- the places past the new values
  pub unused : (v j : ℕ) → v < 4 → j < 24 → get_or counts v 0 ≤ get_or before v 0 + j → get_or fresh (24 * v + j) 0 ≡ 0

-- the row matches the fact, and has the variable v at place j
pub record AsksFor (e : Fact) (r : Row) (v j : ℕ) : Type 0 where
  pub matches : matches_row e r ≡ true
  pub names : get_or (arguments_in r) j (constant 0) ≡ variable v

-- one of the first n rows is such
abbrev pub AskedBy : Fact → List ℕ → ℕ → ℕ → ℕ → Type 0
AskedBy e raw n v j = (i : ℕ) × (i < n) × AsksFor e (row_at raw i) v j

-- the fact f of an event
unfoldable pub fact_at : Event → ℕ → Fact
fact_at e f = get_or (facts_of e) f (record { predicate = 0; values = [] })

-- the number that the variable v has for value j of the fact f
unfoldable pub number_at : List (Option Number) → ℕ → ℕ → ℕ → Option Number
number_at given f v j = get_or given (12 * f + (3 * v + j)) None

-- the lists before an event, and after it
abbrev pub lists_before : ℕ → List ℕ → List ℕ → Lists
lists_before k before values = list_of k (with_counts before) values

abbrev pub lists_after : ℕ → List ℕ → List ℕ → List ℕ → Event → Lists
lists_after k before values rows e = ask_facts (facts_of e) (lists_before k before values) (rule_of rows)

-- What `ask` promises: the lists are those of the walk, fact by fact, and the numbers that matching atoms ask for are given, and no others.
-- The counts, the fresh values and the numbers are determined.
pub record Asks (k : ℕ) (before values rows : List ℕ) (e : Event) (a : Asked) : Type 0 where
  pub listing : Listing before (lists_before k before values) (lists_after k before values rows e) a.counts (bare a.fresh)
  -- a fact asks up to three numbers for one variable, and an event has up to eight facts
  pub few : (v : ℕ) → v < 4 → get_or a.counts v 0 ≤ get_or before v 0 + 24
  pub asked : (f v j : ℕ) → f < e.count → v < 4 → AskedBy (fact_at e f) rows (count_of_rows rows) v j
      → (j < 3) × (number_at a.given f v j ≡ numbered (place (lists_after k before values rows e v) (get_or (fact_at e f).values j 0)))
  pub only : (f v j : ℕ) → f < 8 → v < 4 → j < 3 → (number_at a.given f v j ≡ None → ⊥) → (f < e.count) × AskedBy (fact_at e f) rows (count_of_rows rows) v j

-- what `ask` may assume
pub record Askable (k : ℕ) (before values rows : List ℕ) (e : Event) : Type 0 where
  pub bits : k ≤ 10
  pub counts : (v : ℕ) → v < 4 → get_or before v 0 ≤ most k
  pub parts : length values ≡ 4 * most k
  pub checked : check_rows rows ≡ right
  pub agreed : count_right (rule_of rows) e ≡ true

-- What is written down while a fact asks: the counts, the event's fresh values, and at 3 * v + j the number of v's for the fact's value j.
pub record Sheet : Type 0 where
  pub counts : List ℕ
  pub fresh : List ℕ
  pub numbers : List (Option Number)

abbrev pub sheet : List ℕ → List Value → List (Option Number) → Sheet
sheet counts fresh numbers = record { counts = counts; fresh = bare fresh; numbers = numbers }

-- before a fact asks anything
abbrev pub nothing_given : List (Option Number)
nothing_given = replicate 12 None

-- the fact's value j has a number of v's
abbrev pub Given : Sheet → ℕ → ℕ → Type 0
Given a v j = get_or a.numbers (3 * v + j) None ≡ None → ⊥

-- the sheet shows the lists M, and a number that is given is the value's
pub record Tally (before : List ℕ) (L M : Lists) (ys : List ℕ) (a : Sheet) : Type 0 where
  pub listing : Listing before L M a.counts a.fresh
  pub numbers : (v j : ℕ) → v < 4 → j < 3 → Given a v j → get_or a.numbers (3 * v + j) None ≡ number_in (M v) (get_or ys j 0)

-- 1 where there is no number
unfoldable pub vacant : Option Number → ℕ
vacant None = 1
vacant (Some n) = 0

-- how many of the fact's three places have no number of v's
unfoldable pub vacancies : List (Option Number) → ℕ → ℕ
vacancies ns v = vacant (get_or ns (3 * v + 0) None) + (vacant (get_or ns (3 * v + 1) None) + vacant (get_or ns (3 * v + 2) None))

-- There is a place for each number that the fact can still ask.
pub record Steady (before : List ℕ) (a : Sheet) : Type 0 where
  pub four : length a.counts ≡ 4
  pub places : length a.fresh ≡ 96
  pub dozen : length a.numbers ≡ 12
  pub first : (v : ℕ) → v < 4 → get_or before v 0 ≤ 1023
  pub grown : (v : ℕ) → v < 4 → get_or before v 0 ≤ get_or a.counts v 0
  pub room : (v : ℕ) → v < 4 → get_or a.counts v 0 + vacancies a.numbers v ≤ get_or before v 0 + 24

-- Between a and r the lists went from M to f M, and the pairs of a variable and a place that got numbers are those of P. A number that is
-- new fills a vacancy.
pub record Carried (before : List ℕ) (L : Lists) (ys : List ℕ) (f : Lists → Lists) (P : ℕ → ℕ → Type 0) (a r : Sheet) : Type 0 where
  pub steady : Steady before r
  pub fewer : (v : ℕ) → v < 4 → get_or r.counts v 0 + vacancies r.numbers v ≤ get_or a.counts v 0 + vacancies a.numbers v
  pub lists : (M : Lists) → Tally before L M ys a → Tally before L (f M) ys r
  pub kept : (v j : ℕ) → v < 4 → j < 3 → Given a v j → Given r v j
  pub asked : (v j : ℕ) → v < 4 → j < 3 → P v j → Given r v j
  pub only : (v j : ℕ) → v < 4 → j < 3 → Given r v j → Given a v j ⊎ P v j

-- the pair of v and j; those of the argument at place j of row i, and of its first n arguments
abbrev pub Pair : ℕ → ℕ → ℕ → ℕ → Type 0
Pair v j w i = (w ≡ v) × (i ≡ j)

abbrev pub AtPlace : List ℕ → ℕ → ℕ → ℕ → ℕ → Type 0
AtPlace raw i j v k = (argument_at raw i j ≡ variable v) × (k ≡ j)

abbrev pub AtPlaces : List ℕ → ℕ → ℕ → ℕ → ℕ → Type 0
AtPlaces raw i n v k = (argument_at raw i k ≡ variable v) × (k < n)

-- one argument asks
unfoldable pub ask_one : Argument → ℕ → Lists → Lists
ask_one (variable v) y M = ask M v y
ask_one (constant c) y M = M

-- the row at place i can be read, and its variables are the four
pub record Asking (raw : List ℕ) (i : ℕ) (e : Handed) : Type 0 where
  pub readable : Readable raw i e
  pub variables : (j : ℕ) → j < e.count → get_or raw (9 * i + (3 + 2 * j)) 0 ≡ 0 → get_or raw (9 * i + (4 + 2 * j)) 0 < 4

-- the twelve numbers of the fact f stand at their places, and the other places are as they were
pub record Put (f : ℕ) (numbers given r : List (Option Number)) : Type 0 where
  pub size : length r ≡ length given
  pub here : (t : ℕ) → t < 12 → get_or r (12 * f + t) None ≡ get_or numbers t None
  pub there : (g t : ℕ) → (g ≡ f → ⊥) → t < 12 → get_or r (12 * g + t) None ≡ get_or given (12 * g + t) None

-- a value slice of four parts of m numbers each, with a count of values for each part
pub record Parted (m : ℕ) (counts values : List ℕ) : Type 0 where
  pub small : m ≤ 1023
  pub counts_fit : (v : ℕ) → v < 4 → get_or counts v 0 ≤ m
  pub whole : length values ≡ 4 * m

-- the values of the part v
unfoldable pub part_of : ℕ → List ℕ → List ℕ → Lists
part_of m counts values v = take (get_or counts v 0) (drop (v * m) values)

-- What is told of words one after the other: events, each with the word and the mode at which it comes. Assumes nothing: these are definitions.
use Rattle.std.specs.Prelude.{ℕ, ◌+◌, ◌≤◌, Bool, true, false, ◌||◌, List, [], ◌∷◌, ◌++◌, eqb, ltb, length, drop}
use Rattle.text.specs.Words.{Word, name, number, constant, prefix, binary, quantifier, opening, closing, comma, dot}
use Rattle.text.specs.Grammar.{Term, variable, digits, Reading, truth, atom, under, joined, quantified, grouped}
use Rattle.text.specs.Unfold.{value_after}
use Rattle.spelling.specs.Codes.{kind_of, mode_after, Spells}

-- the text spells words from the place on
pub record Lexed (text : List ℕ) (at : ℕ) : Type 0 where
  pub inside : at ≤ length text
  pub words : List Word
  pub spells : Spells words (drop at text)

-- commas up to the next `)`, and the arguments after a name
unfoldable pub comma_of : Word → ℕ
comma_of w = elim (eqb (kind_of w) 8) [ true ↦ 1 | false ↦ 0 ]

unfoldable pub commas_in : List Word → ℕ
commas_in [] = 0
commas_in (w ∷ ws) = elim (eqb (kind_of w) 7) [ true ↦ 0 | false ↦ comma_of w + commas_in ws ]

unfoldable pub arguments_in : List Word → ℕ
arguments_in [] = 0
arguments_in (w ∷ ws) = elim (eqb (kind_of w) 6) [ true ↦ commas_in ws + 1 | false ↦ 0 ]

-- an atom's name with the count of its arguments; a variable as an argument; a constant; a quantifier's variable; a parenthesis
pub data Event : Type 0 where
  call : List ℕ → ℕ → Event
  uses : List ℕ → Event
  value : List ℕ → Event
  binds : List ℕ → Event
  opens closes : Event

-- what a name is, by the mode: an atom's where an operand must come, a quantifier's, an argument
unfoldable pub named : ℕ → List ℕ → ℕ → List Event
named m x n = elim (eqb m 0) [ true ↦ call x n ∷ [] | false ↦ elim (eqb m 3) [ true ↦ binds x ∷ [] | false ↦ elim (eqb m 5) [ true ↦ uses x ∷ [] | false ↦ [] ] ] ]

-- the event of a word, if any
unfoldable pub event_of : ℕ → Word → List Word → List Event
event_of m (name x) ws = named m x (arguments_in ws)
event_of m (number ds) ws = value ds ∷ []
event_of m (constant b) ws = []
event_of m (prefix o) ws = []
event_of m (binary o) ws = []
event_of m (quantifier q) ws = []
event_of m opening ws = elim (eqb m 0) [ true ↦ opens ∷ [] | false ↦ [] ]
event_of m closing ws = elim (eqb m 6) [ true ↦ [] | false ↦ closes ∷ [] ]
event_of m comma ws = []
event_of m dot ws = []

unfoldable pub events : ℕ → List Word → List Event
events m [] = []
events m (w ∷ ws) = event_of m w ws ++ events (mode_after m w) ws

-- the events of a reading
unfoldable pub term_events : List Term → List Event
term_events [] = []
term_events (variable x ∷ gs) = uses x ∷ term_events gs
term_events (digits ds ∷ gs) = value ds ∷ term_events gs

unfoldable pub events_of : Reading → List Event
events_of (truth b) = []
events_of (atom p gs) = call p (length gs) ∷ term_events gs
events_of (under o f) = events_of f
events_of (joined o f g) = events_of f ++ events_of g
events_of (quantified q x f) = binds x ∷ events_of f
events_of (grouped f) = opens ∷ (events_of f ++ (closes ∷ []))

-- refusals 4 and 5 by events
unfoldable pub large : List ℕ → Bool
large ds = ltb 4294967295 (value_after 0 ds)

unfoldable pub large_in : List Event → Bool
large_in [] = false
large_in (call p n ∷ es) = large_in es
large_in (uses x ∷ es) = large_in es
large_in (value ds ∷ es) = large ds || large_in es
large_in (binds x ∷ es) = large_in es
large_in (opens ∷ es) = large_in es
large_in (closes ∷ es) = large_in es

unfoldable pub many_in : List Event → Bool
many_in [] = false
many_in (call p n ∷ es) = ltb 3 n || many_in es
many_in (uses x ∷ es) = many_in es
many_in (value ds ∷ es) = many_in es
many_in (binds x ∷ es) = many_in es
many_in (opens ∷ es) = many_in es
many_in (closes ∷ es) = many_in es

-- the names of predicates, or of variables, in order
unfoldable pub named_by : Bool → Event → List (List ℕ)
named_by true (call p n) = p ∷ []
named_by true (uses x) = []
named_by true (value ds) = []
named_by true (binds x) = []
named_by true opens = []
named_by true closes = []
named_by false (call p n) = []
named_by false (uses x) = x ∷ []
named_by false (value ds) = []
named_by false (binds x) = x ∷ []
named_by false opens = []
named_by false closes = []

unfoldable pub names_in : Bool → List Event → List (List ℕ)
names_in b [] = []
names_in b (e ∷ es) = named_by b e ++ names_in b es

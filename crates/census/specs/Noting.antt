-- What the passes over names answer. Assumes nothing: these are definitions.
use Rattle.std.specs.Prelude.{ℕ, ◌+◌, ◌≤◌, ◌<◌, ◌≡◌, Bool, true, false, List, length, take, Option, Some, None}
use Rattle.text.specs.Grammar.{Reading, RuleText}
use Rattle.text.specs.Unfold.{uses_after, predicate_names, variable_names}
use Rattle.census.specs.declared.spans.Span.{Span}
use Rattle.census.specs.declared.names.Wanted.{Wanted}
use Rattle.census.specs.declared.names.Wanted.TheVariants.{Predicates, Variables}
use Rattle.census.specs.Tables.{names_at, Table}

-- names of predicates are wanted
abbrev pub predicates : Wanted → Bool
predicates Predicates = true
predicates Variables = false

-- a name more, unless it is not asked for or is there
pub record NotedIn (text : List ℕ) (spans : List Span) (n : ℕ) (xs : List (List ℕ)) (spans' : List Span) (r : ℕ) : Type 0 where
  pub same : length spans' ≡ length spans
  pub near : r ≤ n + 1
  pub room : r ≤ length spans'
  pub table : Table text (take r spans')
  pub names : names_at text (take r spans') ≡ uses_after (names_at text (take n spans)) xs

-- or none where the table is full
abbrev pub Noted : List ℕ → List Span → ℕ → List (List ℕ) → List Span → Option ℕ → Type 0
Noted text spans n xs spans' None = (n ≡ length spans) × (length spans' ≡ length spans) × (length spans < length (uses_after (names_at text (take n spans)) xs))
Noted text spans n xs spans' (Some r) = NotedIn text spans n xs spans' r

-- the names of predicates, or of variables
unfoldable pub names_for : Bool → Reading → List (List ℕ)
names_for true f = predicate_names f
names_for false f = variable_names f

-- the names
pub record Told (predicates : Bool) (text : List ℕ) (spans : List Span) (r : ℕ) : Type 0 where
  pub few : r ≤ length text
  pub room : r ≤ length spans
  pub table : Table text (take r spans)
  pub names : (f : Reading) → RuleText text f → names_at text (take r spans) ≡ names_for predicates f

-- or more than there is room for
pub record Over (predicates : Bool) (text : List ℕ) (spans : List Span) : Type 0 where
  pub few : length spans < length text
  pub over : (f : Reading) → RuleText text f → length spans < length (names_for predicates f)

abbrev pub ToldNames : Bool → List ℕ → List Span → Option ℕ → Type 0
ToldNames predicates text spans None = Over predicates text spans
ToldNames predicates text spans (Some r) = Told predicates text spans r

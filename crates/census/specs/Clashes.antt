-- Names with the counts of their arguments, and refusal 7 by them. Assumes nothing: these are definitions.
use Rattle.std.specs.Prelude.{ℕ, ◌-◌, ◌≤◌, ◌<◌, ◌≡◌, Bool, true, false, not, ◌||◌, List, [], ◌∷◌, eqb, take, drop, get_or, set, length, Option, Some, None}
use Rattle.text.specs.Words.{Word, same}
use Rattle.text.specs.Grammar.{Reading, RuleText}
use Rattle.text.specs.Unfold.{atoms, number_in, predicate_names}
use Rattle.text.specs.Translate.{clashes}
use Rattle.spelling.specs.Codes.{Spells}
use Rattle.census.specs.Folds.{arguments_in, Event, call, uses, value, binds, opens, closes}
use Rattle.census.specs.declared.spans.Span.{Span}
use Rattle.census.specs.Tables.{names_at}

-- an atom's name and the count of its arguments
pub record Call : Type 0 where
  pub called : List ℕ
  pub count : ℕ

unfoldable pub calls_in : List Event → List Call
calls_in [] = []
calls_in (call p n ∷ es) = record { called = p; count = n } ∷ calls_in es
calls_in (uses x ∷ es) = calls_in es
calls_in (value ds ∷ es) = calls_in es
calls_in (binds x ∷ es) = calls_in es
calls_in (opens ∷ es) = calls_in es
calls_in (closes ∷ es) = calls_in es

-- a call has the name; the count of the first that has it
unfoldable pub seen : List Call → List ℕ → Bool
seen [] p = false
seen (c ∷ cs) p = same c.called p || seen cs p

unfoldable pub count_in : List Call → List ℕ → ℕ
count_in [] p = 0
count_in (c ∷ cs) p = elim (same c.called p) [ true ↦ c.count | false ↦ count_in cs p ]

-- the calls among these whose count is another
unfoldable pub any_clash : List Call → List Call → Bool
any_clash all [] = false
any_clash all (c ∷ cs) = not (eqb c.count (count_in all c.called)) || any_clash all cs

-- the count noted for a name, or none
unfoldable pub marking : Bool → ℕ → Option ℕ
marking true c = Some c
marking false c = None

unfoldable pub mark_of : List Call → List ℕ → Option ℕ
mark_of cs p = marking (seen cs p) (count_in cs p)

-- a count is noted at a number where none was, or compared with the one that was noted
abbrev pub Compared : Option ℕ → ℕ → ℕ → List (Option ℕ) → List (Option ℕ) → Bool → Type 0
Compared None i m counts counts' r = (counts' ≡ set counts i (Some m)) × (r ≡ false)
Compared (Some c) i m counts counts' r = (counts' ≡ counts) × (r ≡ not (eqb c m))

-- where a name's is asked for
abbrev pub Settled : List ℕ → List (List ℕ) → Bool → ℕ → ℕ → List (Option ℕ) → List (Option ℕ) → Bool → Type 0
Settled text names false from past counts counts' r = (counts' ≡ counts) × (r ≡ false)
Settled text names true from past counts counts' r =
    (ws : List Word) → Spells ws (drop past text)
    → (arguments_in ws < 65535)
    × Compared (get_or counts (number_in names (take (past - from) (drop from text))) None) (number_in names (take (past - from) (drop from text))) (arguments_in ws) counts counts' r

-- the table has the names of predicates
pub record Predicates (text : List ℕ) (spans : List Span) : Type 0 where
  pub few : length spans ≤ 4096
  pub names : (f : Reading) → RuleText text f → names_at text spans ≡ predicate_names f

-- refusal 7
abbrev pub ToldClash : List ℕ → Bool → Type 0
ToldClash text r = (f : Reading) → RuleText text f → r ≡ clashes (atoms f)

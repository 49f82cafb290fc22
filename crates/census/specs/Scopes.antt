-- Free variables by events: for each name the depth at which it is bound, counted from 1, and 0 where it is not. Assumes nothing: these are definitions.
use Rattle.std.specs.Prelude.{ℕ, suc, ◌+◌, ◌-◌, ◌≤◌, ◌<◌, ◌≡◌, Bool, true, false, ◌||◌, List, [], ◌∷◌, ◌++◌, eqb, ltb, length, get_or, Option, Some, None}
use Rattle.text.specs.Words.{same}
use Rattle.text.specs.Grammar.{Reading, RuleText}
use Rattle.text.specs.Unfold.{number_in, variable_names}
use Rattle.text.specs.Scope.{loose}
use Rattle.census.specs.Folds.{Event, call, uses, value, binds, opens, closes}
use Rattle.census.specs.declared.spans.Span.{Span}
use Rattle.census.specs.Tables.{names_at}

-- a binding once the depth is d
unfoldable pub lowered : ℕ → ℕ → ℕ
lowered d s = elim (ltb d s) [ true ↦ 0 | false ↦ s ]

-- a binding at depth d, unless there is one
unfoldable pub binding_at : ℕ → Bool → ℕ → ℕ
binding_at d true s = elim (eqb s 0) [ true ↦ d | false ↦ s ]
binding_at d false s = s

abbrev pub bind_in : ℕ → List ℕ → (List ℕ → ℕ) → List ℕ → ℕ
bind_in d x env y = binding_at d (same x y) (env y)

abbrev pub close_in : ℕ → (List ℕ → ℕ) → List ℕ → ℕ
close_in d env y = lowered d (env y)

-- some variable comes that is not bound
unfoldable pub loose_in : ℕ → (List ℕ → ℕ) → List Event → Bool
loose_in d env [] = false
loose_in d env (call p n ∷ es) = loose_in d env es
loose_in d env (uses x ∷ es) = eqb (env x) 0 || loose_in d env es
loose_in d env (value ds ∷ es) = loose_in d env es
loose_in d env (binds x ∷ es) = loose_in d (bind_in d x env) es
loose_in d env (opens ∷ es) = loose_in (suc d) env es
loose_in d env (closes ∷ es) = loose_in (d - 1) (close_in (d - 1) env) es

-- what a word is: a name, `(`, `)` or another, where an operand, a variable, an argument or `,` must come, or none of these
unfoldable pub name_event : Bool → Bool → List ℕ → List Event
name_event true argument x = binds x ∷ []
name_event false true x = uses x ∷ []
name_event false false x = []

unfoldable pub chosen : Bool → Bool → Bool → Bool → Bool → Bool → Bool → List ℕ → List Event
chosen true opening closing operand slot argument separator x = name_event slot argument x
chosen false true closing true slot argument separator x = opens ∷ []
chosen false true closing false slot argument separator x = []
chosen false false true operand slot argument true x = []
chosen false false true operand slot argument false x = closes ∷ []
chosen false false false operand slot argument separator x = []

unfoldable pub scope_event : ℕ → ℕ → List ℕ → List Event
scope_event mode code x = chosen (eqb code 0) (eqb code 14) (eqb code 15) (eqb mode 0) (eqb mode 3) (eqb mode 5) (eqb mode 6) x

-- the names are different
abbrev pub Distinct : List (List ℕ) → Type 0
Distinct ns = (j : ℕ) → j < length ns → number_in ns (get_or ns j []) ≡ j

-- the four depths are lowered
abbrev pub Lowered : ℕ → List ℕ → List ℕ → Type 0
Lowered d since since' = length since ≡ 4 → (length since' ≡ 4) × ((v : ℕ) → v < 4 → get_or since' v 0 ≡ lowered d (get_or since v 0))

-- the numbers show the depths of the names
abbrev pub Scoped : List (List ℕ) → List ℕ → (List ℕ → ℕ) → Type 0
Scoped names since env = (v : ℕ) → v < length names → get_or since v 0 ≡ env (get_or names v [])

-- an event comes
pub record After (names : List (List ℕ)) (now : List Event) (since' : List ℕ) (d d' : ℕ) (r : Bool) (env : List ℕ → ℕ) : Type 0 where
  pub env' : List ℕ → ℕ
  pub scoped : Scoped names since' env'
  pub tells : (es : List Event) → loose_in d env (now ++ es) ≡ (r || loose_in d' env' es)

pub record Enters (names : List (List ℕ)) (now : List Event) (since since' : List ℕ) (d d' : ℕ) (r : Bool) : Type 0 where
  pub near : d' ≤ d + 1
  pub sized : length since ≡ 4 → length since' ≡ 4
  pub after : (env : List ℕ → ℕ) → length since ≡ 4 → Distinct names → Scoped names since env → After names now since' d d' r env

-- an event comes, and a depth is left, or none after a variable that is not bound
abbrev pub EntersTo : List (List ℕ) → List Event → List ℕ → List ℕ → ℕ → Option ℕ → Type 0
EntersTo names now since since' d None = Enters names now since since' d d true
EntersTo names now since since' d (Some d') = Enters names now since since' d d' false

-- the table has the names of variables
pub record Variables (text : List ℕ) (spans : List Span) : Type 0 where
  pub few : length spans ≤ 4
  pub names : (f : Reading) → RuleText text f → names_at text spans ≡ variable_names f

-- refusal 8
abbrev pub ToldLoose : List ℕ → Bool → Type 0
ToldLoose text r = (f : Reading) → RuleText text f → r ≡ loose [] f

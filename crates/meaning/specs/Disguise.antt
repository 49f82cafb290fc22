-- Disguised logs: demand 3's renaming. Assumes nothing: these are definitions.
use Rattle.std.specs.Prelude.{ℕ, ◌≡◌, Bool, true, false, ◌||◌, List, [], ◌∷◌, ◌++◌, map, eqb}
use Rattle.meaning.specs.declared.Event.{Event}
use Rattle.meaning.specs.declared.Fact.{Fact as Given}
use Rattle.meaning.specs.Qtl.{Argument, variable, constant, Fact}
use Rattle.meaning.specs.Rows.{Row, truth, atom, both, neg, since, previous, exists}
use Rattle.meaning.specs.Outcome.{fact_of, given, facts_of, Each, Machine, shows}

-- whether a value is in a list
unfoldable pub among : ℕ → List ℕ → Bool
among x [] = false
among x (y ∷ ys) = eqb x y || among x ys

-- the values that the events use
unfoldable pub used_in : List Fact → List ℕ
used_in [] = []
used_in (f ∷ fs) = f.values ++ used_in fs

unfoldable pub used : List Event → List ℕ
used [] = []
used (e ∷ es) = used_in (facts_of e) ++ used es

-- the rule's constants
unfoldable pub constants_in : List Argument → List ℕ
constants_in [] = []
constants_in (variable v ∷ gs) = constants_in gs
constants_in (constant c ∷ gs) = c ∷ constants_in gs

unfoldable pub constants : List Row → List ℕ
constants [] = []
constants (truth ∷ rs) = constants rs
constants (atom p gs ∷ rs) = constants_in gs ++ constants rs
constants (both l r ∷ rs) = constants rs
constants (neg r ∷ rs) = constants rs
constants (since l r ∷ rs) = constants rs
constants (previous r ∷ rs) = constants rs
constants (exists x r ∷ rs) = constants rs

-- "rename values one to one, each constant of the rule to itself and nothing else to a constant"
pub record Disguise (rule : List Row) (es : List Event) (π : ℕ → ℕ) : Type 0 where
  pub one : (x y : ℕ) → among x (used es) ≡ true → among y (used es) ≡ true → π x ≡ π y → x ≡ y
  pub keeps : (c : ℕ) → among c (constants rule) ≡ true → π c ≡ c
  pub else : (x c : ℕ) → among x (used es) ≡ true → among c (constants rule) ≡ true → π x ≡ c → x ≡ c

-- a fact, disguised, and an event: "Demand 3 renames all facts alike."
unfoldable pub disguised_given : (ℕ → ℕ) → Given → Given
disguised_given π f = record { predicate = f.predicate; count = f.count; values = map (λ v. record { 0 = π v.0 }) f.values }

unfoldable pub disguised : (ℕ → ℕ) → Event → Event
disguised π e = record { count = e.count; facts = map (disguised_given π) e.facts }

unfoldable pub disguised_fact : (ℕ → ℕ) → Fact → Fact
disguised_fact π f = record { predicate = f.predicate; values = map π f.values }

-- g is the fact f in disguise: "Values past an event's count are ignored", so g may have any there
abbrev pub HiddenFact : (ℕ → ℕ) → Given → Given → Type 0
HiddenFact π f g = (fact_of g ≡ disguised_fact π (fact_of f)) × (g.count ≡ f.count)

-- f is e in disguise, fact by fact; facts past the count are ignored too
abbrev pub Disguised : (ℕ → ℕ) → Event → Event → Type 0
Disguised π e f = (f.count ≡ e.count) × Each (HiddenFact π) (given e) (given f)

-- a log in disguise, event by event
unfoldable pub DisguisedLog : (ℕ → ℕ) → List Event → List Event → Type 0
DisguisedLog π [] [] = Unit {0}
DisguisedLog π [] (f ∷ fs) = ⊥
DisguisedLog π (e ∷ es) [] = ⊥
DisguisedLog π (e ∷ es) (f ∷ fs) = Disguised π e f × DisguisedLog π es fs

-- two machines that show the same but for the disguise: "The value lists differ only by the disguise"
pub record Alike (π : ℕ → ℕ) (rows : List ℕ) (m n : Machine) : Type 0 where
  pub states : n.state ≡ m.state
  pub node_slices : n.nodes ≡ m.nodes
  pub lists : (v : ℕ) → (shows rows n).lists v ≡ map π ((shows rows m).lists v)

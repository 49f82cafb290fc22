-- The formula of a reading: names get numbers and slots in order of first use, and derived operators unfold as in document 002
-- section 2. Part of the meaning. Assumes nothing: these are definitions.
use Rattle.std.specs.Prelude.{ℕ, suc, ◌+◌, ◌-◌, ◌*◌, Bool, true, false, ◌||◌, List, [], ◌∷◌, ◌++◌, map}
use Rattle.meaning.specs.Qtl.{Argument, Formula}
use Rattle.meaning.specs.Qtl
use Rattle.text.specs.Words.{same, Prefix, once, historically, previously, negation, Binary, sinces, ands, ors, implies, Quantifier, universal, existential}
use Rattle.text.specs.Grammar.{Term, variable, digits, Reading, truth, atom, under, joined, quantified, grouped}

-- the number that digits write after the digits of n
unfoldable pub value_after : ℕ → List ℕ → ℕ
value_after n [] = n
value_after n (d ∷ ds) = value_after (n * 10 + (d - 48)) ds

-- an atom as it is written: a name and its arguments
pub record Atom : Type 0 where
  pub called : List ℕ
  pub terms : List Term

-- the atoms of a reading, in order
unfoldable pub atoms : Reading → List Atom
atoms (truth b) = []
atoms (atom p gs) = record { called = p; terms = gs } ∷ []
atoms (under o f) = atoms f
atoms (joined o f g) = atoms f ++ atoms g
atoms (quantified q x f) = atoms f
atoms (grouped f) = atoms f

-- the variables of arguments, and of a reading, in order; a quantifier's own mention is a use
unfoldable pub term_variables : List Term → List (List ℕ)
term_variables [] = []
term_variables (variable x ∷ gs) = x ∷ term_variables gs
term_variables (digits ds ∷ gs) = term_variables gs

unfoldable pub variables : Reading → List (List ℕ)
variables (truth b) = []
variables (atom p gs) = term_variables gs
variables (under o f) = variables f
variables (joined o f g) = variables f ++ variables g
variables (quantified q x f) = x ∷ variables f
variables (grouped f) = variables f

-- the list has the name
unfoldable pub listed : List (List ℕ) → List ℕ → Bool
listed [] x = false
listed (y ∷ ys) x = same y x || listed ys x

-- each name once, in order of first use, after those that are there
unfoldable pub uses_after : List (List ℕ) → List (List ℕ) → List (List ℕ)
uses_after done [] = done
uses_after done (x ∷ xs) = uses_after (elim (listed done x) [ true ↦ done | false ↦ done ++ (x ∷ []) ]) xs

unfoldable pub first_uses : List (List ℕ) → List (List ℕ)
first_uses xs = uses_after [] xs

-- the number of a name: its place in the list
unfoldable pub number_in : List (List ℕ) → List ℕ → ℕ
number_in [] x = 0
number_in (y ∷ ys) x = elim (same y x) [ true ↦ 0 | false ↦ suc (number_in ys x) ]

-- the predicates and the variables of a reading, "from 0 in order of first use"
unfoldable pub predicate_names : Reading → List (List ℕ)
predicate_names f = first_uses (map (λ (a : Atom). a.called) (atoms f))

unfoldable pub variable_names : Reading → List (List ℕ)
variable_names f = first_uses (variables f)

-- an argument, variables by their slots
unfoldable pub argument_in : List (List ℕ) → Term → Argument
argument_in vs (variable x) = Qtl.variable (number_in vs x)
argument_in vs (digits ds) = Qtl.constant (value_after 0 ds)

-- "Derived operators unfold as in document 002 section 2"
unfoldable pub either : Formula → Formula → Formula
either f g = Qtl.neg (Qtl.both (Qtl.neg f) (Qtl.neg g))

unfoldable pub prefixed : Prefix → Formula → Formula
prefixed once f = Qtl.since Qtl.truth f
prefixed historically f = Qtl.neg (Qtl.since Qtl.truth (Qtl.neg f))
prefixed previously f = Qtl.previous f
prefixed negation f = Qtl.neg f

unfoldable pub connected : Binary → Formula → Formula → Formula
connected sinces f g = Qtl.since f g
connected ands f g = Qtl.both f g
connected ors f g = either f g
connected implies f g = either (Qtl.neg f) g

unfoldable pub quantify : Quantifier → ℕ → Formula → Formula
quantify existential v f = Qtl.exists v f
quantify universal v f = Qtl.neg (Qtl.exists v (Qtl.neg f))

-- `true` is truth, and `false` its negation
unfoldable pub constant_of : Bool → Formula
constant_of true = Qtl.truth
constant_of false = Qtl.neg Qtl.truth

-- the unfolded formula of a reading, over the names of predicates and variables
unfoldable pub unfolded : List (List ℕ) → List (List ℕ) → Reading → Formula
unfolded ps vs (truth b) = constant_of b
unfolded ps vs (atom p gs) = Qtl.atom (number_in ps p) (map (argument_in vs) gs)
unfolded ps vs (under o f) = prefixed o (unfolded ps vs f)
unfolded ps vs (joined o f g) = connected o (unfolded ps vs f) (unfolded ps vs g)
unfolded ps vs (quantified q x f) = quantify q (number_in vs x) (unfolded ps vs f)
unfolded ps vs (grouped f) = unfolded ps vs f

-- the text's formula
unfoldable pub formula_of : Reading → Formula
formula_of f = unfolded (predicate_names f) (variable_names f) f

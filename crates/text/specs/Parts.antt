-- The rows of a formula: its different parts in order, and the row of each. Part of the meaning. Assumes nothing: these are definitions.
use Rattle.std.specs.Prelude.{ℕ, zero, suc, Bool, true, false, ◌&&◌, ◌||◌, List, [], ◌∷◌, ◌++◌, map, eqb, length}
use Rattle.meaning.specs.Qtl.{Argument, variable, constant, Formula, truth, atom, both, neg, since, previous, exists}
use Rattle.meaning.specs.Rows.{Row}
use Rattle.meaning.specs.Rows

-- two arguments, and two lists of them, are the same
unfoldable pub same_argument : Argument → Argument → Bool
same_argument (variable x) (variable y) = eqb x y
same_argument (variable x) (constant y) = false
same_argument (constant x) (variable y) = false
same_argument (constant x) (constant y) = eqb x y

unfoldable pub same_arguments : List Argument → List Argument → Bool
same_arguments [] [] = true
same_arguments [] (h ∷ hs) = false
same_arguments (g ∷ gs) [] = false
same_arguments (g ∷ gs) (h ∷ hs) = same_argument g h && same_arguments gs hs

-- two formulas are the same
unfoldable pub same_formula : Formula → Formula → Bool
same_formula truth truth = true
same_formula truth (atom bn0 bgs1) = false
same_formula truth (both bf0 bf1) = false
same_formula truth (neg bf0) = false
same_formula truth (since bf0 bf1) = false
same_formula truth (previous bf0) = false
same_formula truth (exists bn0 bf1) = false
same_formula (atom an0 ags1) truth = false
same_formula (atom an0 ags1) (atom bn0 bgs1) = eqb an0 bn0 && same_arguments ags1 bgs1
same_formula (atom an0 ags1) (both bf0 bf1) = false
same_formula (atom an0 ags1) (neg bf0) = false
same_formula (atom an0 ags1) (since bf0 bf1) = false
same_formula (atom an0 ags1) (previous bf0) = false
same_formula (atom an0 ags1) (exists bn0 bf1) = false
same_formula (both af0 af1) truth = false
same_formula (both af0 af1) (atom bn0 bgs1) = false
same_formula (both af0 af1) (both bf0 bf1) = same_formula af0 bf0 && same_formula af1 bf1
same_formula (both af0 af1) (neg bf0) = false
same_formula (both af0 af1) (since bf0 bf1) = false
same_formula (both af0 af1) (previous bf0) = false
same_formula (both af0 af1) (exists bn0 bf1) = false
same_formula (neg af0) truth = false
same_formula (neg af0) (atom bn0 bgs1) = false
same_formula (neg af0) (both bf0 bf1) = false
same_formula (neg af0) (neg bf0) = same_formula af0 bf0
same_formula (neg af0) (since bf0 bf1) = false
same_formula (neg af0) (previous bf0) = false
same_formula (neg af0) (exists bn0 bf1) = false
same_formula (since af0 af1) truth = false
same_formula (since af0 af1) (atom bn0 bgs1) = false
same_formula (since af0 af1) (both bf0 bf1) = false
same_formula (since af0 af1) (neg bf0) = false
same_formula (since af0 af1) (since bf0 bf1) = same_formula af0 bf0 && same_formula af1 bf1
same_formula (since af0 af1) (previous bf0) = false
same_formula (since af0 af1) (exists bn0 bf1) = false
same_formula (previous af0) truth = false
same_formula (previous af0) (atom bn0 bgs1) = false
same_formula (previous af0) (both bf0 bf1) = false
same_formula (previous af0) (neg bf0) = false
same_formula (previous af0) (since bf0 bf1) = false
same_formula (previous af0) (previous bf0) = same_formula af0 bf0
same_formula (previous af0) (exists bn0 bf1) = false
same_formula (exists an0 af1) truth = false
same_formula (exists an0 af1) (atom bn0 bgs1) = false
same_formula (exists an0 af1) (both bf0 bf1) = false
same_formula (exists an0 af1) (neg bf0) = false
same_formula (exists an0 af1) (since bf0 bf1) = false
same_formula (exists an0 af1) (previous bf0) = false
same_formula (exists an0 af1) (exists bn0 bf1) = eqb an0 bn0 && same_formula af1 bf1

-- the formula is one of the list
unfoldable pub has : List Formula → Formula → Bool
has [] f = false
has (g ∷ gs) f = same_formula g f || has gs f

-- one more part, "equal parts sharing" a row
unfoldable pub note : List Formula → Formula → List Formula
note fs f = elim (has fs f) [ true ↦ fs | false ↦ fs ++ (f ∷ []) ]

-- "Each different part of the unfolded formula makes one row .. left parts before right and parts before the whole"
unfoldable pub parts_after : List Formula → Formula → List Formula
parts_after fs truth = note fs truth
parts_after fs (atom p gs) = note fs (atom p gs)
parts_after fs (both f g) = note (parts_after (parts_after fs f) g) (both f g)
parts_after fs (neg f) = note (parts_after fs f) (neg f)
parts_after fs (since f g) = note (parts_after (parts_after fs f) g) (since f g)
parts_after fs (previous f) = note (parts_after fs f) (previous f)
parts_after fs (exists x f) = note (parts_after fs f) (exists x f)

unfoldable pub parts : Formula → List Formula
parts f = parts_after [] f

-- the place of a formula in the list
unfoldable pub place_in : List Formula → Formula → ℕ
place_in [] f = 0
place_in (g ∷ gs) f = elim (same_formula g f) [ true ↦ 0 | false ↦ suc (place_in gs f) ]

-- the row of a part: its own parts by their places
unfoldable pub row_in : List Formula → Formula → Row
row_in fs truth = Rows.truth
row_in fs (atom p gs) = Rows.atom p gs
row_in fs (both f g) = Rows.both (place_in fs f) (place_in fs g)
row_in fs (neg f) = Rows.neg (place_in fs f)
row_in fs (since f g) = Rows.since (place_in fs f) (place_in fs g)
row_in fs (previous f) = Rows.previous (place_in fs f)
row_in fs (exists x f) = Rows.exists x (place_in fs f)

unfoldable pub rows_of : Formula → List Row
rows_of f = map (row_in (parts f)) (parts f)

-- "An argument is a variable (mark 0 ..) or a constant (mark 1 ..)"
unfoldable pub mark_of : Argument → ℕ
mark_of (variable x) = 0
mark_of (constant c) = 1

unfoldable pub content_of : Argument → ℕ
content_of (variable x) = x
content_of (constant c) = c

-- n pairs (mark, value), "unused pairs are 0"
unfoldable pub pairs_of : ℕ → List Argument → List ℕ
pairs_of zero gs = []
pairs_of (suc n) [] = 0 ∷ 0 ∷ pairs_of n []
pairs_of (suc n) (g ∷ gs) = mark_of g ∷ content_of g ∷ pairs_of n gs

-- "kind, p, q, then three pairs (mark, value)": the nine numbers of a row
unfoldable pub nine : Row → List ℕ
nine Rows.truth = 1 ∷ 0 ∷ 0 ∷ pairs_of 3 []
nine (Rows.atom p gs) = 2 ∷ p ∷ length gs ∷ pairs_of 3 gs
nine (Rows.both l r) = 3 ∷ l ∷ r ∷ pairs_of 3 []
nine (Rows.neg r) = 4 ∷ r ∷ 0 ∷ pairs_of 3 []
nine (Rows.since l r) = 5 ∷ l ∷ r ∷ pairs_of 3 []
nine (Rows.previous r) = 6 ∷ r ∷ 0 ∷ pairs_of 3 []
nine (Rows.exists x r) = 7 ∷ x ∷ r ∷ pairs_of 3 []

-- the numbers of the rows, one after the other
unfoldable pub numbers : List Row → List ℕ
numbers [] = []
numbers (r ∷ rs) = nine r ++ numbers rs

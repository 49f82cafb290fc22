-- How the rows come while the text is read: what a frame notes when it comes and when it takes its operand. So the reader of rows
-- keeps row numbers where the machine keeps readings. Part of the machine, not of the meaning. Assumes nothing: these are definitions.
use Rattle.std.specs.Prelude.{ℕ, suc, true, false, List, [], ◌∷◌, ◌++◌, ltb, length}
use Rattle.meaning.specs.Qtl.{Formula, truth, both, neg, since, previous, exists}
use Rattle.meaning.specs.Rows
use Rattle.text.specs.Words.{same, Prefix, once, historically, previously, negation, Binary, sinces, ands, ors, implies, Quantifier, universal, existential}
use Rattle.text.specs.Grammar.{atom}
use Rattle.text.specs.Machine.{Frame, group, applied, binding, left, Stage, wants, ended, named, binds, bound, argues, argued, stopped}
use Rattle.text.specs.Unfold.{number_in, unfolded}
use Rattle.text.specs.Parts.{note, parts_after, row_in, nine}

-- what an operator keeps of its left operand: the operand, its negation (`|`), the negation of that (`->`)
unfoldable pub kept : Binary → Formula → Formula
kept sinces g = g
kept ands g = g
kept ors g = neg g
kept implies g = neg (neg g)

-- noted when the operator comes, the left operand's parts being there
unfoldable pub left_notes : Binary → Formula → List Formula → List Formula
left_notes sinces g fs = fs
left_notes ands g fs = fs
left_notes ors g fs = note fs (neg g)
left_notes implies g fs = note (note fs (neg g)) (neg (neg g))

-- noted when a prefix operator comes: `P` and `H` have true for their left part
unfoldable pub prefix_notes : Prefix → List Formula → List Formula
prefix_notes once fs = note fs truth
prefix_notes historically fs = note fs truth
prefix_notes previously fs = fs
prefix_notes negation fs = fs

-- noted when the operand has ended, its parts being there: l is what was kept of the left operand
unfoldable pub binary_notes : Binary → Formula → Formula → List Formula → List Formula
binary_notes sinces l f fs = note fs (since l f)
binary_notes ands l f fs = note fs (both l f)
binary_notes ors l f fs = note (note (note fs (neg f)) (both l (neg f))) (neg (both l (neg f)))
binary_notes implies l f fs = note (note (note fs (neg f)) (both l (neg f))) (neg (both l (neg f)))

unfoldable pub applied_notes : Prefix → Formula → List Formula → List Formula
applied_notes once f fs = note fs (since truth f)
applied_notes historically f fs = note (note (note fs (neg f)) (since truth (neg f))) (neg (since truth (neg f)))
applied_notes previously f fs = note fs (previous f)
applied_notes negation f fs = note fs (neg f)

unfoldable pub bound_notes : Quantifier → ℕ → Formula → List Formula → List Formula
bound_notes existential v f fs = note fs (exists v f)
bound_notes universal v f fs = note (note (note fs (neg f)) (exists v (neg f))) (neg (exists v (neg f)))

module _ (ps vs : List (List ℕ)) where
  -- noted when the frame takes its operand f
  unfoldable pub late : Frame → Formula → List Formula → List Formula
  late group f fs = fs
  late (applied o) f fs = applied_notes o f fs
  late (binding q x) f fs = bound_notes q (number_in vs x) f fs
  late (left o g) f fs = binary_notes o (kept o (unfolded ps vs g)) f fs

  -- the formulas noted when the frames wait for an operand
  unfoldable pub noted : List Frame → List Formula
  noted [] = []
  noted (group ∷ ks) = noted ks
  noted (applied o ∷ ks) = prefix_notes o (noted ks)
  noted (binding q x ∷ ks) = noted ks
  noted (left o g ∷ ks) = left_notes o (unfolded ps vs g) (parts_after (noted ks) (unfolded ps vs g))

  -- the formulas noted at a stage
  unfoldable pub noted_at : Stage → List Formula
  noted_at (wants ks) = noted ks
  noted_at (ended f ks) = parts_after (noted ks) (unfolded ps vs f)
  noted_at (named p ks) = parts_after (noted ks) (unfolded ps vs (atom p []))
  noted_at (binds q ks) = noted ks
  noted_at (bound q x ks) = noted ks
  noted_at (argues p gs ks) = noted ks
  noted_at (argued p gs ks) = noted ks
  noted_at stopped = []

-- the numbers of the rows of the formulas
unfoldable pub nines : List Formula → List Formula → List (List ℕ)
nines all [] = []
nines all (f ∷ fs) = nine (row_in all f) ∷ nines all fs

-- the place of the first row with these numbers, or past the rows
unfoldable pub find_row : List (List ℕ) → List ℕ → ℕ
find_row [] x = 0
find_row (y ∷ ys) x = elim (same y x) [ true ↦ 0 | false ↦ suc (find_row ys x) ]

-- find or make: the rows, and the place of the one with these numbers
pub record Rowed : Type 0 where
  pub rows : List (List ℕ)
  pub row : ℕ

unfoldable pub make_row : List (List ℕ) → List ℕ → Rowed
make_row rows x =
    elim (ltb (find_row rows x) (length rows))
    [ true ↦ record { rows = rows; row = find_row rows x } | false ↦ record { rows = rows ++ (x ∷ []); row = length rows } ]

-- the same in row numbers: what a frame makes when its operand has ended. `held` is the row of what was kept of the left operand.
unfoldable pub negated : Rowed → Rowed
negated m = make_row m.rows (nine (Rows.neg m.row))

unfoldable pub binary_rows : Binary → ℕ → Rowed → Rowed
binary_rows sinces held m = make_row m.rows (nine (Rows.since held m.row))
binary_rows ands held m = make_row m.rows (nine (Rows.both held m.row))
binary_rows ors held m = negated (make_row (negated m).rows (nine (Rows.both held (negated m).row)))
binary_rows implies held m = negated (make_row (negated m).rows (nine (Rows.both held (negated m).row)))

-- `true` has row t, made when `P` or `H` came
unfoldable pub applied_rows : Prefix → ℕ → Rowed → Rowed
applied_rows once t m = make_row m.rows (nine (Rows.since t m.row))
applied_rows historically t m = negated (make_row (negated m).rows (nine (Rows.since t (negated m).row)))
applied_rows previously t m = make_row m.rows (nine (Rows.previous m.row))
applied_rows negation t m = negated m

unfoldable pub bound_rows : Quantifier → ℕ → Rowed → Rowed
bound_rows existential v m = make_row m.rows (nine (Rows.exists v m.row))
bound_rows universal v m = negated (make_row (negated m).rows (nine (Rows.exists v (negated m).row)))

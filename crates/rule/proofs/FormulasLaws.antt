-- Laws of the rows' formulas by their places: each follows from the formulas of the rows before it. Assumes nothing.
use Prim.Native.Nat.{ℕ, zero, suc, ◌≤◌, ◌<◌}
use mathlib.Core.Path.{◌≡◌, refl, ap, sym, ◌∙◌}
use mathlib.Core.List.{List, [], ◌∷◌, ◌++◌}
use mathlib.Core.Logic.{⊎_elim}
use native.Mathlib.Nat.{eq-or-lt_of_le}
use native.Mathlib.Omega.{arith}
use lib.ListN.{length, get_or, get_or-append}
use lib.Seq.{get_or-append_seam}
use Rattle.meaning.specs.Qtl
use Rattle.meaning.specs.Qtl.{Formula, free}
use Rattle.meaning.specs.Rows.{Row, truth, atom, both, neg, since, previous, exists, row_at, rows_up_to, count_of_rows, rule_of, follow, formulas_from, formulas, formula_at}
use Rattle.meaning.proofs.RowsLaws.{RowOk, rows_length, formulas_length}
use Rattle.rule.specs.Masks.{has_bit, mask_of, free_of_row}
use Rattle.rule.proofs.MasksLaws.{has_mask}

-- the formulas of the first n rows
fore : List ℕ → ℕ → List Formula
fore raw n = formulas (rows_up_to raw n)

-- one more row gives one more formula
formulas_more : (rs : List Row) (r : Row) (fs : List Formula) → formulas_from fs (rs ++ r ∷ []) ≡ formulas_from fs rs ++ follow (formulas_from fs rs) r ∷ []
unfolding formulas_from
formulas_more [] r fs = refl
formulas_more (x ∷ rs) r fs = formulas_more rs r (fs ++ follow fs x ∷ [])

-- the same by places
fore_more : (raw : List ℕ) (n : ℕ) → fore raw (suc n) ≡ fore raw n ++ follow (fore raw n) (row_at raw n) ∷ []
unfolding fore formulas rows_up_to
fore_more raw n = formulas_more (rows_up_to raw n) (row_at raw n) []

-- as many formulas as rows
fore_length : (raw : List ℕ) (n : ℕ) → length (fore raw n) ≡ n
unfolding fore formulas
fore_length raw n = formulas_length (rows_up_to raw n) [] ∙ omega (arith, rows_length raw n)

-- more rows change no formula
fore_keeps : (raw : List ℕ) (n j : ℕ) → j < n → get_or (fore raw n) j Qtl.truth ≡ get_or (fore raw (suc j)) j Qtl.truth
fore_keeps raw zero j h = absurd (omega arith)
fore_keeps raw (suc n) j h = ⊎_elim
    (λ e. let z : j ≡ n = omega arith in rw z)
    (λ l.
    rw (fore_more raw n)
    (get_or-append (fore raw n) (follow (fore raw n) (row_at raw n) ∷ []) Qtl.truth j (omega (arith, fore_length raw n)) ∙ fore_keeps raw n j (omega arith)))
    (eq-or-lt_of_le h)

-- the formula of the last row
fore_last : (raw : List ℕ) (n : ℕ) → get_or (fore raw (suc n)) n Qtl.truth ≡ follow (fore raw n) (row_at raw n)
fore_last raw n =
    ap (λ (fs : List Formula). get_or fs n Qtl.truth) (fore_more raw n)
    ∙ ap (λ (m : ℕ). get_or (fore raw n ++ follow (fore raw n) (row_at raw n) ∷ []) m Qtl.truth) (sym (fore_length raw n))
    ∙ get_or-append_seam (fore raw n) (follow (fore raw n) (row_at raw n)) [] Qtl.truth

-- the formula of an earlier row, among the first n
formula_fore : (raw : List ℕ) (n j : ℕ) → j < n → n ≤ count_of_rows raw → get_or (fore raw n) j Qtl.truth ≡ formula_at (rule_of raw) j
unfolding formula_at rule_of fore
formula_fore raw n j h l = fore_keeps raw n j h ∙ sym (fore_keeps raw (count_of_rows raw) j (omega arith))

-- the formula of the row at place i
formula_is : (raw : List ℕ) (i : ℕ) → i < count_of_rows raw → formula_at (rule_of raw) i ≡ follow (fore raw i) (row_at raw i)
formula_is raw i h = sym (formula_fore raw (suc i) i (omega arith) h) ∙ fore_last raw i

-- the free variables of a row's formula, from masks of the formulas before it
free_follow : (n : ℕ) (masks : List ℕ) (fs : List Formula) (r : Row) (v : ℕ) → RowOk n r
    → ((j : ℕ) → j < n → has_bit (get_or masks j 0) v ≡ free (get_or fs j Qtl.truth) v) → free_of_row masks r v ≡ free (follow fs r) v
unfolding free_of_row follow free
free_follow n masks fs truth v o h = refl
free_follow n masks fs (atom p gs) v o h = refl
free_follow n masks fs (both a b) v o h = rw (h a o.0, h b o.1)
free_follow n masks fs (neg a) v o h = h a o
free_follow n masks fs (since a b) v o h = rw (h a o.0, h b o.1)
free_follow n masks fs (previous a) v o h = h a o
free_follow n masks fs (exists x a) v o h = rw (h a o.1)

-- the same by places: the masks of the rows before i give that of the row i
pub free_row : (raw masks : List ℕ) (i : ℕ) → i < count_of_rows raw → RowOk i (row_at raw i)
    → ((j : ℕ) → j < i → get_or masks j 0 ≡ mask_of (free (formula_at (rule_of raw) j)))
    → (v : ℕ) → v < 4 → free_of_row masks (row_at raw i) v ≡ free (formula_at (rule_of raw) i) v
free_row raw masks i l o h v k =
    free_follow i masks (fore raw i) (row_at raw i) v o
    (λ j q. rw (h j q, has_mask (free (formula_at (rule_of raw) j)) v k, formula_fore raw i j q (omega arith)))
    ∙ ap (λ (f : Formula). free f v) (sym (formula_is raw i l))

-- The rows that the pass leaves are the answer's, and the names that were laid are those of the tables. Assumes nothing.
use Prim.Native.Nat.{ℕ, ◌≤◌, ◌<◌}
use native.Mathlib.Omega.{arith}
use mathlib.Core.Path.{◌≡◌, refl, sym, ap, ◌∙◌}
use mathlib.Core.List.{List, [], ◌∷◌, ◌++◌, map}
use lib.ListN.{length, take, length-map}
use Rattle.std.specs.List.{flat_map}
use Rattle.meaning.specs.Qtl.{Formula}
use Rattle.text.specs.Parts.{parts, row_in, rows_of, nine, numbers}
use Rattle.text.specs.Emit.{nines}
use Rattle.text.specs.Translate.{padded}
use Rattle.text.proofs.MakeLaws.{nines_length}
use Rattle.census.specs.declared.spans.Span.{Span}
use Rattle.census.specs.Tables.{nowhere, names_at, Table}
use Rattle.translate.specs.Translated.{laid, Named}
use Rattle.translate.proofs.LayingLaws.{laid_length, take_laid, drop_laid}

-- rows one after the other
flat_rows : (all fs : List Formula) → flat_map (λ x. x) (nines all fs) ≡ numbers (map (row_in all) fs)
unfolding nines numbers
flat_rows all [] = refl
flat_rows all (f ∷ fs) = ap (λ (ns : List ℕ). nine (row_in all f) ++ ns) (flat_rows all fs)

rows_count : (g : Formula) → length (nines (parts g) (parts g)) ≡ length (rows_of g)
unfolding rows_of
rows_count g = nines_length (parts g) (parts g) ∙ sym (length-map (parts g) (row_in (parts g)))

-- more than 64 rows
pub many_rows : (g : Formula) → 64 < length (nines (parts g) (parts g)) → 64 < length (rows_of g)
many_rows g l = omega (arith, l, rows_count g)

-- at most 64
module _ (g : Formula) (table : List (List ℕ)) (e : table ≡ nines (parts g) (parts g)) where
  pub told_count : length (rows_of g) ≡ length table
  told_count = sym (rows_count g) ∙ ap length (sym e)

  pub told_rows : laid 0 576 (flat_map (λ x. x) table) ≡ padded (numbers (rows_of g))
  unfolding laid padded rows_of
  told_rows = rw (e, flat_rows (parts g) (parts g)) refl

-- names by spans that were laid
module _ (text : List ℕ) (spans : List Span) (m : ℕ) (h : length spans ≤ m) where
  pub laid_names : names_at text (take (length spans) (laid nowhere m spans)) ≡ names_at text spans
  laid_names = ap (names_at text) (take_laid nowhere m spans)

  pub laid_named : Table text spans → Named text (laid nowhere m spans) (length spans) m
  laid_named t = record { here = omega (arith, laid_length nowhere m spans h); table = rw (take_laid nowhere m spans) t; rest = drop_laid nowhere m spans }

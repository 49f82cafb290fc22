-- The rows' references, as a list of their own: the first numbers of all references, and those behind them. Assumes nothing.
use Prim.Native.Nat.{ℕ, ◌+◌, ◌-◌, ◌≤◌, ◌<◌}
use mathlib.Core.Path.{◌≡◌, refl, sym, ap, ◌∙◌}
use mathlib.Core.Bool.{Bool, true, false}
use mathlib.Core.List.{List}
use native.Mathlib.Omega.{arith}
use lib.ListN.{length, get_or, take, drop}
use lib.Seq.{length-take-le, take-length, get_or-take, get_or-drop}
use Rattle.trees.specs.Kept.{diagrams}
use Rattle.nodes.specs.Nodes.{Rows, canonical, Decides}
use Rattle.keeping.specs.Checks.{Inside, ZeroFrom, FreeOnly}

-- the numbers from place k on are 0, or those of the list that begins there
pub zero_behind : (k : ℕ) (xs : List ℕ) → ZeroFrom 0 (drop k xs) → ZeroFrom k xs
zero_behind k xs z j h = let e : k + (j - k) ≡ j = omega arith in rw e at (sym (get_or-drop k xs (j - k) 0) ∙ z (j - k) (omega arith))

pub behind_zero : (k : ℕ) (xs : List ℕ) → ZeroFrom k xs → ZeroFrom 0 (drop k xs)
behind_zero k xs z j h = get_or-drop k xs j 0 ∙ z (k + j) (omega arith)

-- the first count references
module _ (refs : List ℕ) (count : ℕ) (rows : List ℕ) (long : count ≤ length refs) (first : rows ≡ take count refs) where
  size : length rows ≡ count
  size = ap length first ∙ length-take-le count refs long

  row : (i : ℕ) → i < count → get_or rows i 0 ≡ get_or refs i 0
  row i h = rw first (get_or-take count refs i 0 h)

  pub inside_rows : (kept : ℕ) → Inside rows (length rows) kept → Inside refs count kept
  inside_rows kept n i h = rw (row i h) at (n i (rw size h))

  pub rows_inside : (kept : ℕ) → Inside refs count kept → Inside rows (length rows) kept
  rows_inside kept n i h = let k = rw size at h in rw (row i k) (n i k)

  -- the canonical table of the rows' diagrams
  pub rows_table : (ns : List ℕ) (m : ℕ) → canonical ns m rows (length rows) ≡ canonical ns m refs count
  unfolding canonical diagrams
  rows_table ns m = rw (take-length rows, first) refl

  pub rows_rows : (ns : List ℕ) (m levels : ℕ) → Rows ns m levels refs count → Rows ns m levels rows (length rows)
  rows_rows ns m levels r = record {
    few = rw size r.few;
    inside = rows_inside m r.inside;
    fine = λ i h. let k = rw size at h in rw (row i k) (r.fine i k);
  }

  pub free_rows : (ns : List ℕ) (kept k : ℕ) (allowed : List ℕ) (b : Bool) → Decides (FreeOnly ns kept k allowed rows (length rows)) b → Decides (FreeOnly ns kept k allowed refs count) b
  free_rows ns kept k allowed true d = λ i h. rw (row i h) at (d i (rw size h))
  free_rows ns kept k allowed false d = λ f. d (λ i h. let q = rw size at h in rw (row i q) (f i q))

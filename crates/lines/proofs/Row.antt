-- Laws of a line that begins with `r`: from the numbers after it to the row, or to no line. Assumes nothing.
use Prim.Native.Nat.{ℕ}
use native.Mathlib.Omega.{arith}
use mathlib.Core.Path.{◌≡◌, sym, ap, ◌∙◌}
use mathlib.Core.List.{List}
use lib.ListN.{length, take, drop}
use lib.Seq.{take_all}
use Rattle.lines.specs.Format.{Fits, Every, spaced, text, Written, NoLine}
use Rattle.lines.specs.Parts.{LedBy, Run, NoRun}
use Rattle.lines.specs.declared.Line.{Line}
use Rattle.lines.specs.declared.Line.TheVariants.{Sizes, Row, Event}
use Rattle.lines.proofs.Text.{headed, text_head}
use Rattle.lines.proofs.Run.{run_count}

-- a line that begins with `r` is no line where nine numbers do not follow
none : {line : List ℕ} → LedBy line 114
    → ((ns : List ℕ) → Every Fits ns → length ns ≡ 9 → drop 1 line ≡ spaced ns → ⊥) → NoLine line
unfolding text
none {line} e no_row = record { none = go }
  where
    go : (l : Line) → Written line l → ⊥
    go (Sizes k c) w = omega (arith, e.first, text_head line (Sizes k c) w)
    go (Row ns) w =
        no_row ns w.right.fit w.right.nine (ap (drop 1) w.shown)
    go (Event p n vs) w = omega (arith, e.first, text_head line (Event p n vs) w)

-- no line where no run of numbers follows
pub row_no_run : {line : List ℕ} → LedBy line 114 → NoRun (drop 1 line) → NoLine line
row_no_run e r = none e (λ ns f l s. r.none ns f (omega arith) s)

-- no line where other than nine numbers follow
pub row_count : {line : List ℕ} {count : ℕ} {all : List ℕ} → LedBy line 114 → Run (drop 1 line) count all → (count ≡ 9 → ⊥) → NoLine line
row_count e r other = none e (λ ns f l s. other (sym (run_count r ns f s) ∙ l))

-- the row of nine numbers
pub row_written : {line : List ℕ} {count : ℕ} {all : List ℕ} → LedBy line 114 → Run (drop 1 line) count all → count ≡ 9
    → Written line (Row all)
unfolding text
row_written {line} {count} {all} e r full =
    record {
      right = record { nine = r.nine; fit = r.fit };
      shown = headed 114 (spaced all) e (r.shown ∙ ap spaced whole);
    }
  where
    whole : take count all ≡ all
    whole = ap (λ (k : ℕ). take k all) full ∙ take_all 9 all (omega (arith, r.nine))

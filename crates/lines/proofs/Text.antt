-- Laws of `text`: the first byte of a line tells its kind. Assumes nothing.
use Prim.Native.Nat.{ℕ}
use native.Mathlib.Omega.{arith}
use mathlib.Core.Path.{◌≡◌, ◌∙◌}
use mathlib.Core.List.{List, [], ◌∷◌, ◌++◌}
use lib.ListN.{length, drop, get_or, get_or-eq_default}
use lib.Seq.{drop-cons}
use Rattle.lines.specs.Numeral.{numeral}
use Rattle.lines.specs.Format.{text, spaced, Written, NoLine}
use Rattle.lines.specs.Parts.{Digit, LedBy}
use Rattle.lines.specs.declared.Line.{Line}
use Rattle.lines.specs.declared.Line.TheVariants.{Sizes, Row, Event}
use Rattle.lines.proofs.Numeral.{Begins, numeral_begins}

-- bytes are their first byte and the rest
pub headed : {line : List ℕ} (b : ℕ) (rest : List ℕ) → LedBy line b → drop 1 line ≡ rest → line ≡ b ∷ rest
headed {line} b rest e s = drop-cons line 0 0 e.some ∙ cc

-- the byte that a line of this kind begins with: a digit, `r` or `e`
abbrev pub Head : Line → ℕ → Type 0
Head (Sizes k c) b = Digit b
Head (Row ns) b = b ≡ 114
Head (Event p n vs) b = b ≡ 101

-- bytes that begin with a digit have it at place 0
begins_at : (bytes : List ℕ) → Begins bytes → Digit (get_or bytes 0 0)
unfolding Begins
begins_at [] h = absurd h
begins_at (b ∷ bytes) h = h

-- the text of a right line begins as its kind says
pub text_head : (bytes : List ℕ) (l : Line) → Written bytes l → Head l (get_or bytes 0 0)
unfolding text
text_head bytes (Sizes k c) w = rw w.shown (begins_at (numeral k ++ spaced (c ∷ [])) (numeral_begins k (spaced (c ∷ []))))
text_head bytes (Row ns) w = rw w.shown
text_head bytes (Event p n vs) w = rw w.shown

-- no line is empty
pub empty_none : {line : List ℕ} → length line ≡ 0 → NoLine line
empty_none {line} e = record { none = λ l w. go l (text_head line l w) }
  where
    none : get_or line 0 0 ≡ 0
    none = get_or-eq_default line 0 (omega arith)

    go : (l : Line) → Head l (get_or line 0 0) → ⊥
    go (Sizes k c) h = omega (arith, none)
    go (Row ns) h = omega (arith, none)
    go (Event p n vs) h = omega (arith, none)

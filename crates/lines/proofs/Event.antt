-- Laws of a line that begins with `e`: from the numbers after it to the event, or to no line. Assumes nothing.
use Prim.Native.Nat.{ℕ, zero, suc, ◌-◌, ◌<◌, ◌≤◌}
use native.Mathlib.Omega.{arith}
use mathlib.Core.Path.{◌≡◌, refl, ap, subst, ◌∙◌}
use mathlib.Core.List.{List, ◌∷◌}
use lib.ListN.{length, take, drop, get_or, length-take}
use lib.Seq.{take-append-le}
use Rattle.lines.specs.Format.{Fits, Every, spaced, text, Written, NoLine}
use Rattle.lines.specs.Parts.{LedBy, Run, NoRun}
use Rattle.lines.specs.declared.Line.{Line}
use Rattle.lines.specs.declared.Line.TheVariants.{Sizes, Row, Event}
use Rattle.lines.proofs.Every.{every_take}
use Rattle.lines.proofs.Text.{headed, text_head}
use Rattle.lines.proofs.Run.{run_count, places, nine_places}

-- a line that begins with `e` is no line where one to five numbers do not follow
none : {line : List ℕ} → LedBy line 101
    → ((ns : List ℕ) → Every Fits ns → 0 < length ns → length ns ≤ 5 → drop 1 line ≡ spaced ns → ⊥) → NoLine line
unfolding text
none {line} e no-event = record { none = go }
  where
    go : (l : Line) → Written line l → ⊥
    go (Sizes k c) w = omega (arith, e.first, text_head line (Sizes k c) w)
    go (Row ns) w = omega (arith, e.first, text_head line (Row ns) w)
    go (Event p n values) w =
        let long : length (take n values) ≤ 4 = omega (arith, length-take n values, w.right.few) in
        let fit : Every Fits (p ∷ take n values) = (w.right.fit.0, every_take Fits n values w.right.fit.1) in
        no-event (p ∷ take n values) fit (omega arith) (omega arith) (ap (drop 1) w.shown)

-- no line where no run of numbers follows
pub event_no_run : {line : List ℕ} → LedBy line 101 → NoRun (drop 1 line) → NoLine line
event_no_run e r = none e (λ ns f some few s. r.none ns f (omega arith) s)

-- no line where no predicate follows
pub event_no_predicate : {line : List ℕ} {count : ℕ} {all : List ℕ} → LedBy line 101 → Run (drop 1 line) count all → count ≡ 0 → NoLine line
event_no_predicate e r z = none e (λ ns f some few s. omega (arith, run_count r ns f s))

-- no line where more than four values follow
pub event_too_many : {line : List ℕ} {count : ℕ} {all : List ℕ} → LedBy line 101 → Run (drop 1 line) count all → 5 < count → NoLine line
event_too_many e r z = none e (λ ns f some few s. omega (arith, run_count r ns f s))

-- the event of one to five numbers
pub event_written : {line : List ℕ} (count : ℕ) {all : List ℕ} → LedBy line 101 → Run (drop 1 line) count all
    → (count ≡ 0 → ⊥) → count ≤ 5
    → Written line (Event (get_or all 0 0) (count - 1) (places all 1 4))
unfolding text
event_written zero e r some few = absurd (some refl)
event_written {line} (suc n) {all} e r some few =
    let one : suc n - 1 ≡ n = omega arith in
    rw one
    (record {
      right = record { fit = every_take Fits 5 (places all 0 9) fits; four = refl; few = omega arith; rest = rest };
      shown = headed 101 (spaced (get_or all 0 0 ∷ take n (places all 1 4))) e (r.shown ∙ ap spaced whole);
    })
  where
    listed : all ≡ places all 0 9
    listed = nine_places all r.nine

    fits : Every Fits (places all 0 9)
    fits = subst (Every Fits) listed r.fit

    whole : take (suc n) all ≡ get_or all 0 0 ∷ take n (places all 1 4)
    whole =
        ap (take (suc n)) listed
        ∙ ap (λ (l : List ℕ). get_or all 0 0 ∷ l) (take-append-le n (places all 1 4) (places all 5 4) (omega arith))

    rest : (i : ℕ) → n ≤ i → get_or (places all 1 4) i 0 ≡ 0
    rest zero low = r.rest 1 (omega arith)
    rest (suc zero) low = r.rest 2 (omega arith)
    rest (suc (suc zero)) low = r.rest 3 (omega arith)
    rest (suc (suc (suc zero))) low = r.rest 4 (omega arith)
    rest (suc (suc (suc (suc i)))) low = refl

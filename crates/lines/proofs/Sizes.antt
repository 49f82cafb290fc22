-- Laws of a line that begins with a number: from its two numbers to the sizes, or to no line. Assumes nothing.
use Prim.Native.Nat.{ℕ, ◌<◌, ◌≤◌}
use native.Mathlib.Omega.{arith}
use mathlib.Core.Path.{◌≡◌, refl, sym, ap, ◌∙◌}
use mathlib.Core.List.{List, [], ◌∷◌, ◌++◌}
use lib.ListN.{length, take, drop, get_or}
use Rattle.lines.specs.Numeral.{numeral}
use Rattle.lines.specs.Format.{spaced, text, Written, NoLine}
use Rattle.lines.specs.Parts.{Unlettered, Opens, Took, NoNumber, Run, NoRun}
use Rattle.lines.specs.declared.Line.{Line}
use Rattle.lines.specs.declared.Line.TheVariants.{Sizes, Row, Event}
use Rattle.lines.proofs.Opens.{opens_same}
use Rattle.lines.proofs.Spaced.{spaced_stops}
use Rattle.lines.proofs.Text.{text_head}
use Rattle.lines.proofs.Run.{run_count, run_same}

-- a line that begins with neither `r` nor `e` is no line where it has no two numbers
none : {line : List ℕ} → Unlettered line
    → ((k c : ℕ) → c ≤ 512 → Opens line k (spaced (c ∷ [])) → ⊥) → NoLine line
unfolding text
none {line} u no-sizes = record { none = go }
  where
    go : (l : Line) → Written line l → ⊥
    go (Sizes k c) w =
        no-sizes k c w.right.1 (record { fits = w.right.0; shown = w.shown; stops = spaced_stops (c ∷ []) })
    go (Row ns) w = u.no_r (text_head line (Row ns) w)
    go (Event p n vs) w = u.no_e (text_head line (Event p n vs) w)

-- no line where no first number stands
pub sizes_no_number : {line : List ℕ} → Unlettered line → NoNumber line 0 → NoLine line
sizes_no_number u t = none u (λ k c small o. t.none k (spaced (c ∷ [])) o)

-- a line that begins with a number is no line where one more number, C, does not follow
after : {line : List ℕ} {k next : ℕ} → Unlettered line → Took line 0 k next
    → ((c : ℕ) → c ≤ 512 → drop next line ≡ spaced (c ∷ []) → ⊥) → NoLine line
after {line} {k} {next} u t no-c =
    none u (λ m c small o. no-c c small (opens_same line k m (drop next line) (spaced (c ∷ [])) t.opens o).1)

-- no line where no run of numbers follows
pub sizes_no_run : {line : List ℕ} {k next : ℕ} → Unlettered line → Took line 0 k next
    → NoRun (drop next line) → NoLine line
sizes_no_run u t r = after u t (λ c small s. r.none (c ∷ []) (omega arith, tt) (omega arith) s)

-- no line where other than one number follows
pub sizes_count : {line : List ℕ} {k next count : ℕ} {all : List ℕ} → Unlettered line → Took line 0 k next
    → Run (drop next line) count all → (count ≡ 1 → ⊥) → NoLine line
sizes_count u t r other = after u t (λ c small s. other (sym (run_count r (c ∷ []) (omega arith, tt) s)))

-- the one number of a run is at its first place
only : (all : List ℕ) (c : ℕ) → take 1 all ≡ c ∷ [] → get_or all 0 0 ≡ c
only [] c e = absurd (let z : ◌≡◌ {A = ℕ} 0 1 = cc in omega arith)
only (n ∷ all) c e = cc

-- no line where C is over 512
pub sizes_large : {line : List ℕ} {k next count : ℕ} {all : List ℕ} → Unlettered line → Took line 0 k next
    → Run (drop next line) count all → count ≡ 1 → 512 < get_or all 0 0 → NoLine line
sizes_large {all = all} u t r one large =
    after u t
    (λ c small s. omega (arith, only all c (rw one at (run_same r (c ∷ []) (omega arith, tt) s))))

-- the sizes
pub sizes_written : {line : List ℕ} {k next count : ℕ} {all : List ℕ} → Took line 0 k next
    → Run (drop next line) count all → count ≡ 1 → get_or all 0 0 ≤ 512 → Written line (Sizes k (get_or all 0 0))
unfolding text
sizes_written {line} {k} {next} {count} {all} t r one small =
    record {
      right = (t.opens.fits, small);
      shown = t.opens.shown ∙ ap (λ (l : List ℕ). numeral k ++ l) (r.shown ∙ ap spaced (ap (λ (n : ℕ). take n all) one ∙ first all r.nine));
    }
  where
    first : (ns : List ℕ) → length ns ≡ 9 → take 1 ns ≡ get_or ns 0 0 ∷ []
    first [] e = absurd (omega arith)
    first (n ∷ ns) e = refl

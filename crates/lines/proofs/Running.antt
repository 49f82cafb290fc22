-- A run of numbers that is being read number by number: what is known after each, and how the reading ends. Assumes nothing.
use Prim.Native.Nat.{ℕ, suc, ◌+◌, ◌<◌, ◌≤◌}
use native.Mathlib.Omega.{arith}
use native.Mathlib.Numerals.{add-one}
use mathlib.Core.Path.{◌≡◌, refl, ap, ◌∙◌}
use mathlib.Core.Bool.{Bool, true, false}
use lib.Dec.{ltb}
use borrow.Author.Tests.{ltb-true, ltb-false}
use mathlib.Core.List.{List, [], ◌∷◌, ◌++◌, append_assoc, append-nil}
use lib.ListN.{length, take, drop, get_or, set, replicate}
use lib.ListN.{length-set, length-append, length-take, drop_of_length-le, get_or-replicate, get_or-eq_default}
use lib.Seq.{drop-cons, take-suc-set, get_or-set_other}
use Rattle.lines.specs.Numeral.{numeral}
use Rattle.lines.specs.Format.{Fits, Every, spaced}
use Rattle.lines.specs.Parts.{Opens, Took, NoNumber, Run, NoRun}
use Rattle.lines.proofs.Every.{every_set}
use Rattle.lines.proofs.Opens.{opens_same}
use Rattle.lines.proofs.Spaced.{Next, spaced_snoc, spaced_next}

-- ns goes on after ms, and its further numbers are the rest
pub record Further (ms rest ns : List ℕ) : Type 0 where
  pub more : List ℕ
  pub fit : Every Fits more
  pub whole : ns ≡ ms ++ more
  pub shown : rest ≡ spaced more

-- the line has from place `at` up to place i the first `count` of nine numbers, and any run of numbers from `at` begins with those
pub record Running (line : List ℕ) (at count : ℕ) (all : List ℕ) (i : ℕ) : Type 0 where
  pub inside : i ≤ length line
  pub few : count ≤ 9
  pub nine : length all ≡ 9
  pub fit : Every Fits all
  pub zeros : (i : ℕ) → count ≤ i → get_or all i 0 ≡ 0
  pub shown : drop at line ≡ spaced (take count all) ++ drop i line
  pub only : (ns : List ℕ) → Every Fits ns → drop at line ≡ spaced ns → Further (take count all) (drop i line) ns

-- before the first number
pub running_start : (line : List ℕ) (at : ℕ) → at ≤ length line → Running line at 0 (replicate 9 0) at
unfolding spaced
running_start line at h =
    record {
      inside = h;
      few = omega arith;
      nine = refl;
      fit = omega arith;
      zeros = zeros;
      shown = refl;
      only = λ ns f e. record { more = ns; fit = f; whole = refl; shown = e };
    }
  where
    zeros : (i : ℕ) → 0 ≤ i → ◌≡◌ {A = ℕ} (get_or (replicate 9 0) i 0) 0
    zeros i h = go (ltb i 9) refl
      where
        go : (q : Bool) → ltb i 9 ≡ q → ◌≡◌ {A = ℕ} (get_or (replicate 9 0) i 0) 0
        go true e = get_or-replicate 9 i 0 0 (ltb-true i 9 e)
        go false e = get_or-eq_default (replicate 9 0) 0 (ltb-false i 9 e)

-- one more number
pub running_more : {line : List ℕ} {at count : ℕ} {all : List ℕ} {i n next : ℕ} → Running line at count all i
    → i < length line → get_or line i 0 ≡ 32 → (count ≡ 9 → ⊥) → Took line (i + 1) n next
    → Running line at (count + 1) (set all count n) next
unfolding spaced
running_more {line} {at} {count} {all} {i} {n} {next} r h space free t =
    let place : count < length all = omega (arith, r.few, r.nine, free) in
    let grown : take (count + 1) (set all count n) ≡ take count all ++ (n ∷ []) = rw add-one (take-suc-set all count n place) in
    record {
      inside = t.inside;
      few = omega (arith, r.few, free);
      nine = length-set all count n ∙ r.nine;
      fit = every_set Fits all count n r.fit t.opens.fits;
      zeros = λ k low. get_or-set_other all count k n 0 (omega arith) ∙ r.zeros k (omega arith);
      shown = rw (grown, spaced_snoc) (r.shown ∙ ap (λ (l : List ℕ). spaced (take count all) ++ l) step);
      only = λ ns f e. rw grown (further ns (r.only ns f e));
    }
  where
    step : drop i line ≡ 32 ∷ (numeral n ++ drop next line)
    step =
        let tail : drop (suc i) line ≡ numeral n ++ drop next line = rw add-one at t.opens.shown in
        drop-cons line i 0 h ∙ cc

    further : (ns : List ℕ) → Further (take count all) (drop i line) ns → Further (take count all ++ (n ∷ [])) (drop next line) ns
    further ns u =
        let x : Next line i u.more = spaced_next u.more h u.fit u.shown in
        let same : (n ≡ x.first) × (drop next line ≡ spaced x.others) =
        opens_same (drop (i + 1) line) n x.first (drop next line) (spaced x.others) t.opens x.opens in
        record {
          more = x.others;
          fit = x.fit;
          whole = u.whole ∙ ap (λ (l : List ℕ). take count all ++ l) x.whole ∙ rw (append_assoc, same.0);
          shown = same.1;
        }

-- at the line's end
pub running_whole : {line : List ℕ} {at count : ℕ} {all : List ℕ} {i : ℕ} → Running line at count all i
    → length line ≤ i → Run (drop at line) count all
running_whole {line} r h =
    record {
      few = r.few;
      nine = r.nine;
      fit = r.fit;
      rest = r.zeros;
      shown = simp append-nil at (rw (drop_of_length-le line h) at r.shown);
    }

-- no run of numbers goes on where no number follows a space
stuck : {line : List ℕ} {at count : ℕ} {all : List ℕ} {i : ℕ} → Running line at count all i → i < length line
    → ((ns others : List ℕ) (m : ℕ) → ns ≡ take count all ++ (m ∷ others) → length ns ≤ 9 → get_or line i 0 ≡ 32
    → Opens (drop (i + 1) line) m (spaced others) → ⊥)
    → NoRun (drop at line)
stuck {line} {at} {count} {all} {i} r h no_more = record { none = λ ns f few e. go ns few (r.only ns f e) }
  where
    go : (ns : List ℕ) → length ns ≤ 9 → Further (take count all) (drop i line) ns → ⊥
    go ns few u =
        let x : Next line i u.more = spaced_next u.more h u.fit u.shown in
        no_more ns x.others x.first (u.whole ∙ ap (λ (l : List ℕ). take count all ++ l) x.whole) few x.space x.opens

-- no run of numbers has another byte where a space is due
pub running_gap : {line : List ℕ} {at count : ℕ} {all : List ℕ} {i : ℕ} → Running line at count all i → i < length line
    → (get_or line i 0 ≡ 32 → ⊥) → NoRun (drop at line)
running_gap r h no_space = stuck r h (λ ns others m e few space o. no_space space)

-- no run of at most nine numbers goes on after nine
pub running_tenth : {line : List ℕ} {at count : ℕ} {all : List ℕ} {i : ℕ} → Running line at count all i → i < length line
    → count ≡ 9 → NoRun (drop at line)
running_tenth r h full =
    stuck r h
    (λ ns others m e few space o. omega (arith, few, full, r.nine, simp (length-append, length-take) at (ap length e)))

-- no run of numbers has anything else where a number is due
pub running_none : {line : List ℕ} {at count : ℕ} {all : List ℕ} {i : ℕ} → Running line at count all i → i < length line
    → NoNumber line (i + 1) → NoRun (drop at line)
running_none r h t = stuck r h (λ ns others m e few space o. t.none m (spaced others) o)

-- A number that is being read digit by digit: what is known after each digit, and how the reading ends. Assumes nothing.
use Prim.Native.Nat.{ℕ, suc, ◌+◌, ◌-◌, ◌*◌, ◌<◌, ◌≤◌}
use native.Mathlib.Omega.{arith}
use native.Mathlib.Numerals.{add-one}
use mathlib.Core.Path.{◌≡◌, ◌∙◌}
use mathlib.Core.List.{List, ◌++◌, append_assoc}
use lib.ListN.{length, drop, get_or, drop_of_length-le}
use lib.Seq.{drop-cons}
use Rattle.lines.specs.Numeral.{numeral}
use Rattle.lines.specs.Format.{Fits}
use Rattle.lines.specs.Parts.{Digit, Stops, Took, NoNumber}
use Rattle.lines.proofs.Numeral.{numeral_small, numeral_grows}
use Rattle.lines.proofs.Opens.{opens_least, opens_zero}

-- the line has the numeral of n from place `at` up to place i; more digits may follow
pub record Begun (line : List ℕ) (at n i : ℕ) : Type 0 where
  pub past : at < i
  pub inside : i ≤ length line
  pub fits : Fits n
  pub shown : drop at line ≡ numeral n ++ drop i line

-- the first digit
pub begun_first : (line : List ℕ) (at n : ℕ) → at < length line → Digit (get_or line at 0) → n ≡ get_or line at 0 - 48 → Begun line at n (at + 1)
begun_first line at n h d e =
    let byte : 48 + n ≡ get_or line at 0 = omega arith in
    record {
      past = omega arith;
      inside = omega arith;
      fits = omega arith;
      shown = rw (add-one, numeral_small n (omega arith), byte) (drop-cons line at 0 h);
    }

-- one more digit d shows the numeral of n * 10 + d
grown : (line : List ℕ) (at n i d : ℕ) → Begun line at n i → i < length line → Digit (get_or line i 0) → (n ≡ 0 → ⊥) → d ≡ get_or line i 0 - 48
    → drop at line ≡ numeral (n * 10 + d) ++ drop (i + 1) line
grown line at n i d b h g pos e =
    let byte : 48 + d ≡ get_or line i 0 = omega arith in
    b.shown ∙ rw (add-one, numeral_grows n d (omega (arith, pos)) (omega arith), append_assoc, byte, drop-cons line i 0 h)

-- one more digit, while the number fits
pub begun_more : {line : List ℕ} {at n i : ℕ} (d : ℕ) → Begun line at n i → i < length line → Digit (get_or line i 0) → (n ≡ 0 → ⊥)
    → d ≡ get_or line i 0 - 48 → n * 10 + d ≤ 4294967295 → Begun line at (n * 10 + d) (i + 1)
begun_more {line} {at} {n} {i} d b h g pos e f =
    record {
      past = omega arith;
      inside = omega arith;
      fits = omega arith;
      shown = grown line at n i d b h g pos e;
    }

-- a number stops where no digit follows
took : {line : List ℕ} {at n i : ℕ} → Begun line at n i → Stops (drop i line) → Took line at n i
took b stop =
    record {
      past = b.past;
      inside = b.inside;
      opens = record { fits = b.fits; shown = b.shown; stops = stop };
    }

-- a number stops before a byte that is no digit
pub begun_stops : {line : List ℕ} {at n i : ℕ} → Begun line at n i → i < length line → (Digit (get_or line i 0) → ⊥) → Took line at n i
begun_stops {line} {i = i} b h no_digit = took b (rw (drop-cons line i 0 h) no_digit)

-- a number stops at the line's end
pub begun_ends : {line : List ℕ} {at n i : ℕ} → Begun line at n i → length line ≤ i → Took line at n i
begun_ends {line} b h = took b (rw (drop_of_length-le line h) tt)

-- no number stands where a digit follows a leading zero
pub begun_zero : {line : List ℕ} {at n i : ℕ} → Begun line at n i → i < length line → Digit (get_or line i 0) → n ≡ 0 → NoNumber line at
begun_zero {line} {at} {n} {i} b h g z =
    let zero-shown : drop at line ≡ numeral 0 ++ drop i line = rw z at b.shown in
    record { none = λ m t o. opens_zero (drop at line) m t (get_or line i 0) (drop (suc i) line) o (rw (drop-cons line i 0 h) at zero-shown) g }

-- no number stands where the digits pass the largest one
pub begun_over : {line : List ℕ} {at n i : ℕ} (d : ℕ) → Begun line at n i → i < length line → Digit (get_or line i 0) → (n ≡ 0 → ⊥)
    → d ≡ get_or line i 0 - 48 → 4294967295 < n * 10 + d → NoNumber line at
begun_over {line} {at} {n} {i} d b h g pos e f =
    record { none = λ m t o. omega (arith, opens_least (drop at line) m (n * 10 + d) t (drop (i + 1) line) o (grown line at n i d b h g pos e)) }

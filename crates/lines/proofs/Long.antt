-- No line is longer than 100 bytes, so a program that meets a longer one needs no more of it to answer that it is none. Assumes nothing.
use Prim.Native.Nat.{ℕ, zero, suc, ◌+◌, ◌*◌, ◌^◌, ◌<◌, ◌≤◌}
use native.Mathlib.Omega.{arith}
use mathlib.Core.Path.{ap}
use mathlib.Core.List.{List, [], ◌∷◌, ◌++◌}
use Rattle.std.specs.Prelude.{None}
use lib.ListN.{length, take, length-append, length-take}
use Rattle.lines.specs.Numeral.{numeral}
use Rattle.lines.specs.Format.{Fits, Every, spaced, text, Right, Reads}
use Rattle.lines.specs.declared.Line.{Line}
use Rattle.lines.specs.declared.Line.TheVariants.{Sizes, Row, Event}
use Rattle.lines.proofs.Every.{every_take}
use Rattle.lines.proofs.Numeral.{numeral_every}

-- a number below 10^(k + 1) has at most k + 1 digits
pub numeral_length : (n : ℕ) → (k : ℕ) → n < 10 ^ suc k → length (numeral n) ≤ suc k
numeral_length =
    numeral_every
    (λ n ds. (k : ℕ) → n < 10 ^ suc k → length ds ≤ suc k)
    (λ n h k low. omega arith)
    grows
  where
    grows : (n d : ℕ) (ds : List ℕ) → 0 < n → d < 10 → ((k : ℕ) → n < 10 ^ suc k → length ds ≤ suc k)
        → (k : ℕ) → n * 10 + d < 10 ^ suc k → length (ds ++ ((48 + d) ∷ [])) ≤ suc k
    grows n d ds hn hd ih zero low = absurd (omega arith)
    grows n d ds hn hd ih (suc k) low = omega (arith, length-append ds ((48 + d) ∷ []), ih k (omega arith))

-- a number of the input has at most ten digits
pub numeral_short : (n : ℕ) → Fits n → length (numeral n) ≤ 10
numeral_short n f = numeral_length n 9 (omega arith)

-- each number of a run takes at most eleven bytes
spaced_short : (ns : List ℕ) → Every Fits ns → length (spaced ns) ≤ 11 * length ns
unfolding spaced
spaced_short [] f = omega arith
spaced_short (n ∷ ns) f =
    omega (arith, length-append (numeral n) (spaced ns), numeral_short n f.0, spaced_short ns f.1)

-- no right line is longer than 100 bytes
pub text_short : (l : Line) → Right l → length (text l) ≤ 100
unfolding text
text_short (Sizes k c) r =
    omega (arith, length-append (numeral k) (spaced (c ∷ [])), numeral_short k r.0, spaced_short (c ∷ []) (omega arith, tt))
text_short (Row ns) r = omega (arith, spaced_short ns r.fit, r.nine)
text_short (Event p n values) r =
    let fit : Every Fits (p ∷ take n values) = (r.fit.0, every_take Fits n values r.fit.1) in
    omega (arith, spaced_short (p ∷ take n values) fit, length-take n values, r.few)

-- a line of more than 100 bytes is read as none
pub long_line_bad : (bytes : List ℕ) → 100 < length bytes → Reads bytes None
long_line_bad bytes h = record { none = λ l w. omega (arith, text_short l w.right, ap length w.shown) }

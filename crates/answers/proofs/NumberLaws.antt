-- How long a number's digits are. Assumes nothing.
use Prim.Native.Nat.{ℕ, ◌≤◌, ◌<◌}
use native.Mathlib.Omega.{arith}
use lib.ListN.{length}
use Rattle.lines.specs.Numeral.{numeral}
use Rattle.lines.proofs.Long.{numeral_length}

-- a number of 64 bits has at most twenty digits
pub wide_few : (n : ℕ) → n < 18446744073709551616 → length (numeral n) ≤ 20
wide_few n h = numeral_length n 19 (omega arith)

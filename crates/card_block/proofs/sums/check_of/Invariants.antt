-- `check_of` meets its contract: the sums of the bytes so far, taken on over those to come, are the check. Assumes nothing.
use Prim.Native.Nat.{ℕ, ◌≤◌, ◌<◌}
use mathlib.Core.Path.{◌≡◌}
use mathlib.Core.List.{List}
use lib.ListN.{length, drop}
use Rattle.cards.specs.Bytes.{sums, check}
use Rattle.card_block.proofs.sums.check_of.Given as goal

-- the sums so far lead to the check
pub record Sofar (bytes : List ℕ) (a b i : ℕ) : Type 0 where
  pub within : i ≤ length bytes
  pub first : a < 255
  pub second : b < 255
  pub leads : sums a b (drop i bytes) ≡ check bytes

abbrev pub invariant-loop-byte : goal.invariant-loop-byte
invariant-loop-byte l = Sofar l.bytes l.first l.second l.byte-index

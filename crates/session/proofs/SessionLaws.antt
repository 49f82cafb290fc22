-- Laws of what a session keeps. Assumes nothing.
use Prim.Native.Nat.{ℕ, zero, suc, ◌+◌, ◌-◌, ◌*◌, ◌%◌, ◌^◌, ◌≤◌, ◌<◌}
use native.Mathlib.Omega.{arith}
use mathlib.Core.Path.{◌≡◌, refl}
use mathlib.Core.List.{List, ◌++◌}
use lib.ListN.{take, drop}
use borrow.Author.Tests.{lt-ltb}
use borrow.Rule.Slice.PartMut.{post_of, Post-is}
use Rattle.meaning.specs.Tables.{most}
use Rattle.transcript.specs.Output.{values_asked}

-- a k past 10 asks for no values
pub listed_none : (k : ℕ) → 10 < k → 0 ≡ values_asked k
unfolding values_asked
listed_none k h = rw (lt-ltb 10 k h) refl

-- any other asks for 4 × (2^k − 1), and that is at most 4092
pub listed_shift : (k : ℕ) → k ≤ 10
    → (4 * (1 * 2 ^ k % 18446744073709551616 - 1) ≡ values_asked k) × (4 * (1 * 2 ^ k % 18446744073709551616 - 1) ≤ 4092)
unfolding values_asked most
listed_shift zero h = (refl, omega arith)
listed_shift (suc zero) h = (refl, omega arith)
listed_shift (suc (suc zero)) h = (refl, omega arith)
listed_shift (suc (suc (suc zero))) h = (refl, omega arith)
listed_shift (suc (suc (suc (suc zero)))) h = (refl, omega arith)
listed_shift (suc (suc (suc (suc (suc zero))))) h = (refl, omega arith)
listed_shift (suc (suc (suc (suc (suc (suc zero)))))) h = (refl, omega arith)
listed_shift (suc (suc (suc (suc (suc (suc (suc zero))))))) h = (refl, omega arith)
listed_shift (suc (suc (suc (suc (suc (suc (suc (suc zero)))))))) h = (refl, omega arith)
listed_shift (suc (suc (suc (suc (suc (suc (suc (suc (suc zero))))))))) h = (refl, omega arith)
listed_shift (suc (suc (suc (suc (suc (suc (suc (suc (suc (suc zero)))))))))) h = (refl, omega arith)
listed_shift (suc (suc (suc (suc (suc (suc (suc (suc (suc (suc (suc k))))))))))) h = absurd (omega arith)

-- nine numbers that are copied over a part of the rule's table
pub row_copied : (n : ℕ) (rows : List ℕ) {nine copy : List ℕ} → copy ≡ nine
    → take n rows ++ (copy ++ post_of n ((n + 9) - n) rows) ≡ take n rows ++ (nine ++ drop (n + 9) rows)
row_copied n rows e = λ i. take n rows ++ (e i ++ Post-is n (n + 9) rows (omega arith) i)

-- Laws of `Run`: a run of numbers is read in one way, and its nine places can be listed. Assumes nothing.
use Prim.Native.Nat.{ℕ, zero, suc, ◌+◌}
use native.Mathlib.Omega.{arith}
use mathlib.Core.Path.{◌≡◌, sym, ap, ◌∙◌}
use mathlib.Core.List.{List, [], ◌∷◌}
use lib.ListN.{length, take, drop, get_or, length-take, drop_of_length-le}
use lib.Seq.{drop-cons}
use Rattle.lines.specs.Format.{Fits, Every, spaced}
use Rattle.lines.specs.Parts.{Run}
use Rattle.lines.proofs.Every.{every_take}
use Rattle.lines.proofs.Spaced.{spaced_same}

-- a run that the bytes are is the run that was read
pub run_same : {bytes : List ℕ} {count : ℕ} {all : List ℕ} → Run bytes count all
    → (ns : List ℕ) → Every Fits ns → bytes ≡ spaced ns → take count all ≡ ns
run_same {bytes} {count} {all} r ns f e =
    spaced_same (take count all) ns (every_take Fits count all r.fit) f (sym r.shown ∙ e)

-- a run that the bytes are has as many numbers as were counted
pub run_count : {bytes : List ℕ} {count : ℕ} {all : List ℕ} → Run bytes count all
    → (ns : List ℕ) → Every Fits ns → bytes ≡ spaced ns → length ns ≡ count
run_count {bytes} {count} {all} r ns f e = omega (arith, ap length (run_same r ns f e), length-take count all, r.nine, r.few)

-- k numbers of the list, from place `at` on
abbrev pub places : List ℕ → ℕ → ℕ → List ℕ
places all at zero = []
places all at (suc k) = get_or all at 0 ∷ places all (suc at) k

-- a list is its places
listed : (all : List ℕ) (at k : ℕ) → length all ≡ at + k → drop at all ≡ places all at k
listed all at zero e = drop_of_length-le all {i = at} (omega arith)
listed all at (suc k) e = drop-cons all at 0 (omega arith) ∙ ap (λ (l : List ℕ). get_or all at 0 ∷ l) (listed all (suc at) k (omega arith))

-- a list of nine numbers is its nine places
pub nine_places : (all : List ℕ) → length all ≡ 9 → all ≡ places all 0 9
nine_places all e = listed all 0 9 e

-- and a list of four its four
pub four_places : (all : List ℕ) → length all ≡ 4 → all ≡ places all 0 4
four_places all e = listed all 0 4 e

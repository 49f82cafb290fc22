-- What a caller of the walks has to show first. Assumes nothing.
use Prim.Native.Nat.{ℕ, ◌+◌, ◌*◌, ◌-◌, ◌≤◌, ◌<◌}
use mathlib.Core.Path.{◌≡◌}
use mathlib.Core.List.{List}
use native.Mathlib.Omega.{arith}
use lib.ListN.{get_or}
use Rattle.trees.specs.Tree.{Fine}
use Rattle.trees.specs.Table.{at, trees_of}
use Rattle.walks.specs.Walks.{Within}
use Rattle.walks.specs.Desks.{Desk}
use Rattle.making.specs.Tables.{Shelf}

-- a table with its chains, and zeros for the map and the memory
pub desk_none : {ns : List ℕ} {n : ℕ} {w : List ℕ} {c : ℕ} (levels slots : ℕ) → Shelf ns n w c → 1 ≤ slots → slots ≤ 2 * c
    → ((i : ℕ) → 4 * c ≤ i → i < 5 * c + 4 * slots → get_or w i 0 ≡ 0) → Desk ns n levels w c slots
desk_none {c = c} levels slots s some few z = record {
  shelf = s;
  some = some;
  fits = few;
  complements = record { hit = λ j r h e. absurd (omega (arith, z (4 * c + j) (omega arith) (omega arith))) };
  memory = record {
    hit = λ i a b d r p v.
        let q = p.is in
        let h = p.inside in
        absurd (omega (arith, z (i + 3) (omega arith) (omega arith), v.result));
  };
}

-- a reference of a diagram over all levels
pub within_all : (ns : List ℕ) (n levels p : ℕ) → p < n + 2 → Fine 0 levels (at (trees_of ns n) p) → Within ns n levels levels p
within_all ns n levels p h f = let e : levels - levels ≡ 0 = omega arith in record { below = h; fine = rw e f }

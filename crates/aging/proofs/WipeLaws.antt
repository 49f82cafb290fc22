-- The memory cleared stands for any operation: the walks' desk becomes a slate, and a slate the desk again. Assumes nothing.
use Prim.Native.Nat.{ℕ, ◌+◌, ◌*◌, ◌-◌}
use mathlib.Core.Path.{◌≡◌}
use mathlib.Core.List.{List}
use native.Mathlib.Omega.{arith}
use Rattle.trees.specs.Tree.{Tree}
use Rattle.nodes.specs.Nodes.{Zeroed, Grown}
use Rattle.making.specs.declared.Made.{Made}
use Rattle.std.specs.Prelude.{Option, Some, None}
use Rattle.making.specs.Tables.{Added}
use Rattle.making.proofs.WalkLaws.{front_trans}
use Rattle.walks.specs.Walks.{Within}
use Rattle.walks.specs.Desks.{Desk, Remembered}
use Rattle.walks.proofs.NotLaws.{map_same, map_grown}
use Rattle.walks.proofs.CallLaws.{within_all}
use Rattle.aging.specs.Dates.{Dated, Plain, Ageing}
use Rattle.aging.specs.Slates.{Slate, Slated}
use Rattle.aging.proofs.SlateLaws.{shelf_same}

-- a reference to a whole diagram, with all levels left
pub plain_within : {ns : List ℕ} {n k p : ℕ} → Plain ns n k p → Within ns n (4 * k) (4 * k) p
plain_within {ns} {n} {k} {p} w = within_all ns n (4 * k) p w.below w.fine

pub ageing_dated : {ns : List ℕ} {n k top p : ℕ} → Ageing ns n k top p → Dated ns n k (4 * k) top p
ageing_dated {k = k} w = let e : 4 * k - 4 * k ≡ 0 = omega arith in record { below = w.below; fine = rw e w.fine; right = w.right }

-- a desk, its memory cleared
pub wiped : {ns : List ℕ} {n levels : ℕ} {w w₁ : List ℕ} {c slots : ℕ} (op : Tree → Tree → Tree → Tree) → Desk ns n levels w c slots → Zeroed (5 * c) (5 * c + 4 * slots) w w₁ → Slate op ns n w₁ c slots
wiped {c = c} op k z = record {
  shelf = shelf_same k.shelf z.size (λ x h. z.rest.eq x (let f = k.fits in omega arith));
  some = k.some;
  fits = k.fits;
  results = record {
    hit = λ i a b d r p v.
        let q = p.is in
        let h = p.inside in
        absurd (omega (arith, z.zero (i + 3) (omega arith) (omega arith), v.result));
  };
}

-- and back, after the walk
unwiped : {ns ms : List ℕ} {n m levels r : ℕ} {t : Tree} {w w₁ w₂ w₃ : List ℕ} {c slots : ℕ} (op : Tree → Tree → Tree → Tree) → Desk ns n levels w c slots → Zeroed (5 * c) (5 * c + 4 * slots) w w₁
    → Grown ns ms n m r t → Slated w₁ op ms m w₂ c slots → Zeroed (5 * c) (5 * c + 4 * slots) w₂ w₃ → Remembered w ms m levels w₃ c slots
unwiped {c = c} op k z g s y =
    let k' = s.slate in
    let e = front_trans (front_trans z.same s.same (omega arith)) y.same (omega arith) in
    record {
      desk =
          record {
            shelf = shelf_same k'.shelf y.size (λ x h. y.rest.eq x (let f = k'.fits in omega arith));
            some = k.some;
            fits = k.fits;
            complements = map_same (λ x h l. e.eq x l) (map_grown g k.complements);
            memory =
                record {
                  hit = λ i a b d r p v.
                      let q = p.is in
                      let h = p.inside in
                      absurd (omega (arith, y.zero (i + 3) (omega arith) (omega arith), v.result));
                };
          };
      same = e;
    }

pub walked : (levels : ℕ) (op : Tree → Tree → Tree → Tree) {ns : List ℕ} (ms : List ℕ) {n : ℕ} (t : Tree) {w w₁ w₂ w₃ : List ℕ} {c slots : ℕ} → Desk ns n levels w c slots → Zeroed (5 * c) (5 * c + 4 * slots) w w₁
    → Zeroed (5 * c) (5 * c + 4 * slots) w₂ w₃ → (x : Option Made) → Added (λ xs j. Slated w₁ op xs j w₂ c slots) ns ms n t x → Added (λ xs j. Remembered w xs j levels w₃ c slots) ns ms n t x
walked levels op ms t k z y None g = g
walked levels op ms t k z y (Some m) g = (g.0, unwiped op k z g.0 g.1 y)

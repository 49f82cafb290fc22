-- The branches of the walk for a complement: each leaves, answers and counts what the definition says. Assumes nothing.
use Prim.Native.Nat.{ℕ, ◌+◌, ◌*◌, ◌-◌, ◌≤◌, ◌<◌}
use mathlib.Core.Path.{◌≡◌, ◌∙◌}
use mathlib.Core.List.{List}
use native.Mathlib.Omega.{arith}
use lib.ListN.{get_or, set}
use Rattle.trees.specs.Tree.{Tree, mk, not_t}
use Rattle.trees.specs.Table.{at, trees_of}
use Rattle.nodes.specs.Nodes.{Splits, Grown}
use Rattle.visits.specs.Visits.{complement, Refines}
use Rattle.visits.proofs.VisitLaws.{walk_fits}
use Rattle.visits.proofs.VisitSteps.{refines_leaf, refines_hit, apart_refines}
use Rattle.std.specs.Prelude.{Option, Some, None}
use Rattle.making.specs.Tables.{Shelved}
use Rattle.making.proofs.WalkLaws.{front_less, joined}
use Rattle.walks.specs.Walks.{Within}
use Rattle.walks.specs.Desks.{Desk}
use Rattle.walks.specs.Complements.{Counted, map_of, KeptNot, Complemented}
use Rattle.walks.proofs.MapLaws.{map_at, map_length, map_is, map_write}
use Rattle.walks.proofs.NotLaws.{not_leaf, not_node, map_hit}
use Rattle.walks.proofs.StepLaws.{Step}

module _ {ns : List ℕ} {n levels : ℕ} {w : List ℕ} {c slots : ℕ} (k : Desk ns n levels w c slots) (left p : ℕ) where
  -- a leaf
  pub complement_leaf : p < 2 → Complemented ns ns n levels left p w w c slots (Some (record { count = n; reference = 1 - p; visits = 1 }))
  unfolding complement
  complement_leaf h = (not_leaf levels ns n p k.shelf.table h, k, refines_leaf (λ r. 1 - r) ns left (trees_of ns n) (map_of c w) p h)

  -- a place has a note
  place : 2 ≤ p → p < n + 2 → p - 2 < c
  place h l = omega (arith, k.shelf.table.fits, k.shelf.size)

  pub complement_hit : 2 ≤ p → p < n + 2 → (r : ℕ) → 1 ≤ get_or w (4 * c + (p - 2)) 0 → r ≡ get_or w (4 * c + (p - 2)) 0 - 1
      → Complemented ns ns n levels left p w w c slots (Some (record { count = n; reference = r; visits = 1 }))
  unfolding complement
  complement_hit h l r some e =
      let z = map_at c w (p - 2) (place h l) in
      rw e (
        map_hit k.shelf.table k.complements p h (place h l) some,
        k,
        rw (← z) (refines_hit (λ r. 1 - r) ns left (trees_of ns n) (map_of c w) p h (rw z some)),
      )

  -- the visits fit: no more than two for each node, and one
  pub complement_fits : {us : List Tree} {r v : ℕ} {noted : List ℕ} → left ≤ levels → Within ns n levels left p
      → Refines (complement ns left (trees_of ns n) (map_of c w) p) us noted r v → v ≤ 8193
  unfolding complement
  complement_fits h i f =
      let t = k.shelf.table in
      let z = walk_fits ns n t.back t.one (λ r. 1 - r) levels left (trees_of ns n) (map_of c w) p (levels - left) i.below i.fine (omega arith)
      (omega (arith, map_length c w k.shelf.long, t.fits, k.shelf.size)) in
      omega (arith, f.visits, t.fits, t.small)

-- the map after the node is made, and noted for p
pub map_kept : {ns : List ℕ} {n levels : ℕ} {w : List ℕ} {c slots : ℕ} → Desk ns n levels w c slots → (p : ℕ) → 2 ≤ p → p < n + 2 → {ms : List ℕ} {m : ℕ} {w' : List ℕ} → Shelved w ms m w' c → (r : ℕ)
    → map_of c (set w' (4 * c + (p - 2)) (r + 1)) ≡ set (map_of c w) (p - 2) (r + 1)
map_kept {w = w} {c} k p h l {w' = w'} s r =
    map_write c w' (p - 2) (r + 1) s.shelf.long (omega (arith, k.shelf.table.fits, k.shelf.size))
    ∙ rw (map_is c w w' k.shelf.long s.shelf.long (front_less s.same (omega arith)))

-- a node taken apart: both sides walked, each on the table that it found, and the node made and noted
module _ {ns : List ℕ} {n levels left p l a b : ℕ} {w : List ℕ} {c slots : ℕ} (k : Desk ns n levels w c slots) (s : Step ns n levels left p l a b) (sp : Splits ns n p l a b) (h : 2 ≤ p) (i : p < n + 2)
    (e : get_or w (4 * c + (p - 2)) 0 ≡ 0) where
  pub complement_apart : {ns₁ ns₂ : List ℕ} {n₁ n₂ r₁ r₂ v₁ v₂ : ℕ} {k₁ : List ℕ} (w₂ : List ℕ)
      → Grown ns ns₁ n n₁ r₁ (not_t levels (at (trees_of ns n) a)) → Refines (complement ns (left - 1) (trees_of ns n) (map_of c w) a) (trees_of ns₁ n₁) k₁ r₁ v₁
      → Grown ns₁ ns₂ n₁ n₂ r₂ (not_t levels (at (trees_of ns n) b)) → Refines (complement ns₁ (left - 1) (trees_of ns₁ n₁) k₁ b) (trees_of ns₂ n₂) (map_of c w₂) r₂ v₂
      → (ns₃ w₃ : List ℕ) (m : Option Counted) → KeptNot ns₂ ns₃ n₂ levels (mk l (at (trees_of ns₂ n₂) r₁) (at (trees_of ns₂ n₂) r₂)) p (v₁ + v₂ + 1) w₂ w₃ c slots m
      → Complemented ns ns₃ n levels left p w w₃ c slots m
  unfolding complement
  complement_apart w₂ g₁ f₁ g₂ f₂ ns₃ w₃ None q = rw (not_node levels s) (joined _ _ _ k.shelf.table g₁ g₂ (λ xs j. Desk xs j levels w₃ c slots) ns₃ None q)
  complement_apart w₂ g₁ f₁ g₂ f₂ ns₃ w₃ (Some m) q =
      let z = map_at c w (p - 2) (omega (arith, k.shelf.table.fits, k.shelf.size)) in (
        rw (not_node levels s) (joined _ _ _ k.shelf.table g₁ g₂ (λ xs j. Desk xs j levels w₃ c slots) ns₃ (Some (record { count = m.count; reference = m.reference })) (q.0, q.1)).0,
        q.1,
        rw (q.2, q.3) (apart_refines (λ r. 1 - r) left (map_of c w) k.shelf.table h i s.some (z ∙ e) sp g₁ f₁ f₂ q.0),
      )

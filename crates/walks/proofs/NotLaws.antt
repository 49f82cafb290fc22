-- The steps of the complement, and its map. Assumes nothing.
use Prim.Native.Nat.{ℕ, zero, suc, ◌+◌, ◌*◌, ◌-◌, ◌≤◌, ◌<◌}
use mathlib.Core.Path.{◌≡◌, refl, sym, ap, ap₂, ◌∙◌}
use mathlib.Core.Bool.{Bool, true, false, not}
use mathlib.Core.List.{List}
use native.Mathlib.Decide.{ℕ_discrete}
use native.Mathlib.Omega.{arith}
use lib.ListN.{length, get_or, set}
use lib.Seq.{get_or-set_same, get_or-set_other}
use Rattle.trees.specs.Bits.{Asks, put}
use Rattle.trees.specs.Tree.{Tree, off, on, eval, Fine, mk, tree_of, not_t}
use Rattle.trees.specs.Table.{at, trees_of, Ref}
use Rattle.trees.proofs.TreeLaws.{side, eval_side, eval_agree, fine_off, fine_on}
use Rattle.trees.proofs.FunctionLaws.{tree_one, tree_same, tree_step}
use Rattle.trees.proofs.TableLaws.{goes_ref}
use Rattle.nodes.specs.Nodes.{Table, Grown}
use Rattle.walks.specs.Desks.{Complements}
use Rattle.trees.proofs.ReadLaws.{length_trees}
use Rattle.nodes.proofs.ReadLaws.{grown_goes, grown_count, grown_ref, stays}
use Rattle.making.proofs.WalkLaws.{kept}
use Rattle.walks.proofs.StepLaws.{Step}

module _ (levels : ℕ) where
  -- a complement asks what its diagram asks
  asks_not : (v : ℕ) (d : Tree) → Fine v levels d → Asks v levels (λ s. not (eval d s))
  asks_not v d f = record { only = λ s t e. ap not (eval_agree v levels d f s t e) }

  -- the complement of a leaf is the other
  pub not_leaf : (ns : List ℕ) (n p : ℕ) → Table ns n → p < 2 → Grown ns ns n n (1 - p) (not_t levels (at (trees_of ns n) p))
  unfolding not_t at eval
  not_leaf ns n zero t h = stays ns n 1 _ t (omega arith) (tree_one levels _ (asks_not 0 off (fine_off 0 levels)) on (fine_on 0 levels) (λ s. refl))
  not_leaf ns n (suc zero) t h = stays ns n 0 _ t (omega arith) (tree_one levels _ (asks_not 0 on (fine_on 0 levels)) off (fine_off 0 levels) (λ s. refl))
  not_leaf ns n (suc (suc p)) t h = absurd (omega arith)

  -- the complement of a node is made of those of its sides
  not_sides : (v : ℕ) (d : Tree) → v < levels → Fine v levels d → not_t levels d ≡ mk v (not_t levels (side v false d)) (not_t levels (side v true d))
  unfolding not_t
  not_sides v d h f = tree_step levels v (λ s. not (eval d s)) h (asks_not v d f) ∙ ap₂ (mk v) (half false) (half true)
    where
      half : (x : Bool) → tree_of levels (λ s. not (eval d (put s v x))) ≡ tree_of levels (λ s. not (eval (side v x d) s))
      half x = tree_same levels _ _ (λ s. rw (eval_side v levels x d f s))

  -- the same of a reference to a node
  pub not_node : {ns : List ℕ} {n left p l a b : ℕ} → Step ns n levels left p l a b
      → not_t levels (at (trees_of ns n) p) ≡ mk l (not_t levels (at (trees_of ns n) a)) (not_t levels (at (trees_of ns n) b))
  not_node {ns} {n} {left} {p} {l} s = not_sides l (at (trees_of ns n) p) s.level s.whole ∙ rw (s.low_side, s.high_side)

  -- the complement of p, after those of both its sides are there
  pub not_over : {ns ns₁ ns₂ : List ℕ} {n n₁ n₂ q r : ℕ} {x y : Tree} (l p : ℕ) → not_t levels (at (trees_of ns n) p) ≡ mk l x y
      → Grown ns ns₁ n n₁ q x → Grown ns₁ ns₂ n₁ n₂ r y → p < n + 2
      → not_t levels (at (trees_of ns₂ n₂) p) ≡ mk l (at (trees_of ns₂ n₂) q) (at (trees_of ns₂ n₂) r)
  not_over {q = q} l p e g h k = rw (kept h p (omega (arith, grown_count g)), kept g p k, kept h q (grown_ref g), g.ref.is, h.ref.is) e

-- a map stays one while the table grows
pub map_grown : {ns ms w : List ℕ} {n m r levels c : ℕ} {d : Tree} → Grown ns ms n m r d → Complements ns n levels w c → Complements ms m levels w c
map_grown {n = n} g o = record {
  hit = λ j r h e.
      let k = o.hit j r h e in
      let kj : j + 2 < n + 2 = omega (arith, k.0) in
      (omega (arith, k.0, grown_count g), rw (kept g (j + 2) kj) (goes_ref (grown_goes g) k.1));
}

-- the map does not change where only other numbers do
pub map_same : {ns w w' : List ℕ} {n levels c : ℕ} → ((x : ℕ) → 4 * c ≤ x → x < 5 * c → get_or w' x 0 ≡ get_or w x 0) → Complements ns n levels w c → Complements ns n levels w' c
map_same {c = c} e o = record { hit = λ j r h k. o.hit j r h (sym (e (4 * c + j) (omega arith) (omega arith)) ∙ k) }

-- one more number
pub map_set : {ns w : List ℕ} {n levels c : ℕ} → Complements ns n levels w c → (j r : ℕ) → j < n → 4 * c + j < length w → Ref (trees_of ns n) r (not_t levels (at (trees_of ns n) (j + 2)))
    → Complements ns n levels (set w (4 * c + j) (r + 1)) c
map_set {ns} {w} {n} {levels} {c} o j r h l v = record { hit = λ i q k e. go i q k e (ℕ_discrete i j) }
  where
    go : (i q : ℕ) → i < c → get_or (set w (4 * c + j) (r + 1)) (4 * c + i) 0 ≡ q + 1 → Dec (i ≡ j) → (i < n) × Ref (trees_of ns n) q (not_t levels (at (trees_of ns n) (i + 2)))
    go i q k e (yes z) =
        let f = rw (z, get_or-set_same w (4 * c + j) (r + 1) 0 l) at e in
        let same : q ≡ r = omega arith in
        rw (z, same) (h, v)
    go i q k e (no z) = o.hit i q k (sym (get_or-set_other w (4 * c + j) (4 * c + i) (r + 1) 0 (λ u. z (omega arith))) ∙ e)

-- what the map has is the result
pub map_hit : {ns w : List ℕ} {n levels c : ℕ} → Table ns n → Complements ns n levels w c → (p : ℕ) → 2 ≤ p → p - 2 < c → 0 < get_or w (4 * c + (p - 2)) 0
    → Grown ns ns n n (get_or w (4 * c + (p - 2)) 0 - 1) (not_t levels (at (trees_of ns n) p))
map_hit {ns} {w} {n} {levels} {c} t o p h l k =
    let q : p - 2 + 2 ≡ p = omega arith in
    let v = (o.hit (p - 2) (get_or w (4 * c + (p - 2)) 0 - 1) l (omega arith)).1 in
    stays ns n _ _ t (omega (arith, v.below, length_trees ns n)) (ap (λ (i : ℕ). not_t levels (at (trees_of ns n) i)) (sym q) ∙ sym v.is)

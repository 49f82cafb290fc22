-- The branches of code that walks: each leaves and answers what the definition says. Assumes nothing.
use Prim.Native.Nat.{ℕ, zero, suc, ◌+◌, ◌*◌, ◌-◌, ◌≤◌, ◌<◌}
use mathlib.Core.Path.{◌≡◌, refl, sym, ap, ap₂, ◌∙◌}
use mathlib.Core.List.{List, [], ◌∷◌, ◌++◌}
use native.Mathlib.Omega.{arith}
use lib.ListN.{get_or, set}
use Rattle.trees.specs.Tree.{Tree, mk}
use Rattle.trees.specs.Table.{add_tree, at, ref_of, trees_of, NodeIs}
use Rattle.trees.proofs.TableLaws.{goes_ref, add_mk}
use Rattle.trees.proofs.ReadLaws.{Back, ref_is, back_closed}
use Rattle.nodes.specs.Nodes.{Table, Splits, Grown}
use Rattle.nodes.proofs.ReadLaws.{splits, grown_goes}
use Rattle.visits.specs.Visits.{Went, stop, recall, visit, keep, walk, sweep, sweeps, Refines, RefinesAll}

module _ (leaf : ℕ → ℕ) (ns : List ℕ) where
  stopped : (us : List Tree) (notes : List ℕ) (r : ℕ) → Refines (stop us notes r) us notes r 1
  unfolding stop
  stopped us notes r = record { table = refl; notes = refl; answer = refl; visits = refl }

  -- a leaf
  pub refines_leaf : (left : ℕ) (us : List Tree) (notes : List ℕ) (p : ℕ) → p < 2 → Refines (walk leaf ns left us notes p) us notes (leaf p) 1
  unfolding walk visit
  refines_leaf zero us notes zero h = stopped us notes (leaf 0)
  refines_leaf zero us notes (suc zero) h = stopped us notes (leaf 1)
  refines_leaf (suc left) us notes zero h = stopped us notes (leaf 0)
  refines_leaf (suc left) us notes (suc zero) h = stopped us notes (leaf 1)
  refines_leaf left us notes (suc (suc p)) h = absurd (omega arith)

  hit : (left : ℕ) (us : List Tree) (notes : List ℕ) (j r : ℕ) → get_or notes j 0 ≡ suc r → walk leaf ns left us notes (suc (suc j)) ≡ stop us notes r
  unfolding walk visit recall
  hit zero us notes j r e = rw e
  hit (suc left) us notes j r e = rw e

  -- a place that has a note
  pub refines_hit : (left : ℕ) (us : List Tree) (notes : List ℕ) (p : ℕ) → 2 ≤ p → 0 < get_or notes (p - 2) 0
      → Refines (walk leaf ns left us notes p) us notes (get_or notes (p - 2) 0 - 1) 1
  refines_hit left us notes p h k =
      let q : p ≡ suc (suc (p - 2)) = omega arith in
      rw (ap (walk leaf ns left us notes) q ∙ hit left us notes (p - 2) (get_or notes (p - 2) 0 - 1) (omega arith)) (stopped us notes (get_or notes (p - 2) 0 - 1))

  apart : (left : ℕ) (us : List Tree) (notes : List ℕ) (j l a b : ℕ) → NodeIs ns j l a b → get_or notes j 0 ≡ 0
      → walk leaf ns (suc left) us notes (suc (suc j))
      ≡ keep j l (walk leaf ns left us notes a) (walk leaf ns left (walk leaf ns left us notes a).table (walk leaf ns left us notes a).notes b)
  unfolding walk visit recall
  apart left us notes j l a b i e = rw (e, i.level, i.low, i.high)

  -- the node found or made, and noted
  made : (j l a b va vb d : ℕ) (x y : Went) (t₁ t₂ t₃ : List Tree) (n₁ n₂ : List ℕ) → Refines x t₁ n₁ a va → Refines y t₂ n₂ b vb
      → t₃ ≡ add_tree t₂ (mk l (at t₂ a) (at t₂ b)) → d ≡ ref_of t₃ (mk l (at t₂ a) (at t₂ b)) → Refines (keep j l x y) t₃ (set n₂ j (d + 1)) d (va + vb + 1)
  unfolding keep
  made j l a b va vb d x y t₁ t₂ t₃ n₁ n₂ px py e ref =
      let is : mk l (at y.table x.answer) (at y.table y.answer) ≡ mk l (at t₂ a) (at t₂ b) =
      ap₂ (mk l) (ap₂ at py.table px.answer) (ap₂ at py.table py.answer) in
      let tab : add_tree y.table (mk l (at y.table x.answer) (at y.table y.answer)) ≡ t₃ = ap₂ add_tree py.table is ∙ sym e in
      let answer = ap₂ ref_of tab is ∙ sym ref in
      record {
        table = tab;
        notes = ap₂ (λ (m : List ℕ) (r : ℕ). set m j r) py.notes (ap suc answer ∙ plus d);
        answer = answer;
        visits = (let u = px.visits in let v = py.visits in omega arith);
      }
    where
      plus : (d : ℕ) → suc d ≡ d + 1
      plus d = omega arith

  -- a node taken apart: its low reference followed, then its high one, and the node found or made
  refines_apart : (left : ℕ) (us : List Tree) (notes : List ℕ) (p l a b r₁ r₂ v₁ v₂ d : ℕ) (t₁ t₂ t₃ : List Tree) (n₁ n₂ : List ℕ)
      → 2 ≤ p → 1 ≤ left → get_or notes (p - 2) 0 ≡ 0 → NodeIs ns (p - 2) l a b
      → Refines (walk leaf ns (left - 1) us notes a) t₁ n₁ r₁ v₁ → Refines (walk leaf ns (left - 1) t₁ n₁ b) t₂ n₂ r₂ v₂
      → t₃ ≡ add_tree t₂ (mk l (at t₂ r₁) (at t₂ r₂)) → d ≡ ref_of t₃ (mk l (at t₂ r₁) (at t₂ r₂))
      → Refines (walk leaf ns left us notes p) t₃ (set n₂ (p - 2) (d + 1)) d (v₁ + v₂ + 1)
  refines_apart left us notes p l a b r₁ r₂ v₁ v₂ d t₁ t₂ t₃ n₁ n₂ h some none i px py q ref =
      let x = walk leaf ns (left - 1) us notes a in
      let ep : p ≡ suc (suc (p - 2)) = omega arith in
      let el : left ≡ suc (left - 1) = omega arith in
      let z : walk leaf ns left us notes p ≡ keep (p - 2) l x (walk leaf ns (left - 1) x.table x.notes b) =
      ap₂ (λ (k r : ℕ). walk leaf ns k us notes r) el ep ∙ apart (left - 1) us notes (p - 2) l a b i none in
      rw z (made (p - 2) l r₁ r₂ v₁ v₂ d x _ t₁ t₂ t₃ n₁ n₂ px (rw (px.table, px.notes) py) q ref)

-- the numbers of a node are those that its tree splits into
pub numbers_are : {ns : List ℕ} {n p l a b : ℕ} → Table ns n → 2 ≤ p → p < n + 2 → Splits ns n p l a b → NodeIs ns (p - 2) l a b
numbers_are {ns} {n} {p} {l} {a} {b} t h k s =
    let z = splits ns n p t.back h k in
    let e = sym z.is ∙ s.is in
    let el : get_or ns (3 * (p - 2)) 0 ≡ l = cc in
    let ea : at (trees_of ns n) (get_or ns (3 * (p - 2) + 1) 0) ≡ at (trees_of ns n) a = cc in
    let eb : at (trees_of ns n) (get_or ns (3 * (p - 2) + 2) 0) ≡ at (trees_of ns n) b = cc in
    record { level = el; low = t.one _ a z.low s.low ea; high = t.one _ b z.high s.high eb }

-- the walk reads the first m nodes only: numbers alike there give the same walk
walk_front : (leaf : ℕ → ℕ) (ns ns' : List ℕ) (m : ℕ) → Back ns m → ((i : ℕ) → i < 3 * m → get_or ns' i 0 ≡ get_or ns i 0)
    → (left : ℕ) (us : List Tree) (notes : List ℕ) (p : ℕ) → p < m + 2 → walk leaf ns' left us notes p ≡ walk leaf ns left us notes p
unfolding walk visit
walk_front leaf ns ns' m back e zero us notes p h = refl
walk_front leaf ns ns' m back e (suc left) us notes zero h = refl
walk_front leaf ns ns' m back e (suc left) us notes (suc zero) h = refl
walk_front leaf ns ns' m back e (suc left) us notes (suc (suc j)) h =
    let b = back j (omega arith) in
    let x = walk leaf ns left us notes (get_or ns (3 * j + 1) 0) in
    rw (
      e (3 * j) (omega arith),
      e (3 * j + 1) (omega arith),
      e (3 * j + 2) (omega arith),
      walk_front leaf ns ns' m back e left us notes (get_or ns (3 * j + 1) 0) (omega arith),
      walk_front leaf ns ns' m back e left x.table x.notes (get_or ns (3 * j + 2) 0) (omega arith),
    )

-- The complement's last branch: both sides walked, each on the nodes that it found, and the node found or made.
pub apart_refines : (leaf : ℕ → ℕ) (left : ℕ) (notes : List ℕ) {ns ns₁ ns₂ ns₃ : List ℕ} {n n₁ n₂ n₃ p l a b r₁ r₂ v₁ v₂ d : ℕ} {k₁ k₂ : List ℕ} {x : Tree}
    → Table ns n → 2 ≤ p → p < n + 2 → 1 ≤ left → get_or notes (p - 2) 0 ≡ 0 → Splits ns n p l a b
    → Grown ns ns₁ n n₁ r₁ x → Refines (walk leaf ns (left - 1) (trees_of ns n) notes a) (trees_of ns₁ n₁) k₁ r₁ v₁
    → Refines (walk leaf ns₁ (left - 1) (trees_of ns₁ n₁) k₁ b) (trees_of ns₂ n₂) k₂ r₂ v₂
    → Grown ns₂ ns₃ n₂ n₃ d (mk l (at (trees_of ns₂ n₂) r₁) (at (trees_of ns₂ n₂) r₂))
    → Refines (walk leaf ns left (trees_of ns n) notes p) (trees_of ns₃ n₃) (set k₂ (p - 2) (d + 1)) d (v₁ + v₂ + 1)
apart_refines leaf left notes {ns} {ns₁} {ns₂} {ns₃} {n} {n₁} {n₂} {n₃} {p} {l} {a} {b} {r₁} {r₂} {v₁} {v₂} {d} {k₁} {k₂} t h k some none s g₁ w₁ w₂ g₃ =
    let f = walk_front leaf ns ns₁ n t.back g₁.same.eq (left - 1) (trees_of ns₁ n₁) k₁ b s.high in
    refines_apart leaf ns left (trees_of ns n) notes p l a b r₁ r₂ v₁ v₂ d (trees_of ns₁ n₁) (trees_of ns₂ n₂) (trees_of ns₃ n₃) k₁ k₂ h some none (numbers_are t h k s)
    w₁ (rw (← f) w₂) g₃.trees (ref_is ns₃ n₃ d _ g₃.table.one g₃.ref)

-- The sweep's last branch: both sides swept into a table of their own, and the node written behind them.
pub swept_refines : (leaf : ℕ → ℕ) (left : ℕ) (notes : List ℕ) {ns us us₁ us₂ us₃ : List ℕ} {m n n₁ n₂ n₃ p l a b r₁ r₂ v₁ v₂ d : ℕ} {k₁ k₂ : List ℕ}
    → Table ns m → Table us n → 2 ≤ p → p < m + 2 → 1 ≤ left → get_or notes (p - 2) 0 ≡ 0 → Splits ns m p l a b
    → at (trees_of ns m) p ≡ mk l (at (trees_of ns m) a) (at (trees_of ns m) b)
    → Grown us us₁ n n₁ r₁ (at (trees_of ns m) a) → Refines (walk leaf ns (left - 1) (trees_of us n) notes a) (trees_of us₁ n₁) k₁ r₁ v₁
    → Grown us₁ us₂ n₁ n₂ r₂ (at (trees_of ns m) b) → Refines (walk leaf ns (left - 1) (trees_of us₁ n₁) k₁ b) (trees_of us₂ n₂) k₂ r₂ v₂
    → Grown us us₃ n n₃ d (at (trees_of ns m) p)
    → Refines (walk leaf ns left (trees_of us n) notes p) (trees_of us₃ n₃) (set k₂ (p - 2) (d + 1)) d (v₁ + v₂ + 1)
swept_refines leaf left notes {ns} {us} {us₁} {us₂} {us₃} {m} {n} {n₁} {n₂} {n₃} {p} {l} {a} {b} {r₁} {r₂} {v₁} {v₂} {d} {k₁} {k₂} t tu h k some none s whole g₁ w₁ g₂ w₂ g₃ =
    let A = at (trees_of ns m) a in
    let B = at (trees_of ns m) b in
    let e₁ : at (trees_of us₂ n₂) r₁ ≡ A = (goes_ref (grown_goes g₂) g₁.ref).is in
    let is : at (trees_of ns m) p ≡ mk l (at (trees_of us₂ n₂) r₁) (at (trees_of us₂ n₂) r₂) = whole ∙ sym (ap₂ (mk l) e₁ g₂.ref.is) in
    let trees : trees_of us₃ n₃ ≡ add_tree (trees_of us₂ n₂) (mk l (at (trees_of us₂ n₂) r₁) (at (trees_of us₂ n₂) r₂)) =
    g₃.trees ∙ ap (add_tree (trees_of us n)) whole ∙ sym (add_mk (trees_of us n) l A B (back_closed us n tu.back))
    ∙ ap₂ add_tree (sym (g₂.trees ∙ ap (λ (ts : List Tree). add_tree ts B) g₁.trees)) (sym whole ∙ is) in
    refines_apart leaf ns left (trees_of us n) notes p l a b r₁ r₂ v₁ v₂ d (trees_of us₁ n₁) (trees_of us₂ n₂) (trees_of us₃ n₃) k₁ k₂ h some none (numbers_are t h k s)
    w₁ w₂ trees (ref_is us₃ n₃ d _ g₃.table.one (record { below = g₃.ref.below; is = g₃.ref.is ∙ is }))

-- one row more
pub sweeps_more : (ns : List ℕ) (levels : ℕ) (us : List Tree) (notes rs : List ℕ) (r : ℕ) {t₁ t₂ : List Tree} {k₁ k₂ bs : List ℕ} {v₁ b v₂ : ℕ}
    → RefinesAll (sweeps ns levels us notes rs) t₁ k₁ bs v₁ → Refines (sweep ns levels t₁ k₁ r) t₂ k₂ b v₂
    → RefinesAll (sweeps ns levels us notes (rs ++ r ∷ [])) t₂ k₂ (bs ++ b ∷ []) (v₁ + v₂)
unfolding sweeps
sweeps_more ns levels us notes [] r p q =
    let w = rw (← p.table, ← p.notes) at q in
    record {
      table = w.table;
      notes = w.notes;
      answers = rw (← p.answers, w.answer);
      visits = omega (arith, p.visits, w.visits);
    }
sweeps_more ns levels us notes (x ∷ rs) r p q =
    let z = sweep ns levels us notes x in
    let w = sweeps_more ns levels z.table z.notes rs r (record { table = p.table; notes = p.notes; answers = refl; visits = refl }) q in
    record {
      table = w.table;
      notes = w.notes;
      answers = rw (← p.answers, w.answers);
      visits = omega (arith, p.visits, w.visits);
    }

-- Laws of a node taken apart: what it does to the table, to the notes behind it and to the visits. Assumes nothing.
use Prim.Native.Nat.{ℕ, suc, ◌+◌, ◌*◌, ◌-◌, ◌≤◌, ◌<◌}
use mathlib.Core.Path.{◌≡◌, sym, ap, ap₂, ◌∙◌}
use mathlib.Core.Bool.{false}
use mathlib.Core.List.{List, [], ◌∷◌, ◌++◌}
use mathlib.Core.Logic.{⊎_elim}
use native.Mathlib.Decide.{ℕ_discrete}
use native.Mathlib.Omega.{arith}
use lib.ListN.{length, get_or, set, take, drop, length-append, length-set}
use lib.Seq.{take-set-le, take-set-lt, drop-set-lt, drop-set-add, length-take-le, get_or-set_same, get_or-set_other}
use Rattle.trees.specs.Tree.{Tree, node, Fine}
use Rattle.trees.specs.Table.{mem, add_tree, at, trees_of, Ref}
use Rattle.trees.proofs.Tests.{lt_or_ge, false_true}
use Rattle.trees.proofs.TreeLaws.{node_fine, mk_differ}
use Rattle.trees.proofs.TableLaws.{Goes, goes_ref, goes_at, ref_mem, push_out}
use Rattle.trees.proofs.ReadLaws.{length_trees, at_end}
use Rattle.nodes.specs.Nodes.{Table, Splits, Grown}
use Rattle.nodes.proofs.ReadLaws.{grown_goes, grown_count, grown_ref, stored, stored_front, stored_rest, stored_trees, stored_table}
use Rattle.nodes.proofs.PartLaws.{sides_only}
use Rattle.visits.specs.Visits.{sweep, Refines}
use Rattle.visits.proofs.VisitSteps.{swept_refines}
use Rattle.sweeping.specs.Sweeps.{Ordered, Noted, notes_of, Emitted}
use Rattle.sweeping.proofs.NoteLaws.{notes_le, sides_ordered, few, note_is, few_visits, unseen}

-- both sides of an unseen node were swept, and it is written with its note
module _ {ns : List ℕ} {m : ℕ} {w : List ℕ} {c n : ℕ} (o : Noted ns m w c n) {r l a b : ℕ} (s : Splits ns m r l a b) (two : 2 ≤ r) (top : r < m + 2) (none : get_or w (3 * c + (r - 2)) 0 ≡ 0)
    {w₁ w₂ : List ℕ} {n₁ n₂ p q v₁ v₂ : ℕ} (g : Emitted ns m a w w₁ c n n₁ p v₁) (h : Emitted ns m b w₁ w₂ c n₁ n₂ q v₂) where
  x : Tree
  x = at (trees_of ns m) a

  y : Tree
  y = at (trees_of ns m) b

  old : List Tree
  old = trees_of (take (3 * c) w) n

  now : List Tree
  now = trees_of (take (3 * c) w₂) n₂

  same_r : r - 2 + 2 ≡ r
  same_r = omega arith

  both : now ≡ add_tree (add_tree old x) y
  unfolding now old x y
  both = rw (h.grown.trees, g.grown.trees)

  out : mem (node l x y) now ≡ false
  unfolding old x y
  out = rw both (sides_only old l x y (unseen o (r - 2) (omega arith) none l x y (rw same_r s.is)))

  -- a place whose note stood before the node was written is not the node's
  other : (i k : ℕ) → i < m → get_or w₂ (3 * c + i) 0 ≡ k + 3 → i ≡ r - 2 → ⊥
  unfolding now x y
  other i k u v e =
      let back : get_or w₂ (3 * c + i) 0 - 1 ≡ k + 2 = omega arith in
      let f = rw back at (h.notes.right i u (omega arith)) in
      let t : i + 2 ≡ r = omega arith in
      false_true out (ref_mem now (k + 2) l x y (record { below = f.below; is = f.is ∙ ap (at (trees_of ns m)) t ∙ s.is }))

  own : get_or (set w₂ (3 * c + (r - 2)) (n₂ + 3)) (3 * c + (r - 2)) 0 ≡ n₂ + 3
  own = get_or-set_same w₂ (3 * c + (r - 2)) (n₂ + 3) 0 (omega (arith, few o, h.notes.room))

  each : (k : ℕ) → k < n₂ + 1 → (i : ℕ) × (i < m) × (get_or (set w₂ (3 * c + (r - 2)) (n₂ + 3)) (3 * c + i) 0 ≡ k + 3)
  each k u = ⊎_elim
      (λ v.
      let e = h.notes.each k v in
      let f = other e.0 k e.1 e.2 in
      (e.0, e.1, get_or-set_other w₂ (3 * c + (r - 2)) (3 * c + e.0) (n₂ + 3) 0 (λ z. f (omega arith)) ∙ e.2))
      (λ v. let z : k ≡ n₂ = omega arith in (r - 2, omega arith, rw z own))
      (lt_or_ge k n₂)

  -- there is room for the node: every tree of the table has a note of its own
  pub swept_room : n₂ < m
  swept_room = let e = notes_le m (n₂ + 1) (λ i. get_or (set w₂ (3 * c + (r - 2)) (n₂ + 3)) (3 * c + i) 0) each in omega arith

  -- and the visits of both sides do not wrap
  pub swept_fits : {left : ℕ} → Ordered ns m left r → v₁ + v₂ + 1 ≤ 16387
  swept_fits q =
      let d = sides_ordered q s in
      let t = o.source in
      omega (arith, t.fits, t.small, few_visits o d.1 g, few_visits g.notes d.2 h)

  front : List ℕ
  front = take (3 * c) w₂

  -- the slice once the node and its note are written
  abbrev pub w₃ : List ℕ
  w₃ = set (stored w₂ n₂ l p q) (3 * c + (r - 2)) (n₂ + 3)

  part : take (3 * c) w₃ ≡ stored front n₂ l p q
  unfolding front
  part =
      let k = swept_room in
      let f = few o in
      take-set-le (3 * c) (stored w₂ n₂ l p q) (3 * c + (r - 2)) (n₂ + 3) (omega arith)
      ∙ rw (take-set-lt (3 * c) _ (3 * n₂ + 2) q (omega arith), take-set-lt (3 * c) _ (3 * n₂ + 1) p (omega arith), take-set-lt (3 * c) w₂ (3 * n₂) l (omega arith))

  ep : at now p ≡ x
  unfolding now x
  ep = goes_at (grown_goes h.grown) p (omega (arith, grown_ref g.grown, length_trees (take (3 * c) w₁) n₁)) ∙ g.grown.ref.is

  eq : at now q ≡ y
  unfolding now y
  eq = h.grown.ref.is

  out' : mem (node l (at now p) (at now q)) now ≡ false
  out' = rw (ep, eq) out

  fits : 3 * n₂ + 3 ≤ length front
  unfolding front
  fits = rw (length-take-le (3 * c) w₂ (omega (arith, h.notes.room))) (omega (arith, swept_room, few o))

  hp : p < n₂ + 2
  hp = omega (arith, grown_ref g.grown, grown_count h.grown)

  hq : q < n₂ + 2
  hq = grown_ref h.grown

  next : trees_of (take (3 * c) w₃) (n₂ + 1) ≡ now ++ node l x y ∷ []
  unfolding front now
  next = rw part (stored_trees front n₂ l p q h.grown.table hp hq fits out' ∙ ap₂ (λ (u v : Tree). now ++ node l u v ∷ []) ep eq)

  whole : trees_of (take (3 * c) w₃) (n₂ + 1) ≡ add_tree old (at (trees_of ns m) r)
  unfolding add_tree x y
  whole = next ∙ sym (push_out now (node l x y) out) ∙ rw (s.is, both)

  here : Ref (trees_of (take (3 * c) w₃) (n₂ + 1)) (n₂ + 2) (at (trees_of ns m) r)
  unfolding x y now
  here = rw (next, s.is) (record {
    below = rw length-append (omega (arith, length_trees (take (3 * c) w₂) n₂));
    is = at_end now (node l x y) n₂ (length_trees (take (3 * c) w₂) n₂);
  })

  longer : Goes now (trees_of (take (3 * c) w₃) (n₂ + 1))
  longer = record { more = node l x y ∷ []; is = next }

  -- behind the table only the one note has changed
  far : (i : ℕ) → 3 * c ≤ i → get_or w₃ i 0 ≡ get_or (set w₂ (3 * c + (r - 2)) (n₂ + 3)) i 0
  far i u =
      let k = swept_room in
      let f = few o in
      go (ℕ_discrete i (3 * c + (r - 2)))
    where
      go : Dec (i ≡ 3 * c + (r - 2)) → get_or w₃ i 0 ≡ get_or (set w₂ (3 * c + (r - 2)) (n₂ + 3)) i 0
      go (yes e) = rw e (get_or-set_same (stored w₂ n₂ l p q) (3 * c + (r - 2)) (n₂ + 3) 0 (simp length-set (omega (arith, few o, h.notes.room))) ∙ sym own)
      go (no e) =
          get_or-set_other (stored w₂ n₂ l p q) (3 * c + (r - 2)) i (n₂ + 3) 0 e
          ∙ rw (
            get_or-set_other _ (3 * n₂ + 2) i q 0 (omega (arith, swept_room, few o)),
            get_or-set_other _ (3 * n₂ + 1) i p 0 (omega (arith, swept_room, few o)),
            get_or-set_other _ (3 * n₂) i l 0 (omega (arith, swept_room, few o)),
            get_or-set_other w₂ (3 * c + (r - 2)) i (n₂ + 3) 0 e,
          )

  table : Table (take (3 * c) w₃) (n₂ + 1)
  unfolding front now
  table = rw part (stored_table front n₂ l p q h.grown.table hp hq fits out')

  right : (i : ℕ) → i < m → 0 < get_or w₃ (3 * c + i) 0 → Ref (trees_of (take (3 * c) w₃) (n₂ + 1)) (get_or w₃ (3 * c + i) 0 - 1) (at (trees_of ns m) (i + 2))
  unfolding now
  right i u v = go (ℕ_discrete i (r - 2))
    where
      go : Dec (i ≡ r - 2) → Ref (trees_of (take (3 * c) w₃) (n₂ + 1)) (get_or w₃ (3 * c + i) 0 - 1) (at (trees_of ns m) (i + 2))
      go (yes e) =
          let z : n₂ + 3 - 1 ≡ n₂ + 2 = omega arith in
          rw (far (3 * c + i) (omega arith), e, own, z, same_r) here
      go (no e) =
          let z = far (3 * c + i) (omega arith) ∙ get_or-set_other w₂ (3 * c + (r - 2)) (3 * c + i) (n₂ + 3) 0 (omega arith) in
          rw z (goes_ref longer (h.notes.right i u (rw z at v)))

  grown : Grown (take (3 * c) w) (take (3 * c) w₃) n (n₂ + 1) (n₂ + 2) (at (trees_of ns m) r)
  unfolding front old now
  grown = record {
    table = table;
    size = rw part (simp length-set (h.grown.size ∙ g.grown.size));
    trees = whole;
    ref = here;
    same =
        record {
          eq = λ i u. rw part ((stored_front front n₂ l p q fits).eq i (omega (arith, grown_count g.grown, grown_count h.grown)))
              ∙ h.grown.same.eq i (omega (arith, grown_count g.grown)) ∙ g.grown.same.eq i u;
        };
    rest =
        record {
          eq = λ i u. rw part ((stored_rest front n₂ l p q fits).eq i (omega arith))
              ∙ h.grown.rest.eq i (omega arith) ∙ g.grown.rest.eq i (omega (arith, grown_count h.grown));
        };
  }

  -- the one note is written, and no other
  notes_after : set (notes_of m c w₂) (r - 2) (n₂ + 2 + 1) ≡ notes_of m c w₃
  notes_after =
      let k = swept_room in
      let f = few o in
      let z : n₂ + 2 + 1 ≡ n₂ + 3 = omega arith in
      sym (rw (
        drop-set-add (3 * c) (stored w₂ n₂ l p q) (r - 2) (n₂ + 3),
        drop-set-lt (3 * c) _ (3 * n₂ + 2) q (omega arith),
        drop-set-lt (3 * c) _ (3 * n₂ + 1) p (omega arith),
        drop-set-lt (3 * c) w₂ (3 * n₂) l (omega arith),
        take-set-lt m (drop (3 * c) w₂) (r - 2) (n₂ + 3) (omega arith),
        z,
      ))

  counted : (lo hi left : ℕ) → Fine lo hi (at (trees_of ns m) r) → hi ≤ lo + left
      → Refines (sweep ns left (trees_of (take (3 * c) w) n) (notes_of m c w) r) (trees_of (take (3 * c) w₃) (n₂ + 1)) (notes_of m c w₃) (n₂ + 2) (v₁ + v₂ + 1)
  unfolding sweep
  counted lo hi left f u =
      let d = node_fine lo hi l (at (trees_of ns m) a) (at (trees_of ns m) b) (rw s.is at f) in
      let some : 1 ≤ left = omega (arith, d.0, d.1) in
      let less : hi ≤ suc l + (left - 1) = omega (arith, d.0, d.1) in
      rw notes_after at (swept_refines (λ r. r) left (notes_of m c w) o.source o.table two top some (note_is o (r - 2) (omega arith) ∙ none) s
      (s.is ∙ sym (mk_differ l _ _ d.4)) g.grown (g.counted (suc l) hi (left - 1) d.2 less) h.grown (h.counted (suc l) hi (left - 1) d.3 less) grown)

  -- the node's diagram was added, and every tree has its note again
  pub swept : Emitted ns m r w w₃ c n (n₂ + 1) (n₂ + 2) (v₁ + v₂ + 1)
  swept = record {
    grown = grown;
    notes =
        record {
          source = o.source;
          size = o.size;
          room = simp length-set h.notes.room;
          table = table;
          right = right;
          each = λ k u. let e = each k u in (e.0, e.1, far (3 * c + e.0) (omega arith) ∙ e.2);
        };
    rest =
        record {
          eq = λ i u. far i (omega arith) ∙ get_or-set_other w₂ (3 * c + (r - 2)) i (n₂ + 3) 0 (omega (arith, few o)) ∙ h.rest.eq i u ∙ g.rest.eq i u;
        };
    counted = counted;
  }

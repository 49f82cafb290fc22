-- Laws of the notes of a sweep: a visit that goes no further, a node that is not in the table yet, and how many visits a sweep
-- makes. Assumes nothing.
use Prim.Native.Nat.{ℕ, zero, suc, ◌+◌, ◌*◌, ◌-◌, ◌≤◌, ◌<◌}
use mathlib.Core.Path.{◌≡◌, refl, sym, ap, ◌∙◌}
use mathlib.Core.Bool.{false}
use mathlib.Core.List.{List}
use native.Mathlib.Decide.{dec_lt}
use native.Mathlib.Omega.{arith}
use lib.ListN.{length, get_or, take, drop, length-drop}
use lib.Seq.{length-take-le, get_or-take, get_or-drop}
use Rattle.trees.specs.Tree.{Tree, node}
use Rattle.trees.specs.Table.{mem, at, trees_of}
use Rattle.trees.proofs.Tests.{not_true}
use Rattle.trees.proofs.TreeLaws.{node_fine}
use Rattle.trees.proofs.TableLaws.{at_index, mem_place}
use Rattle.trees.proofs.RoomLaws.{pigeon}
use Rattle.trees.proofs.ReadLaws.{length_trees}
use Rattle.nodes.specs.Nodes.{Splits}
use Rattle.nodes.proofs.ReadLaws.{stays}
use Rattle.visits.specs.Visits.{sweep}
use Rattle.visits.proofs.VisitLaws.{walk_fits}
use Rattle.visits.proofs.VisitSteps.{refines_leaf, refines_hit}
use Rattle.sweeping.specs.Sweeps.{Ordered, Noted, notes_of, Emitted}

-- a leaf's reference leads to the leaf in every table
at_leaf : (ts us : List Tree) (r : ℕ) → r < 2 → at ts r ≡ at us r
unfolding at
at_leaf ts us zero h = refl
at_leaf ts us (suc zero) h = refl
at_leaf ts us (suc (suc r)) h = absurd (omega arith)

-- notes that stand for different places are no more than the places
pub notes_le : (m n : ℕ) (f : ℕ → ℕ) → ((p : ℕ) → p < n → (i : ℕ) × (i < m) × (f i ≡ p + 3)) → n ≤ m
notes_le m n f each =
    pigeon n m (λ p. (pick p).0) (λ p h. ((pick p).1 h).0)
    (λ p q h k e. let a = ((pick p).1 h).1 in let b = ((pick q).1 k).1 in let c = ap f e in omega arith)
  where
    pick : (p : ℕ) → (i : ℕ) × (p < n → (i < m) × (f i ≡ p + 3))
    pick p = elim (dec_lt p n) [
      | yes h ↦ (let w = each p h in (w.0, λ k. (w.1, w.2)))
      | no h ↦ (0, λ k. absurd (h k))
    ]

-- a node has a level of its own, and its sides are reduced and ordered over the levels below it
pub sides_ordered : {ns : List ℕ} {m left r l a b : ℕ} → Ordered ns m left r → Splits ns m r l a b → (1 ≤ left) × Ordered ns m (left - 1) a × Ordered ns m (left - 1) b
sides_ordered {l = l} o s =
    let g = node_fine o.lo o.hi l _ _ (rw s.is at o.fine) in
    let d = o.deep in (
      omega (arith, g.0, g.1),
      record { below = s.low; lo = suc l; hi = o.hi; fine = g.2; deep = omega (arith, g.0, g.1) },
      record { below = s.high; lo = suc l; hi = o.hi; fine = g.3; deep = omega (arith, g.0, g.1) },
    )

-- a table with its notes
module _ {ns : List ℕ} {m : ℕ} {w : List ℕ} {c n : ℕ} (o : Noted ns m w c n) where
  -- there are as many notes as nodes, at least
  pub few : m ≤ c
  few = omega (arith, o.source.fits, o.size)

  -- the note of a place
  pub note_is : (i : ℕ) → i < m → get_or (notes_of m c w) i 0 ≡ get_or w (3 * c + i) 0
  note_is i h = get_or-take m (drop (3 * c) w) i 0 h ∙ get_or-drop (3 * c) w i 0

  -- a sweep makes few visits: their sum does not wrap
  pub few_visits : {left p n' r v : ℕ} {w' : List ℕ} → Ordered ns m left p → Emitted ns m p w w' c n n' r v → v ≤ 2 * m + 1
  unfolding sweep
  few_visits {left} {p} q e =
      let long : length (notes_of m c w) ≡ m = length-take-le m (drop (3 * c) w) (rw length-drop (omega (arith, few, o.room))) in
      let f = walk_fits ns m o.source.back o.source.one (λ r. r) q.hi left (trees_of (take (3 * c) w) n) (notes_of m c w) p q.lo q.below q.fine q.deep
      (omega arith) in
      omega (arith, (e.counted q.lo q.hi left q.fine q.deep).visits)

  -- a leaf: nothing is added
  pub swept_leaf : (r : ℕ) → r < 2 → Emitted ns m r w w c n n r 1
  unfolding sweep
  swept_leaf r h = record {
    grown = stays (take (3 * c) w) n r _ o.table (omega arith) (at_leaf (trees_of ns m) (trees_of (take (3 * c) w) n) r h);
    notes = o;
    rest = record { eq = λ i k. refl };
    counted = λ lo hi left f k. refines_leaf (λ r. r) ns left (trees_of (take (3 * c) w) n) (notes_of m c w) r h;
  }

  -- a diagram that has a note
  pub swept_hit : (r : ℕ) → 2 ≤ r → r < m + 2 → 0 < get_or w (3 * c + (r - 2)) 0 → Emitted ns m r w w c n n (get_or w (3 * c + (r - 2)) 0 - 1) 1
  unfolding sweep
  swept_hit r h k z =
      let q : r - 2 + 2 ≡ r = omega arith in
      let f = rw q at (o.right (r - 2) (omega arith) z) in
      record {
        grown = stays (take (3 * c) w) n _ _ o.table (omega (arith, f.below, length_trees (take (3 * c) w) n)) (sym f.is);
        notes = o;
        rest = record { eq = λ i k. refl };
        counted = λ lo hi left g u.
            let e = note_is (r - 2) (omega arith) in
            rw e at (refines_hit (λ r. r) ns left (trees_of (take (3 * c) w) n) (notes_of m c w) r h (rw e z));
      }

  -- a tree of the nodes that has no note is not in the table
  pub unseen : (k : ℕ) → k < m → get_or w (3 * c + k) 0 ≡ 0 → (l : ℕ) (x y : Tree) → at (trees_of ns m) (k + 2) ≡ node l x y → mem (node l x y) (trees_of (take (3 * c) w) n) ≡ false
  unseen k h z l x y e = not_true _ λ q.
      let len = length_trees (take (3 * c) w) n in
      let u = mem_place (node l x y) (trees_of (take (3 * c) w) n) q in
      let v = o.each u.0 (omega (arith, u.1)) in
      let val = v.2 in
      let f = o.right v.0 v.1 (omega arith) in
      let back : get_or w (3 * c + v.0) 0 - 1 ≡ u.0 + 2 = omega arith in
      let g : at (trees_of (take (3 * c) w) n) (u.0 + 2) ≡ at (trees_of ns m) (v.0 + 2) = rw back at f.is in
      let i : v.0 + 2 ≡ k + 2 = o.source.one (v.0 + 2) (k + 2) (omega (arith, v.1)) (omega arith) (sym g ∙ at_index _ u.0 ∙ u.2 ∙ sym e) in
      let j : v.0 ≡ k = omega arith in
      let t : get_or w (3 * c + k) 0 ≡ u.0 + 3 = rw (← j) val in
      omega arith

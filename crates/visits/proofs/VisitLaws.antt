-- Laws of the walk that counts its visits: the notes that it leaves, its count, its answer. Assumes nothing.
use Prim.Native.Nat.{ℕ, zero, suc, ◌+◌, ◌*◌, ◌≤◌, ◌<◌}
use mathlib.Core.Path.{◌≡◌, refl, sym, ap, ◌∙◌}
use mathlib.Core.Bool.{Bool, true}
use mathlib.Core.List.{List}
use native.Mathlib.Decide.{ℕ_discrete}
use native.Mathlib.Omega.{arith}
use borrow.Author.Tests.{lt-ltb}
use native.Mathlib.Numerals.{add-two}
use lib.Dec.{ltb}
use lib.ListN.{length, get_or, set, length-set}
use lib.Seq.{get_or-set_same, get_or-set_other}
use Rattle.trees.specs.Tree.{Tree, node, Fine}
use Rattle.trees.specs.Table.{mem, add_tree, at, node_at, trees_of}
use Rattle.trees.proofs.TreeLaws.{node_fine}
use Rattle.trees.proofs.ReadLaws.{Back, One, at_node}
use Rattle.trees.specs.Sizes.{node_count}
use Rattle.visits.specs.Visits.{Went, stop, recall, visit, keep, walk}
use Rattle.visits.proofs.GrowthLaws.{mem_add, mem_old, mem_new, add_most}
use Rattle.visits.proofs.CountLaws.{count_below, count_most, count_more, count_le, chosen, chosen_length, chosen_mem}

-- how many of the first m places have a note
unfoldable pub remembered : ℕ → List ℕ → ℕ
remembered m notes = count_below m (λ i. ltb 0 (get_or notes i 0))

-- a walk makes one visit, and two more for each place newly noted
pub record Counted (m : ℕ) (notes : List ℕ) (w : Went) : Type 0 where
  pub count : w.visits + 2 * remembered m notes ≡ suc (2 * remembered m w.notes)

-- what a walk keeps of the notes: how many there are, and those of all places past p's
pub record Keeps (p : ℕ) (notes notes' : List ℕ) : Type 0 where
  pub size : length notes' ≡ length notes
  pub past : (i : ℕ) → p < i + 2 → get_or notes' i 0 ≡ get_or notes i 0

-- the trees of the noted places are in the table vs
pub record Held (ns : List ℕ) (m : ℕ) (notes : List ℕ) (vs : List Tree) : Type 0 where
  pub each : (i : ℕ) → i < m → ltb 0 (get_or notes i 0) ≡ true → mem (at (trees_of ns m) (suc (suc i))) vs ≡ true

-- what the walk from p does to the notes: it makes one visit and two more for each place newly noted, and notes only places of
-- p's diagram
pub record Tells (ns : List ℕ) (m : ℕ) (notes : List ℕ) (p : ℕ) (w : Went) : Type 0 where
  pub keeps : Keeps p notes w.notes
  pub counted : Counted m notes w
  pub held : (vs : List Tree) → Held ns m notes vs → Held ns m w.notes (add_tree vs (at (trees_of ns m) p))

-- a table of m nodes whose references go back and of which no two lead to the same tree
module _ (ns : List ℕ) (m : ℕ) (back : Back ns m) (one : One ns m) where
  -- the tree of a reference
  abbrev T : ℕ → Tree
  T r = at (trees_of ns m) r

  abbrev low : ℕ → ℕ
  low j = get_or ns (3 * j + 1) 0

  abbrev high : ℕ → ℕ
  high j = get_or ns (3 * j + 2) 0

  pub split : (j : ℕ) → j < m → T (suc (suc j)) ≡ node (get_or ns (3 * j) 0) (T (low j)) (T (high j))
  unfolding node_at
  split j h = sym (ap (at (trees_of ns m)) (add-two j)) ∙ at_node ns m j back h

  -- What holds of leaves, of places that have a note, and of a node after its two sides, holds of the walk: it has as many
  -- levels left as its diagram can ask.
  module _ (leaf : ℕ → ℕ) (hi : ℕ) (P : List Tree → List ℕ → ℕ → Went → Type 0)
      (at_zero : (us : List Tree) (notes : List ℕ) → P us notes 0 (stop us notes (leaf 0)))
      (at_one : (us : List Tree) (notes : List ℕ) → P us notes 1 (stop us notes (leaf 1)))
      (at-hit : (us : List Tree) (notes : List ℕ) (j r : ℕ) → j < m → get_or notes j 0 ≡ suc r → P us notes (suc (suc j)) (stop us notes r))
      (at-apart : (us : List Tree) (notes : List ℕ) (j lo : ℕ) (x y : Went) → j < m → get_or notes j 0 ≡ 0 → Fine lo hi (node (get_or ns (3 * j) 0) (T (low j)) (T (high j)))
      → P us notes (low j) x → P x.table x.notes (high j) y → P us notes (suc (suc j)) (keep j (get_or ns (3 * j) 0) x y)) where
    pub walk_all : (left : ℕ) (us : List Tree) (notes : List ℕ) (p lo : ℕ) → p < m + 2 → Fine lo hi (T p) → hi ≤ lo + left → P us notes p (walk leaf ns left us notes p)
    unfolding walk visit
    walk_all zero us notes zero lo h f k = at_zero us notes
    walk_all zero us notes (suc zero) lo h f k = at_one us notes
    walk_all zero us notes (suc (suc j)) lo h f k =
        let g = node_fine lo hi _ _ _ (rw (split j (omega arith)) at f) in
        absurd (omega (arith, g.0, g.1))
    walk_all (suc left) us notes zero lo h f k = at_zero us notes
    walk_all (suc left) us notes (suc zero) lo h f k = at_one us notes
    walk_all (suc left) us notes (suc (suc j)) lo h f k =
        let f' = rw (split j (omega arith)) at f in
        let g = node_fine lo hi _ _ _ f' in
        let b = back j (omega arith) in
        let px = walk_all left us notes (low j) (suc (get_or ns (3 * j) 0)) (omega arith) g.2 (omega (arith, g.0)) in
        let py = walk_all left x.table x.notes (high j) (suc (get_or ns (3 * j) 0)) (omega arith) g.3 (omega (arith, g.0)) in
        go (get_or notes j 0) refl (at-apart us notes j lo x y (omega arith)) f' px py
      where
        x : Went
        x = walk leaf ns left us notes (low j)

        y : Went
        y = walk leaf ns left x.table x.notes (high j)

        go : (q : ℕ) → get_or notes j 0 ≡ q
            → (get_or notes j 0 ≡ 0 → Fine lo hi (node (get_or ns (3 * j) 0) (T (low j)) (T (high j))) → P us notes (low j) x → P x.table x.notes (high j) y
            → P us notes (suc (suc j)) (keep j (get_or ns (3 * j) 0) x y))
            → Fine lo hi (node (get_or ns (3 * j) 0) (T (low j)) (T (high j))) → P us notes (low j) x → P x.table x.notes (high j) y
            → P us notes (suc (suc j)) (recall q us notes (keep j (get_or ns (3 * j) 0) x y))
        go zero e s f px py = unfold recall in s e f px py
        go (suc r) e s f px py = unfold recall in at-hit us notes j r (omega arith) e

  keeps_refl : (p : ℕ) (notes : List ℕ) → Keeps p notes notes
  keeps_refl p notes = record { size = refl; past = λ i h. refl }

  keeps_apart : (j v : ℕ) → j < m → {notes mx my : List ℕ} → Keeps (low j) notes mx → Keeps (high j) mx my → Keeps (suc (suc j)) notes (set my j v)
  keeps_apart j v h {notes} {mx} {my} a b =
      let k = back j h in
      record {
        size = length-set my j v ∙ b.size ∙ a.size;
        past = λ i g. get_or-set_other my j i v 0 (omega arith) ∙ b.past i (omega arith) ∙ a.past i (omega arith);
      }

  -- a visit that goes no further
  stopped : (us : List Tree) (notes : List ℕ) (p r : ℕ) → Tells ns m notes p (stop us notes r)
  unfolding stop
  stopped us notes p r = record {
    keeps = keeps_refl p notes;
    counted = record { count = omega arith };
    held = λ vs h. record { each = λ i k e. mem_add _ vs (T p) (h.each i k e) };
  }

  -- a node without a note, after its sides
  module _ (notes : List ℕ) (j : ℕ) (x y : Went) (inside : j < m) (long : m ≤ length notes) (fresh : get_or notes j 0 ≡ 0)
      (px : Tells ns m notes (low j) x) (py : Tells ns m x.notes (high j) y) where
    still : get_or y.notes j 0 ≡ 0
    still = let b = back j inside in py.keeps.past j (omega arith) ∙ px.keeps.past j (omega arith) ∙ fresh

    one_more : (v : ℕ) → remembered m (set y.notes j (suc v)) ≡ suc (remembered m y.notes)
    unfolding remembered
    one_more v =
        count_more m j _ _ inside (rw still refl)
        (rw (get_or-set_same y.notes j (suc v) 0 (omega (arith, px.keeps.size, py.keeps.size))) (lt-ltb 0 (suc v) (omega arith)))
        (λ i n. ap (ltb 0) (get_or-set_other y.notes j i (suc v) 0 n))

    taken : Tells ns m notes (suc (suc j)) (keep j (get_or ns (3 * j) 0) x y)
    unfolding keep
    taken = record {
      keeps = keeps_apart j _ inside px.keeps py.keeps;
      counted = record { count = rw (one_more _) (omega (arith, px.counted.count, py.counted.count)) };
      held = λ vs h. record {
        each = λ i k e. rw (split j inside) (unfold add_tree in elim (ℕ_discrete i j) [
          | yes z ↦ rw (z, split j inside) (mem_new (two vs) _)
          | no n ↦ mem_old _ (two vs) _ ((py.held _ (px.held vs h)).each i k (sym (ap (ltb 0) (get_or-set_other y.notes j i _ 0 n)) ∙ e))
        ]);
      };
    }
      where
        two : List Tree → List Tree
        two vs = add_tree (add_tree vs (T (low j))) (T (high j))

  pub walk_tells : (leaf : ℕ → ℕ) (hi left : ℕ) (us : List Tree) (notes : List ℕ) (p lo : ℕ) → p < m + 2 → Fine lo hi (T p) → hi ≤ lo + left
      → m ≤ length notes → Tells ns m notes p (walk leaf ns left us notes p)
  walk_tells leaf hi =
      walk_all leaf hi (λ us notes p w. m ≤ length notes → Tells ns m notes p w)
      (λ us notes l. stopped us notes 0 _) (λ us notes l. stopped us notes 1 _) (λ us notes j r h e l. stopped us notes (suc (suc j)) r)
      (λ us notes j lo x y h e f px py l. let tx = px l in taken notes j x y h l e tx (py (omega (arith, tx.keeps.size))))

  -- no more places are noted than a table that holds their trees has
  pub remembered_le : (notes : List ℕ) (vs : List Tree) → Held ns m notes vs → remembered m notes ≤ length vs
  unfolding remembered
  remembered_le notes vs h =
      count_le (λ i. T (suc (suc i))) m _ vs (λ i j a b e. let z = one (suc (suc i)) (suc (suc j)) (omega arith) (omega arith) e in omega arith) h.each

  -- and some table has just these
  remembered_is : (notes : List ℕ) → (vs : List Tree) × Held ns m notes vs × (length vs ≡ remembered m notes)
  unfolding remembered
  remembered_is notes = (chosen tree m seen, record { each = chosen_mem tree m seen }, chosen_length tree m seen)
    where
      tree : ℕ → Tree
      tree i = T (suc (suc i))

      seen : ℕ → Bool
      seen i = ltb 0 (get_or notes i 0)

  -- a count of visits stays small: no more than two for each node, and one
  pub walk_fits : (leaf : ℕ → ℕ) (hi left : ℕ) (us : List Tree) (notes : List ℕ) (p lo : ℕ) → p < m + 2 → Fine lo hi (T p) → hi ≤ lo + left → m ≤ length notes
      → (walk leaf ns left us notes p).visits ≤ 2 * m + 1
  unfolding remembered
  walk_fits leaf hi left us notes p lo h f k l =
      let t = walk_tells leaf hi left us notes p lo h f k l in
      omega (arith, t.counted.count, count_most m (λ i. ltb 0 (get_or (walk leaf ns left us notes p).notes i 0)))

  -- nor more than two for each node of its diagram, and one, whatever is noted before
  pub walk_most : (leaf : ℕ → ℕ) (hi left : ℕ) (us : List Tree) (notes : List ℕ) (p lo : ℕ) → p < m + 2 → Fine lo hi (T p) → hi ≤ lo + left → m ≤ length notes
      → (walk leaf ns left us notes p).visits ≤ 2 * node_count (T p) + 1
  walk_most leaf hi left us notes p lo h f k l =
      let t = walk_tells leaf hi left us notes p lo h f k l in
      let v = remembered_is notes in
      omega (arith, t.counted.count, remembered_le _ _ (t.held v.0 v.1), v.2, add_most v.0 (T p))

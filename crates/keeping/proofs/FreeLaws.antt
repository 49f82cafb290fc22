-- Laws of marks and of free levels: a diagram's levels are free if it asks no variable but those allowed. Assumes nothing.
use Prim.Native.Nat.{ℕ, zero, suc, ◌+◌, ◌*◌, ◌/◌, ◌^◌, ◌≤◌, ◌<◌}
use mathlib.Core.Path.{◌≡◌, refl, sym, ◌∙◌}
use mathlib.Core.Bool.{Bool, true, false, ◌&&◌, ◌||◌}
use mathlib.Core.List.{List}
use mathlib.Core.Logic.{⊎_elim}
use native.Mathlib.Nat.{div-lt_iff_lt-mul}
use native.Mathlib.Omega.{arith}
use lib.Bits.{bit_or}
use lib.Dec.{eqb, ltb}
use lib.ListN.{length, get_or, set, length-set}
use lib.Seq.{get_or-set_same, get_or-set_other}
use borrow.Author.Tests.{eq-eqb, eqb-true, lt-ltb, ltb-true}
use Rattle.trees.specs.Tree.{Tree, off, on, node, Fine}
use Rattle.trees.specs.Table.{at, node_at, trees_of}
use Rattle.trees.specs.Kept.{levels}
use Rattle.trees.proofs.Tests.{false_true, or_cases, or_l, or_r, and_true, and_true_l, and_true_r}
use Rattle.trees.proofs.ReadLaws.{at_node}
use Rattle.trees.proofs.TreeLaws.{node_fine}
use Rattle.nodes.specs.Nodes.{Table, Rows, Decides}
use Rattle.keeping.specs.Checks.{free_by, has_bit, asked, Marks, RowsAllowed, FreeOnly}
use Rattle.keeping.proofs.BitLaws.{or_has, none_has, one_has, within_has, has_within}

-- with 0 at both leaves no node is marked yet
pub marks_none : (ns : List ℕ) (kept k : ℕ) (w : List ℕ) → 2 ≤ length w → Marks ns kept k (set (set w 0 0) 1 0) 0
unfolding at asked
marks_none ns kept k w h = record { is = go }
  where
    go : (r : ℕ) → r < 0 + 2 → (v : ℕ) → has_bit (get_or (set (set w 0 0) 1 0) r 0) v ≡ asked k v (at (trees_of ns kept) r)
    go zero l v = rw (get_or-set_other (set w 0 0) 1 0 0 0 (omega arith), get_or-set_same w 0 0 0 (omega arith)) (none_has v)
    go (suc zero) l v = rw (get_or-set_same (set w 0 0) 1 0 0 (rw length-set h)) (none_has v)
    go (suc (suc r)) l v = absurd (omega arith)

-- the set that a node asks, from its level and its sides' marks
pub asks_is : {ns : List ℕ} {kept k : ℕ} {w : List ℕ} {j : ℕ} → Table ns kept → j < kept → Marks ns kept k w j → (v : ℕ)
    → has_bit (bit_or (2 ^ (get_or ns (3 * j) 0 / k)) (bit_or (get_or w (get_or ns (3 * j + 1) 0) 0) (get_or w (get_or ns (3 * j + 2) 0) 0))) v ≡ asked k v (at (trees_of ns kept) (j + 2))
unfolding node_at asked
asks_is {ns} {kept} {k} {w} {j} t h m v =
    let low = get_or ns (3 * j + 1) 0 in
    let high = get_or ns (3 * j + 2) 0 in
    let back = t.back j h in
    rw (at_node ns kept j t.back h, or_has v (2 ^ (get_or ns (3 * j) 0 / k)) (bit_or (get_or w low 0) (get_or w high 0)), or_has v (get_or w low 0) (get_or w high 0), one_has (get_or ns (3 * j) 0 / k) v, m.is low back.0 v, m.is high back.1 v)

module _ (k : ℕ) (allowed : List ℕ) (i : ℕ) where
  -- a tree whose levels are free asks only variables that are allowed
  pub free_asked : (t : Tree) → levels (free_by k allowed i) t ≡ true → (v : ℕ) → asked k v t ≡ true → has_bit (get_or allowed i 0) v ≡ true
  unfolding levels asked free_by has_bit
  free_asked off e v h = absurd (false_true refl h)
  free_asked on e v h = absurd (false_true refl h)
  free_asked (node l a b) e v h =
      let own = and_true_l (free_by k allowed i l) (levels (free_by k allowed i) a && levels (free_by k allowed i) b) e in
      let rest = and_true_r (free_by k allowed i l) (levels (free_by k allowed i) a && levels (free_by k allowed i) b) e in
      ⊎_elim
      (λ p. rw (← eqb-true (l / k) v p) (and_true_r (ltb (l / k) 4) (has_bit (get_or allowed i 0) (l / k)) own))
      (λ p. ⊎_elim
      (free_asked a (and_true_l (levels (free_by k allowed i) a) (levels (free_by k allowed i) b) rest) v)
      (free_asked b (and_true_r (levels (free_by k allowed i) a) (levels (free_by k allowed i) b) rest) v)
      (or_cases (asked k v a) (asked k v b) p))
      (or_cases (eqb (l / k) v) (asked k v a || asked k v b) h)

  -- and the other way round, over 4 * k levels
  pub asked_free : 0 < k → (lo : ℕ) (t : Tree) → Fine lo (4 * k) t
      → ((v : ℕ) → v < 4 → asked k v t ≡ true → has_bit (get_or allowed i 0) v ≡ true) → levels (free_by k allowed i) t ≡ true
  unfolding levels asked free_by has_bit
  asked_free pos lo off f h = refl
  asked_free pos lo on f h = refl
  asked_free pos lo (node l a b) f h =
      let g = node_fine lo (4 * k) l a b f in
      let four = (div-lt_iff_lt-mul {x = l} {y = 4} pos).1 g.1 in
      and_true (free_by k allowed i l) (levels (free_by k allowed i) a && levels (free_by k allowed i) b)
      (and_true (ltb (l / k) 4) (has_bit (get_or allowed i 0) (l / k)) (lt-ltb (l / k) 4 four)
      (h (l / k) four (or_l (eqb (l / k) (l / k)) (asked k (l / k) a || asked k (l / k) b) (eq-eqb (l / k) (l / k) refl))))
      (and_true (levels (free_by k allowed i) a) (levels (free_by k allowed i) b)
      (asked_free pos (suc l) a g.2 (λ v q e. h v q (or_r (eqb (l / k) v) (asked k v a || asked k v b) (or_l (asked k v a) (asked k v b) e))))
      (asked_free pos (suc l) b g.3 (λ v q e. h v q (or_r (eqb (l / k) v) (asked k v a || asked k v b) (or_r (asked k v a) (asked k v b) e)))))

  -- a free level is below 4 * k
  pub free_below : 0 < k → (l : ℕ) → free_by k allowed i l ≡ true → l < 4 * k
  unfolding free_by has_bit
  free_below pos l e = (div-lt_iff_lt-mul {x = l} {y = 4} pos).0 (ltb-true (l / k) 4 (and_true_l (ltb (l / k) 4) (has_bit (get_or allowed i 0) (l / k)) e))

-- with marks, rows that are allowed what they ask are free
module _ {ns : List ℕ} {kept k : ℕ} {w : List ℕ} (m : Marks ns kept k w kept) (allowed : List ℕ) {refs : List ℕ} {count : ℕ} (rows : Rows ns kept (4 * k) refs count) where
  allowed_free : 0 < k → RowsAllowed w allowed refs count → FreeOnly ns kept k allowed refs count
  allowed_free pos a i h =
      asked_free k allowed i pos 0 (at (trees_of ns kept) (get_or refs i 0)) (rows.fine i h) (λ v q e. within_has (get_or w (get_or refs i 0) 0) (get_or allowed i 0) v (a i h) (m.is (get_or refs i 0) (rows.inside i h) v ∙ e))

  -- and the other way round
  free_allowed : FreeOnly ns kept k allowed refs count → RowsAllowed w allowed refs count
  free_allowed f i h = has_within (get_or w (get_or refs i 0) 0) (get_or allowed i 0) (λ v e. free_asked k allowed i (at (trees_of ns kept) (get_or refs i 0)) (f i h) v (sym (m.is (get_or refs i 0) (rows.inside i h) v) ∙ e))

  -- so the test of the marks is one of the levels
  pub free_decided : 0 < k → (b : Bool) → Decides (RowsAllowed w allowed refs count) b → Decides (FreeOnly ns kept k allowed refs count) b
  free_decided pos true d = allowed_free pos d
  free_decided pos false d = λ f. d (free_allowed f)

-- without nodes every diagram is a leaf
pub leaves_free : (ns : List ℕ) (k : ℕ) (allowed refs : List ℕ) (count : ℕ) → Rows ns 0 (4 * k) refs count → FreeOnly ns 0 k allowed refs count
unfolding at levels
leaves_free ns k allowed refs count rows i h = leaf (get_or refs i 0) (rows.inside i h)
  where
    leaf : (r : ℕ) → r < 0 + 2 → levels (free_by k allowed i) (at (trees_of ns 0) r) ≡ true
    leaf zero l = refl
    leaf (suc zero) l = refl
    leaf (suc (suc r)) l = absurd (omega arith)

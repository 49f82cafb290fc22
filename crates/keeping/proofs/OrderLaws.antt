-- Laws of the walk that finds whether kept nodes stand in canonical order. Assumes nothing.
use Prim.Native.Nat.{ℕ, zero, suc, ◌+◌, ◌≤◌, ◌<◌}
use mathlib.Core.Path.{◌≡◌, refl, sym, ap, ◌∙◌}
use mathlib.Core.Bool.{Bool, true, false}
use mathlib.Core.List.{List, [], ◌∷◌, ◌++◌}
use mathlib.Core.Logic.{◌≢◌, ⊎_elim}
use native.Mathlib.Nat.{eq-or-lt_of_le}
use native.Mathlib.Omega.{arith}
use native.Mathlib.Numerals.{add-one}
use lib.Dec.{eqb}
use lib.ListN.{length, get_or, length-append}
use Rattle.trees.specs.Tree.{Tree, node}
use Rattle.trees.specs.Table.{mem, add_tree, add_trees, at, node_at, trees_of}
use Rattle.trees.specs.Kept.{diagrams}
use Rattle.trees.proofs.Tests.{EqCase, equal, other, eq_case, not_true}
use Rattle.trees.proofs.TableLaws.{Goes, goes_refl, goes_trans, goes_at, at_index, mem_place, push_out, push_goes, add_goes, add_in}
use Rattle.nodes.specs.Nodes.{Table, Splits, canonical, Decides}
use Rattle.keeping.specs.Checks.{InOrder, OutOfOrder, InRowOrder}
use Rattle.trees.proofs.ReadLaws.{length_trees, at_end, trees_goes, back_closed}
use Rattle.nodes.proofs.PartLaws.{sides_only}
use Rattle.nodes.proofs.ReadLaws.{canonical_suc}

-- the table with a node goes on from the one with its low side
low_goes : (ts : List Tree) (l : ℕ) (x y : Tree) → Goes (add_tree ts x) (add_tree ts (node l x y))
unfolding add_tree
low_goes ts l x y = goes_trans (add_goes (add_tree ts x) y) (push_goes (add_tree (add_tree ts x) y) (node l x y))

-- and from the one with both sides
high_goes : (ts : List Tree) (l : ℕ) (x y : Tree) → Goes (add_tree (add_tree ts x) y) (add_tree ts (node l x y))
unfolding add_tree
high_goes ts l x y = push_goes (add_tree (add_tree ts x) y) (node l x y)

-- the low side stands out of order
pub order_low : {ns : List ℕ} {kept n r l a b : ℕ} → Splits ns kept r l a b → OutOfOrder ns kept n a → OutOfOrder ns kept n r
order_low {ns} {kept} {n} {r} {l} {a} {b} s o = record {
  never = λ more e.
      let g = goes_trans (low_goes (trees_of ns n) l (at (trees_of ns kept) a) (at (trees_of ns kept) b)) (record { more = more; is = rw s.is at e }) in
      o.never g.more g.is;
}

-- the high side does
pub order_high : {ns : List ℕ} {kept n n₁ r l a b : ℕ} → Splits ns kept r l a b → InOrder ns kept n a n₁ → OutOfOrder ns kept n₁ b → OutOfOrder ns kept n r
order_high {ns} {kept} {n} {n₁} {r} {l} {a} {b} s p o = record {
  never = λ more e.
      let g = goes_trans (high_goes (trees_of ns n) l (at (trees_of ns kept) a) (at (trees_of ns kept) b)) (record { more = more; is = rw s.is at e }) in
      o.never g.more (rw (← p.trees) g.is);
}

module _ {ns : List ℕ} {kept : ℕ} (t : Table ns kept) where
  -- a reference among the first n nodes leads to the same tree there
  early : (n r : ℕ) → n ≤ kept → r < n + 2 → at (trees_of ns kept) r ≡ at (trees_of ns n) r
  early n r h k = goes_at (trees_goes ns n kept h) r (omega (arith, length_trees ns n))

  -- a leaf, or a place that was passed
  pub order_passed : {n r : ℕ} → n ≤ kept → r < n + 2 → InOrder ns kept n r n
  order_passed {n} {r} h k = record {
    more = omega arith;
    fits = h;
    trees =
        add_in (trees_of ns n) (at (trees_of ns kept) r) (back_closed ns n (λ j q. t.back j (omega arith)))
        (r, record { below = omega (arith, length_trees ns n); is = sym (early n r h k) });
  }

  -- both sides are in order
  module _ {n n₁ n₂ r l a b : ℕ} (s : Splits ns kept r l a b) (low : n + 2 ≤ r) (top : r < kept + 2) (p : InOrder ns kept n a n₁) (q : InOrder ns kept n₁ b n₂) where
    x : Tree
    x = at (trees_of ns kept) a

    y : Tree
    y = at (trees_of ns kept) b

    before : mem (node l x y) (trees_of ns n) ≡ false
    unfolding x y
    before = not_true _ λ e.
        let k = mem_place (node l x y) (trees_of ns n) e in
        let h : k.0 < n = omega (arith, k.1, length_trees ns n) in
        let f = p.more in
        let g = p.fits in
        let z = t.one (k.0 + 2) r (omega arith) top (early n (k.0 + 2) (omega arith) (omega arith) ∙ at_index (trees_of ns n) k.0 ∙ k.2 ∙ sym s.is) in
        omega arith

    both : trees_of ns n₂ ≡ add_tree (add_tree (trees_of ns n) x) y
    unfolding x y
    both = rw (p.trees, q.trees)

    added : add_tree (trees_of ns n) (at (trees_of ns kept) r) ≡ trees_of ns n₂ ++ node l x y ∷ []
    unfolding add_tree x y
    added = rw (s.is, p.trees, q.trees) (push_out (trees_of ns n₂) (node l x y) (rw both (sides_only (trees_of ns n) l x y before)))

    -- the node stands elsewhere
    pub order_place : n₂ + 2 ≢ r → OutOfOrder ns kept n r
    unfolding x y
    order_place ne = record {
      never = λ more e.
          let f = rw added at e in
          let len = length_trees ns n₂ in
          let size = ap length f ∙ length-append (trees_of ns n₂ ++ node l x y ∷ []) more in
          let size₂ = length-append (trees_of ns n₂) (node l x y ∷ []) in
          let whole = length_trees ns kept in
          let h : n₂ < kept = omega arith in
          let g : Goes (trees_of ns n₂ ++ node l x y ∷ []) (trees_of ns kept) = record { more = more; is = f } in
          ne (t.one (n₂ + 2) r (omega arith) top (goes_at g (n₂ + 2) (omega arith) ∙ at_end (trees_of ns n₂) (node l x y) n₂ len ∙ sym s.is));
    }

    -- the node stands at its place
    pub order_node : n₂ + 2 ≡ r → InOrder ns kept n r (n₂ + 1)
    unfolding trees_of x y
    order_node e =
        let len = length_trees ns n₂ in
        let len₁ = length_trees ns (suc n₂) in
        let g = trees_goes ns (suc n₂) kept (omega arith) in
        let here = sym (at_end (trees_of ns n₂) (node_at ns (trees_of ns n₂) n₂) n₂ len) ∙ sym (goes_at g (n₂ + 2) (omega arith)) ∙ ap (at (trees_of ns kept)) e ∙ s.is in
        record {
          more = omega (arith, p.more, q.more);
          fits = omega arith;
          trees = added ∙ rw (add-one n₂) (ap (λ (d : Tree). trees_of ns n₂ ++ d ∷ []) (sym here));
        }

-- the tables of more rows go on from those of fewer
canonical_goes : (ns : List ℕ) (m : ℕ) (refs : List ℕ) (i j : ℕ) → i ≤ j → j ≤ length refs → Goes (canonical ns m refs i) (canonical ns m refs j)
canonical_goes ns m refs i zero h k = let e : i ≡ 0 = omega arith in rw e (goes_refl (canonical ns m refs 0))
canonical_goes ns m refs i (suc j) h k = ⊎_elim
    (λ e. rw e (goes_refl (canonical ns m refs (suc j))))
    (λ l.
    let step = canonical_suc ns m refs j (omega arith) in
    let one = add-one j in
    goes_trans (canonical_goes ns m refs i j (omega arith) (omega arith)) (rw (← one, step) (add_goes (canonical ns m refs j) (at (trees_of ns m) (get_or refs j 0)))))
    (eq-or-lt_of_le h)

-- the first i rows lead to the first n nodes
pub record RowsFollowed (ns : List ℕ) (kept : ℕ) (refs : List ℕ) (i n : ℕ) : Type 0 where
  pub fits : n ≤ kept
  pub trees : canonical ns kept refs i ≡ trees_of ns n

module _ (ns : List ℕ) (kept : ℕ) (refs : List ℕ) where
  pub rows_none : RowsFollowed ns kept refs 0 0
  unfolding canonical diagrams add_trees trees_of
  rows_none = record { fits = omega arith; trees = refl }

  -- one row more
  pub rows_more : (i n n' : ℕ) → i < length refs → RowsFollowed ns kept refs i n → InOrder ns kept n (get_or refs i 0) n' → RowsFollowed ns kept refs (i + 1) n'
  rows_more i n n' h w o = record {
    fits = o.fits;
    trees = canonical_suc ns kept refs i h ∙ rw w.trees o.trees;
  }

  -- a row that stands out of order
  pub rows_out : (i n count : ℕ) → i < count → count ≤ length refs → RowsFollowed ns kept refs i n → OutOfOrder ns kept n (get_or refs i 0) → InRowOrder ns kept refs count → ⊥
  rows_out i n count h k w o e =
      let g = canonical_goes ns kept refs (i + 1) count (omega arith) k in
      o.never g.more (sym e ∙ g.is ∙ ap (λ (ts : List Tree). ts ++ g.more) (canonical_suc ns kept refs i (omega arith) ∙ ap (λ (ts : List Tree). add_tree ts (at (trees_of ns kept) (get_or refs i 0))) w.trees))

  -- all rows are in order, and nodes are left over or not
  pub rows_end : (count n : ℕ) → RowsFollowed ns kept refs count n → Decides (InRowOrder ns kept refs count) (eqb n kept)
  rows_end count n w = go (eqb n kept) (eq_case n kept)
    where
      go : (b : Bool) → EqCase n kept b → Decides (InRowOrder ns kept refs count) b
      go true (equal e) = rw e at w.trees
      go false (other ne) = λ f. ne (sym (length_trees ns n) ∙ ap length (sym w.trees ∙ f) ∙ length_trees ns kept)

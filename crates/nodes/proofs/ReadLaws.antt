-- Laws of the trees that a list of numbers shows. Assumes nothing.
use Prim.Native.Nat.{ℕ, zero, suc, ◌+◌, ◌*◌, ◌-◌, ◌≤◌, ◌<◌}
use mathlib.Core.Path.{◌≡◌, refl, sym, ap, ◌∙◌}
use mathlib.Core.List.{List, [], ◌∷◌, ◌++◌, map}
use mathlib.Core.Bool.{false}
use mathlib.Core.Logic.{◌≢◌, ⊎_elim}
use native.Mathlib.Omega.{arith}
use native.Mathlib.Numerals.{add-one}
use lib.ListN.{length, get_or, set, take, length-set}
use lib.Seq.{get_or-set_same, get_or-set_other, take-suc}
use Rattle.trees.specs.Tree.{Tree, node, Fine}
use Rattle.trees.specs.Table.{mem, add_tree, add_trees, at, node_at, trees_of, Ref, NodeIs}
use Rattle.trees.specs.Kept.{diagrams}
use Rattle.trees.proofs.Tests.{lt_or_ge, false_true}
use Rattle.trees.proofs.TreeLaws.{node_fine, fine_lower}
use Rattle.trees.proofs.TableLaws.{Goes, goes_length, at_append, ref_mem, add_goes, add_in}
use Rattle.trees.proofs.ReadLaws.{Back, length_trees, at_end, at_node, back_closed}
use Rattle.nodes.specs.Nodes.{Front, Rest, Table, Splits, Grown, canonical}

-- lists that agree on the first n nodes show the same trees
pub trees_same : (ns ms : List ℕ) (n : ℕ) → Front (3 * n) ns ms → trees_of ms n ≡ trees_of ns n
unfolding trees_of node_at
trees_same ns ms zero s = refl
trees_same ns ms (suc n) s =
    rw (trees_same ns ms n (record { eq = λ i h. s.eq i (omega arith) }), s.eq (3 * n) (omega arith), s.eq (3 * n + 1) (omega arith), s.eq (3 * n + 2) (omega arith))

-- the node that a reference leads to
pub splits : (ns : List ℕ) (n r : ℕ) → Back ns n → 2 ≤ r → r < n + 2
    → Splits ns n r (get_or ns (3 * (r - 2)) 0) (get_or ns (3 * (r - 2) + 1) 0) (get_or ns (3 * (r - 2) + 2) 0)
unfolding node_at
splits ns n r back h k =
    let b = back (r - 2) (omega arith) in
    let e : r - 2 + 2 ≡ r = omega arith in
    record { low = omega arith; high = omega arith; is = ap (λ (q : ℕ). at (trees_of ns n) q) (sym e) ∙ at_node ns n (r - 2) back (omega arith) }

-- and no other
pub one_read : {ns : List ℕ} {n r l a b l' a' b' : ℕ} → Table ns n → Splits ns n r l a b → Splits ns n r l' a' b' → (l ≡ l') × (a ≡ a') × (b ≡ b')
one_read {ns} {n} {r} {l} {a} {b} {l'} {a'} {b'} t s u =
    let e = s.is in
    let f = u.is in
    let low : at (trees_of ns n) a ≡ at (trees_of ns n) a' = cc in
    let high : at (trees_of ns n) b ≡ at (trees_of ns n) b' = cc in
    (cc, t.one a a' s.low u.low low, t.one b b' s.high u.high high)

-- its references go back
pub read_below : {ns : List ℕ} {n r l a b : ℕ} → Table ns n → Splits ns n r l a b → 2 ≤ r → r < n + 2 → (a < r) × (b < r)
read_below {ns} {n} {r} t s h k =
    let back = t.back (r - 2) (omega arith) in
    let e = one_read t s (splits ns n r t.back h k) in
    (omega (arith, e.1, back.0), omega (arith, e.2, back.1))

-- the table of a walk goes on from the one before
pub grown_goes : {ns ms : List ℕ} {n m r : ℕ} {d : Tree} → Grown ns ms n m r d → Goes (trees_of ns n) (trees_of ms m)
grown_goes {ns} {n = n} {d = d} g = rw g.trees (add_goes (trees_of ns n) d)

-- the count does not fall
pub grown_count : {ns ms : List ℕ} {n m r : ℕ} {d : Tree} → Grown ns ms n m r d → n ≤ m
grown_count {ns} {ms} {n} {m} g = omega (arith, goes_length (grown_goes g), length_trees ns n, length_trees ms m)

-- the result is a reference into the table
pub grown_ref : {ns ms : List ℕ} {n m r : ℕ} {d : Tree} → Grown ns ms n m r d → r < m + 2
grown_ref {ms = ms} {m = m} g = omega (arith, g.ref.below, length_trees ms m)

-- the diagram is one that has a reference: nothing is added
pub stays : (ns : List ℕ) (n r : ℕ) (d : Tree) → Table ns n → r < n + 2 → d ≡ at (trees_of ns n) r → Grown ns ns n n r d
stays ns n r d t h e =
    let w : Ref (trees_of ns n) r d = record { below = omega (arith, length_trees ns n); is = sym e } in
    record {
      table = t;
      size = refl;
      trees = sym (add_in (trees_of ns n) d (back_closed ns n t.back) (r, w));
      ref = w;
      same = record { eq = λ i h. refl };
      rest = record { eq = λ i h. refl };
    }

-- one more tree that is not there, and references still lead to different trees
pub one_more : (ts : List Tree) (n l : ℕ) (x y : Tree) → length ts ≡ n → ((r s : ℕ) → r < n + 2 → s < n + 2 → at ts r ≡ at ts s → r ≡ s)
    → mem (node l x y) ts ≡ false → (r s : ℕ) → r < n + 1 + 2 → s < n + 1 + 2 → at (ts ++ node l x y ∷ []) r ≡ at (ts ++ node l x y ∷ []) s → r ≡ s
one_more ts n l x y len one out r s hr hs e = ⊎_elim
    (λ kr. ⊎_elim
    (λ ks. one r s kr ks (sym (old r kr) ∙ e ∙ old s ks))
    (λ ks. absurd (clash r kr (sym (old r kr) ∙ e ∙ new s hs ks)))
    (lt_or_ge s (n + 2)))
    (λ kr. ⊎_elim
    (λ ks. absurd (clash s ks (sym (old s ks) ∙ sym e ∙ new r hr kr)))
    (λ ks. omega arith)
    (lt_or_ge s (n + 2)))
    (lt_or_ge r (n + 2))
  where
    old : (q : ℕ) → q < n + 2 → at (ts ++ node l x y ∷ []) q ≡ at ts q
    old q h = at_append ts (node l x y ∷ []) q (omega arith)

    new : (q : ℕ) → q < n + 1 + 2 → n + 2 ≤ q → at (ts ++ node l x y ∷ []) q ≡ node l x y
    new q h k = let z : q ≡ n + 2 = omega arith in rw z (at_end ts (node l x y) n len)

    clash : (q : ℕ) → q < n + 2 → at ts q ≡ node l x y → ⊥
    clash q h k = false_true out (ref_mem ts q l x y (record { below = omega arith; is = k }))

-- the list with three numbers stored at place n
abbrev pub stored : List ℕ → ℕ → ℕ → ℕ → ℕ → List ℕ
stored ns n l a b = set (set (set ns (3 * n) l) (3 * n + 1) a) (3 * n + 2) b

-- what storing three numbers changes
module _ (ns : List ℕ) (n l a b : ℕ) (room : 3 * n + 3 ≤ length ns) where
  past : (i : ℕ) → i ≢ 3 * n → i ≢ 3 * n + 1 → i ≢ 3 * n + 2 → get_or (stored ns n l a b) i 0 ≡ get_or ns i 0
  past i p q r = rw (get_or-set_other _ (3 * n + 2) i b 0 r, get_or-set_other _ (3 * n + 1) i a 0 q, get_or-set_other _ (3 * n) i l 0 p)

  -- the node stands there
  pub stored_is : NodeIs (stored ns n l a b) n l a b
  stored_is = record {
    level = rw (get_or-set_other _ (3 * n + 2) (3 * n) b 0 (omega arith), get_or-set_other _ (3 * n + 1) (3 * n) a 0 (omega arith), get_or-set_same ns (3 * n) l 0 (omega arith));
    low = rw (get_or-set_other _ (3 * n + 2) (3 * n + 1) b 0 (omega arith), get_or-set_same (set ns (3 * n) l) (3 * n + 1) a 0 (simp length-set (omega arith)));
    high = get_or-set_same (set (set ns (3 * n) l) (3 * n + 1) a) (3 * n + 2) b 0 (simp length-set (omega arith));
  }

  -- the numbers before the node are the same
  pub stored_front : Front (3 * n) ns (stored ns n l a b)
  stored_front = record { eq = λ i h. past i (omega arith) (omega arith) (omega arith) }

  -- and those behind it
  pub stored_rest : Rest (3 * n + 3) ns (stored ns n l a b)
  stored_rest = record { eq = λ i h. past i (omega arith) (omega arith) (omega arith) }

-- a node stored behind the table, which has no tree like it
module _ (ns : List ℕ) (n l a b : ℕ) (t : Table ns n) (ha : a < n + 2) (hb : b < n + 2) (room : 3 * n + 3 ≤ length ns)
    (out : mem (node l (at (trees_of ns n) a) (at (trees_of ns n) b)) (trees_of ns n) ≡ false) where
  -- the table has one tree more
  pub stored_trees : trees_of (stored ns n l a b) (n + 1) ≡ trees_of ns n ++ node l (at (trees_of ns n) a) (at (trees_of ns n) b) ∷ []
  unfolding trees_of node_at
  stored_trees = rw (add-one n, trees_same ns (stored ns n l a b) n (stored_front ns n l a b room), (stored_is ns n l a b room).level, (stored_is ns n l a b room).low, (stored_is ns n l a b room).high)

  -- and it is a table again
  pub stored_table : Table (stored ns n l a b) (n + 1)
  stored_table =
      let len = length_trees ns n in
      record {
        small = simp length-set t.small;
        fits = simp length-set (omega arith);
        back = λ j h. ⊎_elim
            (λ k. rw ((stored_front ns n l a b room).eq (3 * j + 1) (omega arith), (stored_front ns n l a b room).eq (3 * j + 2) (omega arith)) (t.back j k))
            (λ k. let q : j ≡ n = omega arith in rw (q, (stored_is ns n l a b room).low, (stored_is ns n l a b room).high) (ha, hb))
            (lt_or_ge j n);
        one = rw stored_trees (one_more (trees_of ns n) n l _ _ len t.one out);
      }

-- the sides of a diagram with `left` levels left have one less
pub record Steps (levels left : ℕ) (x y : Tree) : Type 0 where
  pub some : 1 ≤ left
  pub low : Fine (levels - (left - 1)) levels x
  pub high : Fine (levels - (left - 1)) levels y

-- the sides of a node have one level less
pub steps : {ns : List ℕ} {m r l a b : ℕ} → Splits ns m r l a b → (levels left : ℕ) → left ≤ levels → Fine (levels - left) levels (at (trees_of ns m) r)
    → Steps levels left (at (trees_of ns m) a) (at (trees_of ns m) b)
steps {ns} {m} {l = l} {a} {b} s levels left le f =
    let g = node_fine (levels - left) levels l (at (trees_of ns m) a) (at (trees_of ns m) b) (rw s.is at f) in
    let p = g.0 in
    let q = g.1 in
    record {
      some = omega arith;
      low = fine_lower (suc l) levels (levels - (left - 1)) _ (omega arith) g.2;
      high = fine_lower (suc l) levels (levels - (left - 1)) _ (omega arith) g.3;
    }

-- one diagram more
adds_snoc : (ds ts : List Tree) (d : Tree) → add_trees ts (ds ++ d ∷ []) ≡ add_tree (add_trees ts ds) d
unfolding add_trees
adds_snoc [] ts d = refl
adds_snoc (x ∷ ds) ts d = adds_snoc ds (add_tree ts x) d

-- a map over one element more
map_snoc : (f : ℕ → Tree) (xs : List ℕ) (x : ℕ) → map f (xs ++ x ∷ []) ≡ map f xs ++ f x ∷ []
map_snoc f [] x = refl
map_snoc f (y ∷ xs) x = ap (λ (l : List Tree). f y ∷ l) (map_snoc f xs x)

-- the canonical table of one row more
pub canonical_suc : (ns : List ℕ) (m : ℕ) (refs : List ℕ) (i : ℕ) → i < length refs
    → canonical ns m refs (i + 1) ≡ add_tree (canonical ns m refs i) (at (trees_of ns m) (get_or refs i 0))
unfolding canonical diagrams
canonical_suc ns m refs i h = rw (add-one, take-suc refs i 0 h, map_snoc) (adds_snoc (map (at (trees_of ns m)) (take i refs)) [] (at (trees_of ns m) (get_or refs i 0)))

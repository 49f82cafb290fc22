-- The test of refusal 4 fails exactly if one of its clauses holds. Assumes nothing.
use Prim.Native.Nat.{ℕ, zero, suc, ◌+◌, ◌*◌, ◌≤◌, ◌<◌}
use mathlib.Core.Path.{◌≡◌, refl, ap, sym, ◌∙◌}
use mathlib.Core.Bool.{Bool, true, false, not, ◌&&◌, ◌||◌}
use mathlib.Core.List.{List, []}
use mathlib.Core.Logic.{◌↔◌, ◌≢◌, inl, inr, ⊎_elim}
use native.Mathlib.Omega.{arith}
use lib.Dec.{eqb, ltb, leb}
use lib.ListN.{length, get_or, length-take, get_or-eq_default}
use borrow.Author.Tests.{eqb-true, eqb-false, eq-eqb, ltb-true, ltb-false, leb-true, leb-false}
use Rattle.trees.specs.Tree.{Tree, off, on, node}
use Rattle.trees.specs.Table.{add_trees, at, trees_of}
use Rattle.trees.specs.Kept.{all_below, above, node_right, equal_nodes, same_trees, levels, zeros_from, diagrams, well_kept}
use Rattle.trees.specs.Sizes.{sizes_right}
use Rattle.trees.proofs.Tests.{false_true, not_true, and_true, and_true_l, and_true_r, or_cases, lt_or_ge}
use Rattle.trees.proofs.KeptLaws.{all_at, all_fails, same_trees_refl}
use Rattle.meaning.specs.declared.State.{State}
use Rattle.meaning.specs.Rows.{Row}
use Rattle.meaning.specs.Tables.{most, part, list_of, free_level, distinct, list_right, well_formed}
use Rattle.meaning.specs.Refusals.{Side, AsksLevel, IllFormed, row_count, kept_over, reference_past, reference_set, sides_equal, side_not_higher, nodes_equal, child_after, out_of_order, level_outside, size_other, size_set, size_count, node_rest, value_rest, count_over, value_twice}
use Rattle.meaning.proofs.ExactLaws.{and_false}
use Rattle.meaning.proofs.PartsLaws.{distinct_of}
use Rattle.meaning.proofs.ProperLaws.{rows_are, kept_is, sizes_are, list_is}
use Rattle.meaning.proofs.MisfitLaws.{misfit, size_of_row, size_past, sizes_many}

-- a test that failed
or_false : (a b : Bool) → (a || b) ≡ false → (a ≡ false) × (b ≡ false)
or_false true b e = absurd (false_true e refl)
or_false false b e = (refl, e)

flip : (b : Bool) → not b ≡ false → b ≡ true
flip true e = refl
flip false e = sym e

-- a level that fails is one that the diagram asks
levels_fails : (p : ℕ → Bool) (t : Tree) → levels p t ≡ false → (l : ℕ) × AsksLevel t l × (p l ≡ false)
unfolding levels AsksLevel
levels_fails p off e = absurd (false_true e refl)
levels_fails p on e = absurd (false_true e refl)
levels_fails p (node x a b) e = ⊎_elim
    (λ q. (x, inl refl, q))
    (λ q. ⊎_elim
    (λ w. let r = levels_fails p a w in (r.0, inr (inl r.1), r.2))
    (λ w. let r = levels_fails p b w in (r.0, inr (inr r.1), r.2))
    (and_false (levels p a) (levels p b) q))
    (and_false (p x) (levels p a && levels p b) e)

levels_at : (p : ℕ → Bool) (t : Tree) → levels p t ≡ true → (l : ℕ) → AsksLevel t l → p l ≡ true
unfolding levels AsksLevel
levels_at p off e l w = absurd w
levels_at p on e l w = absurd w
levels_at p (node x a b) e l (inl w) = rw w (and_true_l (p x) (levels p a && levels p b) e)
levels_at p (node x a b) e l (inr (inl w)) = levels_at p a (and_true_l (levels p a) (levels p b) (and_true_r (p x) (levels p a && levels p b) e)) l w
levels_at p (node x a b) e l (inr (inr w)) = levels_at p b (and_true_r (levels p a) (levels p b) (and_true_r (p x) (levels p a && levels p b) e)) l w

-- a number that is not 0
zeros_fails : (i : ℕ) (xs : List ℕ) → zeros_from i xs ≡ false → (j : ℕ) × (i ≤ j) × (get_or xs j 0 ≢ 0)
unfolding zeros_from
zeros_fails i xs e =
    let f = all_fails (length xs) (λ j. ltb j i || eqb (get_or xs j 0) 0) e in
    let g = or_false (ltb f.0 i) (eqb (get_or xs f.0 0) 0) f.2 in
    (f.0, ltb-false f.0 i g.0, eqb-false (get_or xs f.0 0) 0 g.1)

module _ (k C : ℕ) (rule : List Row) (few : length rule ≤ 64) (s : State) (nodes values : List ℕ) where
  abbrev Ill : Type 0
  Ill = IllFormed k C rule s nodes values

  abbrev level : ℕ → ℕ
  level j = get_or nodes (3 * j) 0

  side_fails : (j r : ℕ) → j < s.kept → Side nodes j r → (ltb r (j + 2) && above nodes (level j) r) ≡ false → Ill
  unfolding above
  side_fails j r h w e = ⊎_elim (λ p. child_after j r h w (ltb-false r (j + 2) p)) (go r w) (and_false (ltb r (j + 2)) (above nodes (level j) r) e)
    where
      go : (r : ℕ) → Side nodes j r → above nodes (level j) r ≡ false → Ill
      go zero w p = absurd (false_true p refl)
      go (suc zero) w p = absurd (false_true p refl)
      go (suc (suc i)) w p = let z : suc (suc i) ≡ i + 2 = omega arith in side_not_higher j i h (rw z at w) (ltb-false (level j) (level i) p)

  node_fails : (j : ℕ) → j < s.kept → node_right nodes j ≡ false → Ill
  unfolding node_right
  node_fails j h e =
      let a = get_or nodes (3 * j + 1) 0 in
      let b = get_or nodes (3 * j + 2) 0 in
      ⊎_elim
      (λ p. sides_equal j h (eqb-true a b (flip (eqb a b) p)))
      (λ p. ⊎_elim (side_fails j a h (inl refl)) (side_fails j b h (inr refl)) (and_false (ltb a (j + 2) && above nodes (level j) a) (ltb b (j + 2) && above nodes (level j) b) p))
      (and_false (not (eqb a b)) _ e)

  equal_fails : (i j : ℕ) → i < s.kept → j < i → not (equal_nodes nodes i j) ≡ false → Ill
  unfolding equal_nodes
  equal_fails i j h q e =
      let w = flip (equal_nodes nodes i j) e in
      let a = eqb (level i) (level j) in
      let b = eqb (get_or nodes (3 * i + 1) 0) (get_or nodes (3 * j + 1) 0) in
      let c = eqb (get_or nodes (3 * i + 2) 0) (get_or nodes (3 * j + 2) 0) in
      nodes_equal i j h q (eqb-true _ _ (and_true_l a (b && c) w)) (eqb-true _ _ (and_true_l b c (and_true_r a (b && c) w))) (eqb-true _ _ (and_true_r b c (and_true_r a (b && c) w)))

  kept_fails : well_kept (free_level k rule) C (length rule) s.refs s.kept nodes ≡ false → Ill
  unfolding well_kept
  kept_fails e = ⊎_elim (λ p. kept_over (leb-false s.kept C p)) (λ p. ⊎_elim inside (λ p. ⊎_elim none (λ p. ⊎_elim right (λ p. ⊎_elim apart (λ p. ⊎_elim order (λ p. ⊎_elim free rest
      (and_false _ _ p)) (and_false _ _ p)) (and_false _ _ p)) (and_false _ _ p)) (and_false _ _ p)) (and_false _ _ p)) (and_false _ _ e)
    where
      inside : all_below (length rule) (λ i. ltb (get_or s.refs i 0) (s.kept + 2)) ≡ false → Ill
      inside p = let f = all_fails (length rule) (λ i. ltb (get_or s.refs i 0) (s.kept + 2)) p in reference_past f.0 f.1 (ltb-false _ _ f.2)

      none : zeros_from (length rule) s.refs ≡ false → Ill
      none p = let f = zeros_fails (length rule) s.refs p in reference_set f.0 f.1 f.2

      right : all_below s.kept (node_right nodes) ≡ false → Ill
      right p = let f = all_fails s.kept (node_right nodes) p in node_fails f.0 f.1 f.2

      apart : all_below s.kept (λ i. all_below i (λ j. not (equal_nodes nodes i j))) ≡ false → Ill
      apart p =
          let f = all_fails s.kept (λ i. all_below i (λ j. not (equal_nodes nodes i j))) p in
          let g = all_fails f.0 (λ j. not (equal_nodes nodes f.0 j)) f.2 in
          equal_fails f.0 g.0 f.1 g.1 g.2

      order : same_trees (add_trees [] (diagrams nodes s.kept s.refs (length rule))) (trees_of nodes s.kept) ≡ false → Ill
      order p = out_of_order (λ q. false_true p (ap (λ (ts : List Tree). same_trees ts (trees_of nodes s.kept)) q ∙ same_trees_refl (trees_of nodes s.kept)))

      free : all_below (length rule) (λ i. levels (free_level k rule i) (at (trees_of nodes s.kept) (get_or s.refs i 0))) ≡ false → Ill
      free p =
          let f = all_fails (length rule) (λ i. levels (free_level k rule i) (at (trees_of nodes s.kept) (get_or s.refs i 0))) p in
          let g = levels_fails (free_level k rule f.0) (at (trees_of nodes s.kept) (get_or s.refs f.0 0)) f.2 in
          level_outside f.0 g.0 f.1 g.1 g.2

      rest : zeros_from (3 * s.kept) nodes ≡ false → Ill
      rest p = let f = zeros_fails (3 * s.kept) nodes p in node_rest f.0 f.1 f.2

  sizes_fail : sizes_right s.sizes (diagrams nodes s.kept s.refs (length rule)) ≡ false → Ill
  sizes_fail e = ⊎_elim size_count
      (λ w. ⊎_elim
      (λ h. size_other w.0 h (λ q. w.1 (q ∙ sym (size_of_row nodes s.kept s.refs (length rule) w.0 h))))
      (λ h. size_set w.0 h (λ q. w.1 (q ∙ sym (size_past nodes s.kept s.refs (length rule) w.0 h))))
      (lt_or_ge w.0 (length rule)))
      (misfit nodes s.kept s.refs (length rule) few s.sizes e)

  list_fails : (v : ℕ) → v < 4 → list_right k s values v ≡ false → Ill
  unfolding list_right distinct
  list_fails v h e = ⊎_elim (λ p. count_over v h (leb-false (get_or s.counts v 0) (most k) p)) (λ p. ⊎_elim twice rest (and_false _ _ p)) (and_false _ _ e)
    where
      twice : distinct (list_of k s values v) ≡ false → Ill
      twice p =
          let f = all_fails (length (list_of k s values v)) (λ i. all_below i (λ j. not (eqb (get_or (list_of k s values v) i 0) (get_or (list_of k s values v) j 0)))) p in
          let g = all_fails f.0 (λ j. not (eqb (get_or (list_of k s values v) f.0 0) (get_or (list_of k s values v) j 0))) f.2 in
          value_twice v f.0 g.0 h f.1 g.1 (eqb-true _ _ (flip (eqb (get_or (list_of k s values v) f.0 0) (get_or (list_of k s values v) g.0 0)) g.2))

      rest : all_below (most k) (λ j. ltb j (get_or s.counts v 0) || eqb (get_or (part k values v) j 0) 0) ≡ false → Ill
      rest p =
          let f = all_fails (most k) (λ j. ltb j (get_or s.counts v 0) || eqb (get_or (part k values v) j 0) 0) p in
          let g = or_false (ltb f.0 (get_or s.counts v 0)) (eqb (get_or (part k values v) f.0 0) 0) f.2 in
          value_rest v f.0 h (ltb-false f.0 (get_or s.counts v 0) g.0) (eqb-false (get_or (part k values v) f.0 0) 0 g.1)

  -- a test that failed tells a clause
  fails_ill : well_formed k C rule s nodes values ≡ false → Ill
  unfolding well_formed
  fails_ill e = ⊎_elim
      (λ p. row_count (eqb-false s.rows (length rule) p))
      (λ p. ⊎_elim (λ q. ⊎_elim kept_fails sizes_fail (and_false _ _ q)) (λ q. let f = all_fails 4 (list_right k s values) q in list_fails f.0 f.1 f.2) (and_false _ _ p))
      (and_false _ _ e)

  -- and each clause makes it fail
  module _ (w : well_formed k C rule s nodes values ≡ true) where
    node_is : (j : ℕ) → j < s.kept → (get_or nodes (3 * j + 1) 0 ≢ get_or nodes (3 * j + 2) 0)
        × ((r : ℕ) → Side nodes j r → (r < j + 2) × (above nodes (level j) r ≡ true))
    unfolding node_right
    node_is j h =
        let a = get_or nodes (3 * j + 1) 0 in
        let b = get_or nodes (3 * j + 2) 0 in
        let x = ltb a (j + 2) && above nodes (level j) a in
        let y = ltb b (j + 2) && above nodes (level j) b in
        let t = (kept_is k C rule s nodes values w).right j h in
        let u = and_true_r (not (eqb a b)) (x && y) t in
        (λ q. false_true (ap not (eq-eqb a b q)) (and_true_l (not (eqb a b)) (x && y) t), side (and_true_l x y u) (and_true_r x y u))
      where
        two : (r : ℕ) → (ltb r (j + 2) && above nodes (level j) r) ≡ true → (r < j + 2) × (above nodes (level j) r ≡ true)
        two r e = (ltb-true r (j + 2) (and_true_l (ltb r (j + 2)) (above nodes (level j) r) e), and_true_r (ltb r (j + 2)) (above nodes (level j) r) e)

        side : (ltb (get_or nodes (3 * j + 1) 0) (j + 2) && above nodes (level j) (get_or nodes (3 * j + 1) 0)) ≡ true
            → (ltb (get_or nodes (3 * j + 2) 0) (j + 2) && above nodes (level j) (get_or nodes (3 * j + 2) 0)) ≡ true
            → (r : ℕ) → Side nodes j r → (r < j + 2) × (above nodes (level j) r ≡ true)
        side p q r (inl e) = rw e (two (get_or nodes (3 * j + 1) 0) p)
        side p q r (inr e) = rw e (two (get_or nodes (3 * j + 2) 0) q)

    list_rest : (v : ℕ) → v < 4 → (leb (get_or s.counts v 0) (most k) ≡ true) × (distinct (list_of k s values v) ≡ true)
        × (all_below (most k) (λ j. ltb j (get_or s.counts v 0) || eqb (get_or (part k values v) j 0) 0) ≡ true)
    unfolding list_right
    list_rest v h =
        let t = list_is k C rule s nodes values w v h in
        let u = and_true_r (leb (get_or s.counts v 0) (most k)) _ t in
        (and_true_l (leb (get_or s.counts v 0) (most k)) _ t, and_true_l (distinct (list_of k s values v)) _ u, and_true_r (distinct (list_of k s values v)) _ u)

    part_size : (v : ℕ) → length (part k values v) ≤ most k
    unfolding part
    part_size v = rw length-take (omega arith)

    no_clause : Ill → ⊥
    unfolding above
    no_clause (row_count p) = p (rows_are k C rule s nodes values w)
    no_clause (kept_over p) = let q = (kept_is k C rule s nodes values w).fits in omega arith
    no_clause (reference_past i h p) = let q = (kept_is k C rule s nodes values w).inside i h in omega arith
    no_clause (reference_set i h p) = p ((kept_is k C rule s nodes values w).none i h)
    no_clause (sides_equal j h p) = (node_is j h).0 p
    no_clause (side_not_higher j i h side p) =
        let z : i + 2 ≡ suc (suc i) = omega arith in
        let q : ltb (level j) (level i) ≡ true = rw z at ((node_is j h).1 (i + 2) side).1 in
        let r = ltb-true (level j) (level i) q in
        omega arith
    no_clause (nodes_equal i j h q a b c) =
        false_true ((kept_is k C rule s nodes values w).apart i j h q) (unfold equal_nodes in and_true _ _ (eq-eqb _ _ a) (and_true _ _ (eq-eqb _ _ b) (eq-eqb _ _ c)))
    no_clause (child_after j r h side p) = let q = ((node_is j h).1 r side).0 in omega arith
    no_clause (out_of_order p) = p (kept_is k C rule s nodes values w).order
    no_clause (level_outside i l h a p) = false_true p (levels_at (free_level k rule i) _ ((kept_is k C rule s nodes values w).free_only i h) l a)
    no_clause (size_other i h p) = p (ap (λ (z : List ℕ). get_or z i 0) (sizes_are k C rule s nodes values w) ∙ size_of_row nodes s.kept s.refs (length rule) i h)
    no_clause (size_set i h p) = p (ap (λ (z : List ℕ). get_or z i 0) (sizes_are k C rule s nodes values w) ∙ size_past nodes s.kept s.refs (length rule) i h)
    no_clause (size_count p) = p (ap length (sizes_are k C rule s nodes values w) ∙ sizes_many nodes s.kept s.refs (length rule) few)
    no_clause (node_rest i h p) = p ((kept_is k C rule s nodes values w).rest i h)
    no_clause (value_rest v j h q p) = ⊎_elim
        (λ g. ⊎_elim
        (λ e. let z = ltb-true j (get_or s.counts v 0) e in omega arith)
        (λ e. p (eqb-true (get_or (part k values v) j 0) 0 e))
        (or_cases (ltb j (get_or s.counts v 0)) (eqb (get_or (part k values v) j 0) 0) (all_at (most k) _ (list_rest v h).2 j g)))
        (λ g. p (get_or-eq_default (part k values v) 0 (let z = part_size v in omega arith)))
        (lt_or_ge j (most k))
    no_clause (count_over v h p) = let q = leb-true (get_or s.counts v 0) (most k) (list_rest v h).0 in omega arith
    no_clause (value_twice v i j h p q e) = let z = distinct_of (list_of k s values v) (list_rest v h).1 i j p (omega arith) e in omega arith

  -- refusal 4 is the disjunction of its clauses
  pub formed_bad : (well_formed k C rule s nodes values ≡ false) ↔ IllFormed k C rule s nodes values
  formed_bad = (fails_ill, λ i. not_true (well_formed k C rule s nodes values) (λ w. no_clause w i))

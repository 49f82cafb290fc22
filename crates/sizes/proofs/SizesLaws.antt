-- Laws of sizes: what each of the 64 is, and when 64 numbers are the sizes. Assumes nothing.
use Prim.Native.Nat.{ℕ, zero, suc, ◌+◌, ◌-◌, ◌≤◌, ◌<◌}
use mathlib.Core.Path.{◌≡◌, refl, sym, ap, ◌∙◌}
use mathlib.Core.Bool.{false}
use mathlib.Core.List.{List, [], ◌∷◌}
use mathlib.Core.Logic.{⊎_elim}
use native.Mathlib.Omega.{arith}
use lib.ListN.{length, get_or, take, replicate, length-map, length-replicate, get_or-replicate, get_or-eq_default, get_or-map}
use lib.Seq.{ext_get_or, get_or-take, length-take-le}
use Rattle.trees.specs.Tree.{Tree, off}
use Rattle.trees.specs.Table.{add_tree, at, trees_of}
use Rattle.trees.specs.Kept.{diagrams}
use Rattle.trees.proofs.Tests.{lt_or_ge}
use Rattle.trees.proofs.CanonicalLaws.{zeros_at}
use Rattle.trees.proofs.SizesLaws.{sizes_length, sizes_at, sizes_past}
use Rattle.nodes.specs.Nodes.{Table}
use Rattle.trees.specs.Sizes.{node_count, sizes_of}
use Rattle.visits.proofs.CountLaws.{count_most}
use Rattle.sizes.specs.Leading.{Leading}
use Rattle.sizes.specs.Words.{Word, none, given, down, marked, Sized}
use Rattle.sizes.proofs.Sized.{sized}

-- a leaf has no nodes
pub leaf_none : (r : ℕ) (ts : List Tree) → r < 2 → node_count (at ts r) ≡ 0
unfolding at add_tree
leaf_none zero ts h = refl
leaf_none (suc zero) ts h = refl
leaf_none (suc (suc r)) ts h = absurd (omega arith)

-- no diagram has more nodes than are kept
pub at_most : (ns : List ℕ) (kept : ℕ) → Table ns kept → (r : ℕ) → r < kept + 2 → node_count (at (trees_of ns kept) r) ≤ kept
unfolding marked
at_most ns kept t r h =
    let ws = replicate kept none in
    let e = sized ns kept t.back t.one (r ∷ []) 0 1 0 (omega arith) h ws (omega (arith, length-replicate kept none)) empty in
    let m = count_most kept (λ j. get_or (down ns kept (given ws (r ∷ []) 0 1)) j none 0) in
    omega arith
  where
    empty : (j k : ℕ) → get_or (replicate kept none) j none k ≡ false
    empty j k = ⊎_elim (λ h. ap (λ (x : Word). x k) (get_or-replicate kept j none none h)) (λ h. ap (λ (x : Word). x k) (get_or-eq_default (replicate kept none) none (rw length-replicate h))) (lt_or_ge j kept)

module _ (ns : List ℕ) (kept : ℕ) (refs : List ℕ) (count : ℕ) (l : Leading refs count kept) where
  ds : List Tree
  ds = diagrams ns kept refs count

  rows : length ds ≡ count
  unfolding ds diagrams
  rows = rw (length-map, length-take-le count refs (omega (arith, l.few, l.wide)))

  row : (i : ℕ) → i < count → get_or ds i off ≡ at (trees_of ns kept) (get_or refs i 0)
  unfolding ds diagrams at
  row i h = get_or-map (at (trees_of ns kept)) (take count refs) i 0 ∙ ap (at (trees_of ns kept)) (get_or-take count refs i 0 h)

  pub sizes_wide : length (sizes_of (diagrams ns kept refs count)) ≡ 64
  unfolding ds
  sizes_wide = sizes_length ds (omega (arith, rows, l.few))

  -- 64 numbers that are the sizes row by row
  pub sizes_are : (xs : List ℕ) → length xs ≡ 64 → ((i : ℕ) → i < count → get_or xs i 0 ≡ node_count (at (trees_of ns kept) (get_or refs i 0))) → ((i : ℕ) → count ≤ i → get_or xs i 0 ≡ 0)
      → xs ≡ sizes_of (diagrams ns kept refs count)
  unfolding ds
  sizes_are xs e each past = ext_get_or 0 xs (sizes_of ds) (e ∙ sym sizes_wide) (λ i h. ⊎_elim
      (λ k. each i k ∙ sym (sizes_at ds i (omega (arith, rows)) ∙ ap node_count (row i k)))
      (λ k. past i k ∙ sym (sizes_past ds i (omega (arith, rows))))
      (lt_or_ge i count))

  -- the sizes after a pass over all rows, from 0
  pub sized_one : (xs ys : List ℕ) → xs ≡ replicate 64 0 → Sized ns kept refs 0 count xs ys → ys ≡ sizes_of (diagrams ns kept refs count)
  sized_one xs ys z s = sizes_are ys (s.size ∙ rw z refl) each past
    where
      start : (i : ℕ) → get_or xs i 0 ≡ 0
      start i = rw z (zeros_at 64 i)

      each : (i : ℕ) → i < count → get_or ys i 0 ≡ node_count (at (trees_of ns kept) (get_or refs i 0))
      each i h =
          let e : 0 + i ≡ i = omega arith in
          let q = rw e at (s.each i h) in
          omega (arith, q, start i)

      past : (i : ℕ) → count ≤ i → get_or ys i 0 ≡ 0
      past i h = s.after i (omega arith) ∙ start i

  -- the same after a pass over the first 32 and one over the others
  pub sized_two : (xs ys zs : List ℕ) → 32 < count → xs ≡ replicate 64 0 → Sized ns kept refs 0 32 xs ys → Sized ns kept refs 32 (count - 32) ys zs → zs ≡ sizes_of (diagrams ns kept refs count)
  sized_two xs ys zs more z s t = sizes_are zs (t.size ∙ s.size ∙ rw z refl) (λ i h. ⊎_elim (front i) (back i h) (lt_or_ge i 32)) past
    where
      start : (i : ℕ) → get_or xs i 0 ≡ 0
      start i = rw z (zeros_at 64 i)

      front : (i : ℕ) → i < 32 → get_or zs i 0 ≡ node_count (at (trees_of ns kept) (get_or refs i 0))
      front i h =
          let e : 0 + i ≡ i = omega arith in
          let q = rw e at (s.each i h) in
          omega (arith, q, start i, t.before i h)

      back : (i : ℕ) → i < count → 32 ≤ i → get_or zs i 0 ≡ node_count (at (trees_of ns kept) (get_or refs i 0))
      back i h k =
          let e : 32 + (i - 32) ≡ i = omega arith in
          let q = rw e at (t.each (i - 32) (omega arith)) in
          omega (arith, q, start i, s.after i (omega arith))

      past : (i : ℕ) → count ≤ i → get_or zs i 0 ≡ 0
      past i h = t.after i (omega arith) ∙ s.after i (omega arith) ∙ start i

  -- after the first 32 no size is over 4,096
  pub first_small : (xs ys : List ℕ) → Table ns kept → 32 < count → xs ≡ replicate 64 0 → Sized ns kept refs 0 32 xs ys → (i : ℕ) → get_or ys i 0 ≤ 4096
  first_small xs ys tb more z s i = ⊎_elim
      (λ h.
      let e : 0 + i ≡ i = omega arith in
      let q = rw e at (s.each i h) in
      omega (arith, q, start, at_most ns kept tb (get_or refs i 0) (l.inside i (omega arith)), tb.small, tb.fits))
      (λ h. omega (arith, start, s.after i h))
      (lt_or_ge i 32)
    where
      start : get_or xs i 0 ≡ 0
      start = rw z (zeros_at 64 i)

-- where no node is kept every size is 0, as after start
pub sizes_none : (ns refs : List ℕ) (count : ℕ) → Leading refs count 0 → sizes_of (diagrams ns 0 refs count) ≡ replicate 64 0
sizes_none ns refs count l =
    sym (sizes_are ns 0 refs count l (replicate 64 0) refl (λ i h. zeros_at 64 i ∙ sym (leaf_none (get_or refs i 0) (trees_of ns 0) (l.inside i h))) (λ i h. zeros_at 64 i))

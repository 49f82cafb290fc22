-- A7: the sizes of rows come out of one pass over the kept nodes. Assumes nothing.
use Prim.Native.Nat.{ℕ, zero, suc, ◌+◌, ◌*◌, ◌≤◌, ◌<◌}
use mathlib.Core.Path.{◌≡◌, refl, sym, ap, ◌∙◌}
use mathlib.Core.Bool.{Bool, true, false}
use mathlib.Core.List.{List, []}
use mathlib.Core.Logic.{◌⊎◌, inl, inr, ⊎_elim}
use native.Mathlib.Omega.{arith}
use lib.ListN.{length, get_or}
use Rattle.trees.specs.Tree.{Tree, off, same}
use Rattle.trees.specs.Table.{mem, push, add_tree, at, trees_of}
use Rattle.trees.proofs.Tests.{bool, false_true, not_true, or_cases}
use Rattle.trees.proofs.TreeLaws.{same_true}
use Rattle.trees.proofs.TableLaws.{Has, push_in, push_out, closed_nil, closed_add, has_add, ref_mem, mem_has, place_mem}
use Rattle.trees.proofs.ShowLaws.{sound_nil, sound_add}
use Rattle.trees.proofs.RoomLaws.{table_le}
use Rattle.trees.proofs.ReadLaws.{Back, One}
use Rattle.trees.specs.Sizes.{node_count}
use Rattle.visits.proofs.CountLaws.{count_below, count_le, chosen, chosen_length, chosen_mem}
use Rattle.visits.proofs.GrowthLaws.{mem_snoc}
use Rattle.visits.proofs.VisitLaws.{split}
use Rattle.sizes.specs.Words.{Word, none, given, down, marked}
use Rattle.sizes.proofs.GiveLaws.{In, Below, down_below, down_keeps, down_from, given_length, given_new, given_from}

-- none passes
count_none : (n : ℕ) (q : ℕ → Bool) → ((i : ℕ) → i < n → q i ≡ false) → count_below n q ≡ 0
unfolding count_below
count_none zero q e = refl
count_none (suc n) q e = rw (e n (omega arith), count_none n q (λ i h. e i (omega arith)))

-- a tree of a table that has grown was there, or was added
mem_push_from : (e : Tree) (ts : List Tree) (d : Tree) → mem e (push ts d) ≡ true → (mem e ts ≡ true) ⊎ (e ≡ d)
mem_push_from e ts d h = ⊎_elim
    (λ k. inl (ap (mem e) (sym (push_in ts d k)) ∙ h))
    (λ k. ⊎_elim (λ x. inl x) (λ x. inr (same_true e d x)) (or_cases (mem e ts) (same e d) (sym (ap (mem e) (push_out ts d k) ∙ mem_snoc e ts d) ∙ h)))
    (bool (mem d ts))

-- the kept nodes, and the row base + t of the n rows from base on; no word has a row before
module _ (ns : List ℕ) (m : ℕ) (back : Back ns m) (one : One ns m) (refs : List ℕ) (base n t : ℕ) (row : t < n)
    (inside : get_or refs (base + t) 0 < m + 2) (ws : List Word) (long : m ≤ length ws) (empty : (j k : ℕ) → get_or ws j none k ≡ false) where
  abbrev T : ℕ → Tree
  T r = at (trees_of ns m) r

  -- the row's diagram, and its nodes
  abbrev d : Tree
  d = T (get_or refs (base + t) 0)

  abbrev W : List Tree
  W = add_tree [] d

  abbrev first : List Word
  first = given ws refs base n

  abbrev last : List Word
  last = down ns m first

  in_table : (c : ℕ) → c < m → Has W (T (suc (suc c))) → mem (T (suc (suc c))) W ≡ true
  in_table c h x = let y = rw (split ns m back one c h) at x.1 in rw (split ns m back one c h) (ref_mem W x.0 _ _ _ y)

  closed_below : (j c : ℕ) → j < m → Below ns m back j c → mem (T (suc (suc j))) W ≡ true → mem (T (suc (suc c))) W ≡ true
  closed_below j c h z e =
      let y = mem_has W _ (rw (split ns m back one j h) at e) in
      let s = closed_add [] d closed_nil y.0 _ _ _ y.1 in
      go z s.0 s.1
    where
      go : Below ns m back j c → Has W (T (get_or ns (3 * j + 1) 0)) → Has W (T (get_or ns (3 * j + 2) 0)) → mem (T (suc (suc c))) W ≡ true
      go (inl x) p q = let b = back j h in in_table c (omega arith) (rw x at p)
      go (inr x) p q = let b = back j h in in_table c (omega arith) (rw x at q)

  -- a node that has the row's bit is one of the row's diagram
  sound : (j : ℕ) → j < m → In last j (base + t) → mem (T (suc (suc j))) W ≡ true
  sound j h e =
      let len = given_length ws refs base n in
      down_from ns m back (base + t) (λ c. mem (T (suc (suc c))) W ≡ true) closed_below m first (omega arith) start j (omega arith) e
    where
      start : (c : ℕ) → c < length first → In first c (base + t) → mem (T (suc (suc c))) W ≡ true
      start c k x = ⊎_elim
          (λ y. absurd (false_true (empty c (base + t)) y))
          (λ y.
          let q : y.0 ≡ t = omega (arith, y.2) in
          let z : get_or refs (base + t) 0 ≡ suc (suc c) = ap (λ (u : ℕ). get_or refs (base + u) 0) (sym q) ∙ y.3 in
          in_table c (omega arith) (ap_has z (has_add [] d)))
          (given_from ws refs base n c (base + t) (rw (given_length ws refs base n) at k) x)
        where
          ap_has : get_or refs (base + t) 0 ≡ suc (suc c) → Has W d → Has W (T (suc (suc c)))
          ap_has z x = (x.0, record { below = x.1.below; is = x.1.is ∙ ap T z })

  -- a node that has the row's bit shows the tree
  abbrev Found : Tree → Type 0
  Found e = (j : ℕ) × (j < m) × (T (suc (suc j)) ≡ e) × In last j (base + t)

  -- each node of a diagram whose reference has the row's bit has it too
  reached : (k p : ℕ) → p < k → p < m + 2 → ((j : ℕ) → p ≡ suc (suc j) → In last j (base + t)) → (e : Tree) (ts : List Tree) → mem e (add_tree ts (T p)) ≡ true
      → (mem e ts ≡ true) ⊎ Found e
  unfolding at add_tree
  reached zero p h b f e ts x = absurd (omega arith)
  reached (suc k) zero h b f e ts x = inl x
  reached (suc k) (suc zero) h b f e ts x = inl x
  reached (suc k) (suc (suc j)) h b f e ts x =
      let z = split ns m back one j (omega arith) in
      let q = back j (omega arith) in
      let len = given_length ws refs base n in
      let down : (c : ℕ) → Below ns m back j c → In last c (base + t) = λ c w. down_below ns m back m first j c (base + t) (omega arith) (omega arith) (omega arith) w (f j refl) in
      ⊎_elim
      (λ y. ⊎_elim
      (λ w. reached k (get_or ns (3 * j + 1) 0) (omega arith) (omega arith) (λ c v. down c (inl v)) e ts w)
      (λ w. inr w)
      (reached k (get_or ns (3 * j + 2) 0) (omega arith) (omega arith) (λ c v. down c (inr v)) e (add_tree ts (T (get_or ns (3 * j + 1) 0))) y))
      (λ y. inr (j, omega arith, z ∙ sym y, f j refl))
      (mem_push_from e _ _ (ap (λ (u : Tree). mem e (add_tree ts u)) (sym z) ∙ x))

  -- the nodes that have the row's bit
  with_row : List Tree
  with_row = chosen (λ j. T (suc (suc j))) m (λ j. get_or last j none (base + t))

  -- "Shared nodes count in each": the count of nodes that have the row's bit is the size of the row
  pub sized : marked ns m first (base + t) ≡ node_count d
  unfolding marked with_row mem
  sized =
      let a = count_le (λ j. T (suc (suc j))) m (λ j. get_or last j none (base + t)) W (λ x y p q e. let z = one (suc (suc x)) (suc (suc y)) (omega arith) (omega arith) e in omega arith) sound in
      let b = table_le W with_row (sound_add [] d sound_nil) all in
      let c = chosen_length (λ j. T (suc (suc j))) m (λ j. get_or last j none (base + t)) in
      omega arith
    where
      root : (j : ℕ) → get_or refs (base + t) 0 ≡ suc (suc j) → In last j (base + t)
      root j z =
          let len = given_length ws refs base n in
          down_keeps ns m back m first j (base + t) (omega arith) (given_new ws refs base n j t (omega arith) row z)

      found : (e : Tree) → (mem e [] ≡ true) ⊎ Found e → Found e
      found e (inl x) = absurd (false_true refl x)
      found e (inr x) = x

      all : (j : ℕ) → j < length W → Has with_row (get_or W j off)
      all j h =
          let x = found (get_or W j off) (reached (m + 2) (get_or refs (base + t) 0) inside inside root (get_or W j off) [] (place_mem W j (get_or W j off) h refl)) in
          mem_has with_row (get_or W j off) (ap (λ (u : Tree). mem u with_row) (sym x.2) ∙ chosen_mem (λ j. T (suc (suc j))) m (λ j. get_or last j none (base + t)) x.0 x.1 x.3)

-- no node has a row that was not given
pub sized_none : (ns : List ℕ) (m : ℕ) → Back ns m → (refs : List ℕ) (base n i : ℕ) → (i < base) ⊎ (base + n ≤ i) → (ws : List Word) → m ≤ length ws
    → ((j k : ℕ) → get_or ws j none k ≡ false) → marked ns m (given ws refs base n) i ≡ 0
unfolding marked
sized_none ns m back refs base n i h ws long empty = count_none m _ (λ j k. not_true _ (λ e. let l = given_length ws refs base n in
    down_from ns m back i (λ c. ⊥) (λ j c p q x. x) m (given ws refs base n) (omega arith) start j (omega arith) e))
  where
    apart : (t : ℕ) → t < n → i ≡ base + t → (i < base) ⊎ (base + n ≤ i) → ⊥
    apart t k e (inl x) = omega arith
    apart t k e (inr x) = omega arith

    start : (c : ℕ) → c < length (given ws refs base n) → In (given ws refs base n) c i → ⊥
    start c k x = ⊎_elim
        (λ y. false_true (empty c i) y)
        (λ y. apart y.0 y.1 y.2 h)
        (given_from ws refs base n c i (rw (given_length ws refs base n) at k) x)

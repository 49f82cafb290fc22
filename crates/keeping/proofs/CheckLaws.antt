-- Laws of the passes over references and single nodes. Assumes nothing.
use Prim.Native.Nat.{ℕ, zero, suc, ◌+◌, ◌*◌, ◌-◌, ◌≤◌, ◌<◌}
use mathlib.Core.Path.{◌≡◌, refl, sym}
use mathlib.Core.Bool.{Bool, true, false, ◌&&◌}
use mathlib.Core.List.{List, [], ◌∷◌}
use mathlib.Core.Logic.{◌≢◌}
use native.Mathlib.Omega.{arith}
use lib.Bits.{bit_or, or_add_and, and_le_l, and_le_r}
use Rattle.std.specs.Prelude.{Option, Some, None}
use Rattle.std.specs.Option.{is_some}
use Rattle.std.specs.List.{fold}
use lib.Dec.{eqb, ltb}
use lib.ListN.{get_or, get_or-eq_default}
use borrow.Author.Count.{below_more}
use borrow.Author.Tests.{eq-eqb, ne_eqb, eqb-true, lt-ltb, le-ltb}
use Rattle.trees.specs.Table.{NodeIs}
use Rattle.trees.specs.Kept.{above, node_right, equal_nodes}
use Rattle.trees.proofs.Tests.{EqCase, equal, other, eq_case, false_true, not_true, and_true_l, and_true_r}
use Rattle.nodes.specs.Nodes.{Decides}
use Rattle.keeping.specs.Checks.{ZeroFrom, Apart}

-- two equal nodes are told by the test
pub equal_true : (ns : List ℕ) (i j : ℕ)
    → get_or ns (3 * i) 0 ≡ get_or ns (3 * j) 0 → get_or ns (3 * i + 1) 0 ≡ get_or ns (3 * j + 1) 0 → get_or ns (3 * i + 2) 0 ≡ get_or ns (3 * j + 2) 0 → equal_nodes ns i j ≡ true
unfolding equal_nodes
equal_true ns i j e f g = rw (eq-eqb _ _ e, eq-eqb _ _ f, eq-eqb _ _ g)

-- what a search has found, or has not
pub some_is : (r : Option ℕ) → is_some r ≡ true → (j : ℕ) × (r ≡ Some j)
some_is (Some j) e = (j, refl)
some_is None e = absurd (false_true refl e)

pub none_is : (r : Option ℕ) → is_some r ≡ false → r ≡ None
none_is (Some j) e = absurd (false_true e refl)
none_is None e = refl

-- the or of two numbers is 0 if both are
or_zero : (a b : ℕ) → bit_or a b ≡ 0 → (a ≡ 0) × (b ≡ 0)
or_zero a b e = (omega (arith, or_add_and a b, and_le_r a b), omega (arith, or_add_and a b, and_le_l a b))

zero_or : (a b : ℕ) → a ≡ 0 → b ≡ 0 → bit_or a b ≡ 0
zero_or a b e f = omega (arith, or_add_and a b)

-- numbers whose or is 0 are 0
or_none : (xs : List ℕ) (a : ℕ) → fold bit_or a xs ≡ 0 → (a ≡ 0) × ZeroFrom 0 xs
or_none [] a e = (e, λ j h. get_or-eq_default [] 0 {n = j} (omega arith))
or_none (x ∷ xs) a e =
    let r = or_none xs (bit_or a x) e in
    let z = or_zero a x r.0 in
    (z.0, λ j h. go r.1 z.1 j)
  where
    go : ZeroFrom 0 xs → x ≡ 0 → (j : ℕ) → get_or (x ∷ xs) j 0 ≡ 0
    go rest first zero = first
    go rest first (suc j) = rest j (omega arith)

none_or : (xs : List ℕ) (a : ℕ) → a ≡ 0 → ZeroFrom 0 xs → fold bit_or a xs ≡ 0
none_or [] a e z = e
none_or (x ∷ xs) a e z = none_or xs (bit_or a x) (zero_or a x e (z 0 (omega arith))) (λ j h. z (suc j) (omega arith))

-- so the or tells whether numbers are 0
pub or_tells : (xs : List ℕ) → Decides (ZeroFrom 0 xs) (eqb (fold bit_or 0 xs) 0)
or_tells xs = go (eqb (fold bit_or 0 xs) 0) (eq_case (fold bit_or 0 xs) 0)
  where
    go : (b : Bool) → EqCase (fold bit_or 0 xs) 0 b → Decides (ZeroFrom 0 xs) b
    go true (equal e) = (or_none xs 0 e).1
    go false (other e) = λ z. e (none_or xs 0 refl z)

-- a reference to a leaf leads above every level
pub above_leaf : (ns : List ℕ) (l r : ℕ) → r < 2 → above ns l r ≡ true
unfolding above
above_leaf ns l zero h = refl
above_leaf ns l (suc zero) h = refl
above_leaf ns l (suc (suc j)) h = absurd (omega arith)

-- a reference to a node leads above a level if the node's level does
pub above_node : (ns : List ℕ) (l r : ℕ) → 2 ≤ r → above ns l r ≡ ltb l (get_or ns (3 * (r - 2)) 0)
unfolding above
above_node ns l zero h = absurd (omega arith)
above_node ns l (suc zero) h = absurd (omega arith)
above_node ns l (suc (suc j)) h = let e : suc (suc j) - 2 ≡ j = omega arith in rw e

-- a node's test, part by part
module _ (ns : List ℕ) (j : ℕ) where
  pub right_same : get_or ns (3 * j + 1) 0 ≡ get_or ns (3 * j + 2) 0 → false ≡ node_right ns j
  unfolding node_right
  right_same e = rw (eq-eqb _ _ e)

  module _ (differ : get_or ns (3 * j + 1) 0 ≢ get_or ns (3 * j + 2) 0) where
    pub right_low : j + 2 ≤ get_or ns (3 * j + 1) 0 → false ≡ node_right ns j
    unfolding node_right
    right_low h = rw (ne_eqb _ _ differ, le-ltb _ _ h)

    module _ (back : get_or ns (3 * j + 1) 0 < j + 2) where
      pub right_low_level : above ns (get_or ns (3 * j) 0) (get_or ns (3 * j + 1) 0) ≡ false → false ≡ node_right ns j
      unfolding node_right
      right_low_level h = rw (ne_eqb _ _ differ, lt-ltb _ _ back, h)

      module _ (up : above ns (get_or ns (3 * j) 0) (get_or ns (3 * j + 1) 0) ≡ true) where
        pub right_high : j + 2 ≤ get_or ns (3 * j + 2) 0 → false ≡ node_right ns j
        unfolding node_right
        right_high h = rw (ne_eqb _ _ differ, lt-ltb _ _ back, up, le-ltb _ _ h)

        -- the high side decides last
        pub right_high_level : get_or ns (3 * j + 2) 0 < j + 2 → above ns (get_or ns (3 * j) 0) (get_or ns (3 * j + 2) 0) ≡ node_right ns j
        unfolding node_right
        right_high_level h = rw (ne_eqb _ _ differ, lt-ltb _ _ back, up, lt-ltb _ _ h)

-- two nodes that are told equal have the same numbers
equal_node : (ns : List ℕ) (i j : ℕ) → equal_nodes ns i j ≡ true → NodeIs ns j (get_or ns (3 * i) 0) (get_or ns (3 * i + 1) 0) (get_or ns (3 * i + 2) 0)
unfolding equal_nodes
equal_node ns i j e =
    let level = eqb (get_or ns (3 * i) 0) (get_or ns (3 * j) 0) in
    let low = eqb (get_or ns (3 * i + 1) 0) (get_or ns (3 * j + 1) 0) in
    let high = eqb (get_or ns (3 * i + 2) 0) (get_or ns (3 * j + 2) 0) in
    let f = and_true_r level (low && high) e in
    record {
      level = sym (eqb-true _ _ (and_true_l level (low && high) e));
      low = sym (eqb-true _ _ (and_true_l low high f));
      high = sym (eqb-true _ _ (and_true_r low high f));
    }

-- one node more that stands at no place before
pub apart_more : (ns : List ℕ) (n : ℕ) → Apart ns n → ((j : ℕ) → j < n → NodeIs ns j (get_or ns (3 * n) 0) (get_or ns (3 * n + 1) 0) (get_or ns (3 * n + 2) 0) → ⊥) → Apart ns (n + 1)
apart_more ns n a none i j = below_more (λ i. j < i → equal_nodes ns i j ≡ false) n (λ i k l. a i j k l) (λ l. not_true (equal_nodes ns n j) (λ e. none j l (equal_node ns n j e))) i

-- one that stands at a place before
pub apart_not : (ns : List ℕ) (n i j : ℕ) → i < n → j < i → NodeIs ns j (get_or ns (3 * i) 0) (get_or ns (3 * i + 1) 0) (get_or ns (3 * i + 2) 0) → Apart ns n → ⊥
apart_not ns n i j h k w a = false_true (a i j h k) (equal_true ns i j (sym w.level) (sym w.low) (sym w.high))

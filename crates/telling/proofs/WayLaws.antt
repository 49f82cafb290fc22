-- The way that a number's bits lead from reference to reference. Assumes nothing.
use Prim.Native.Nat.{ℕ, zero, suc, ◌+◌, ◌-◌, ◌/◌, ◌%◌, ◌^◌, ◌≤◌, ◌<◌}
use mathlib.Core.Path.{◌≡◌, refl, sym, ◌∙◌}
use mathlib.Core.Bool.{Bool, true, false, cond}
use mathlib.Core.List.{List}
use mathlib.Core.Logic.{◌≢◌}
use native.Mathlib.Omega.{arith}
use borrow.Author.Tests.{lt-ltb, le-ltb, eq-eqb, ne_eqb}
use Rattle.trees.specs.Tree.{Tree, node, Fine}
use Rattle.trees.specs.Table.{at, trees_of}
use Rattle.trees.proofs.TreeLaws.{node_fine, fine_lower}
use Rattle.nodes.specs.Nodes.{Table, Splits}
use Rattle.nodes.proofs.ReadLaws.{read_below}
use Rattle.telling.specs.Follow.{bit_of, follow}
use Rattle.telling.specs.Entries.{Ordered}

-- the side for a bit that is 0
pub bit_low : (n j low high : ℕ) → n / 2 ^ j % 2 ≡ 0 → low ≡ cond (bit_of n j) high low
unfolding bit_of
bit_low n j low high e = rw (eq-eqb (n / 2 ^ j % 2) 0 e)

-- and for one that is not
pub bit_high : (n j low high : ℕ) → n / 2 ^ j % 2 ≢ 0 → high ≡ cond (bit_of n j) high low
unfolding bit_of
bit_high n j low high e = rw (ne_eqb (n / 2 ^ j % 2) 0 e)

-- a leaf leads to itself
pub way_leaf : (ns : List ℕ) (kept base k n q : ℕ) → q < 2 → follow base k n (at (trees_of ns kept) q) ≡ at (trees_of ns kept) q
unfolding follow at
way_leaf ns kept base k n zero h = refl
way_leaf ns kept base k n (suc zero) h = refl
way_leaf ns kept base k n (suc (suc q)) h = absurd (omega arith)

module _ (ns : List ℕ) (kept base k n q l a b : ℕ) (s : Splits ns kept q l a b) where
  past : (x y : Tree) → base + k ≤ l → follow base k n (node l x y) ≡ node l x y
  unfolding follow
  past x y h = rw (le-ltb l (base + k) h)

  side : (x y : Tree) → l < base + k → follow base k n (node l x y) ≡ cond (bit_of n (l - base)) (follow base k n y) (follow base k n x)
  unfolding follow
  side x y h = rw (lt-ltb l (base + k) h)

  -- a node past the levels leads to itself
  pub way_past : base + k ≤ l → follow base k n (at (trees_of ns kept) q) ≡ at (trees_of ns kept) q
  way_past h = rw s.is (past (at (trees_of ns kept) a) (at (trees_of ns kept) b) h)

  -- one of the levels leads where its side leads
  pub way_next : l < base + k → follow base k n (at (trees_of ns kept) q) ≡ follow base k n (at (trees_of ns kept) (cond (bit_of n (l - base)) b a))
  way_next h = rw s.is (side (at (trees_of ns kept) a) (at (trees_of ns kept) b) h ∙ go (bit_of n (l - base)))
    where
      go : (x : Bool) → cond x (follow base k n (at (trees_of ns kept) b)) (follow base k n (at (trees_of ns kept) a)) ≡ follow base k n (at (trees_of ns kept) (cond x b a))
      go true = refl
      go false = refl

  -- its level stands from base on
  pub way_level : Ordered base (at (trees_of ns kept) q) → base ≤ l
  way_level o =
      let f : Ordered base (node l (at (trees_of ns kept) a) (at (trees_of ns kept) b)) = rw s.is at o in
      (node_fine base f.levels l _ _ f.fine).0

  -- its sides are in order
  pub way_side : (x : Bool) → Ordered base (at (trees_of ns kept) q) → Ordered base (at (trees_of ns kept) (cond x b a))
  way_side x o =
      let f : Ordered base (node l (at (trees_of ns kept) a) (at (trees_of ns kept) b)) = rw s.is at o in
      let c = node_fine base f.levels l _ _ f.fine in
      go f.levels c.0 c.2 c.3 x
    where
      go : (hi : ℕ) → base ≤ l → Fine (suc l) hi (at (trees_of ns kept) a) → Fine (suc l) hi (at (trees_of ns kept) b) → (x : Bool) → Ordered base (at (trees_of ns kept) (cond x b a))
      go hi h f g true = record { levels = hi; fine = fine_lower (suc l) hi base _ (omega arith) g }
      go hi h f g false = record { levels = hi; fine = fine_lower (suc l) hi base _ (omega arith) f }

  -- and stand before it
  pub way_below : Table ns kept → 2 ≤ q → q < kept + 2 → (x : Bool) → cond x b a < q
  way_below t h g true = (read_below t s h g).1
  way_below t h g false = (read_below t s h g).0

  -- so the way goes on
  pub way_again : Table ns kept → 2 ≤ q → q < kept + 2 → Ordered base (at (trees_of ns kept) q) → l < base + k → (r : ℕ) → r ≡ cond (bit_of n (l - base)) b a
      → (r < kept + 2) × Ordered base (at (trees_of ns kept) r) × (follow base k n (at (trees_of ns kept) r) ≡ follow base k n (at (trees_of ns kept) q))
  way_again t h g o lt r e =
      let x : Bool = bit_of n (l - base) in
      let y = way_below t h g x in
      rw e (omega arith, way_side x o, sym (way_next lt))

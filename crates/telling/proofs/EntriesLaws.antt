-- The entries of a diagram tell what the diagram tells, and the pass finds them. Assumes nothing.
use Prim.Native.Nat.{ℕ, zero, suc, ◌+◌, ◌≤◌, ◌<◌}
use mathlib.Core.Path.{◌≡◌, refl, ◌∙◌}
use mathlib.Core.Bool.{true, ◌&&◌}
use mathlib.Core.List.{List}
use mathlib.Core.Logic.{◌↔◌, ◌≢◌, ◌⊎◌, inl, inr, ⊎_elim}
use native.Mathlib.Decide.{ℕ_discrete}
use native.Mathlib.Omega.{arith}
use borrow.Author.Tests.{lt-ltb, le-ltb}
use lib.ListN.{length, get_or, set, length-set}
use lib.Seq.{get_or-set_same, get_or-set_other}
use Rattle.trees.specs.Tree.{Tree, node, same}
use Rattle.trees.specs.Table.{at, trees_of}
use Rattle.nodes.specs.Nodes.{Table, Splits, Zeroed}
use Rattle.nodes.proofs.ReadLaws.{one_read}
use Rattle.telling.specs.Follow.{follow, untold}
use Rattle.telling.specs.Entries.{Ordered, Meet, Enters, here, low, high, Listed, Entries}

-- a diagram whose first level stands before base: both sides
pub untold_node : (base k n m l : ℕ) (a b : Tree) → l < base → untold base k n m (node l a b) ≡ (untold base k n m a && untold base k n m b)
unfolding untold
untold_node base k n m l a b h = rw (lt-ltb l base h)

-- one that comes to the levels, or passes them
pub untold_enters : (base k n m l : ℕ) (a b : Tree) → base ≤ l → untold base k n m (node l a b) ≡ same (follow base k n (node l a b)) (follow base k m (node l a b))
unfolding untold
untold_enters base k n m l a b h = rw (le-ltb l base h)

-- a leaf tells nothing
untold_leaf : (ns : List ℕ) (kept base k n m q : ℕ) → q < 2 → untold base k n m (at (trees_of ns kept) q) ≡ true
unfolding untold at
untold_leaf ns kept base k n m zero h = refl
untold_leaf ns kept base k n m (suc zero) h = refl
untold_leaf ns kept base k n m (suc (suc q)) h = absurd (omega arith)

leaf_splits : (ns : List ℕ) (kept q l a b : ℕ) → q < 2 → Splits ns kept q l a b → ⊥
unfolding at
leaf_splits ns kept zero l a b h s = let e = s.is in let z : ◌≡◌ {A = ℕ} 0 1 = cc in omega arith
leaf_splits ns kept (suc zero) l a b h s = let e = s.is in let z : ◌≡◌ {A = ℕ} 0 1 = cc in omega arith
leaf_splits ns kept (suc (suc q)) l a b h s = absurd (omega arith)

-- no leaf leads to an entry
leaf_enters : (ns : List ℕ) (kept base e q : ℕ) → q < 2 → Enters ns kept base e q → ⊥
leaf_enters ns kept base e q h (here _ l a b z s le) = leaf_splits ns kept q l a b h s
leaf_enters ns kept base e q h (low _ l a b s lt x) = leaf_splits ns kept q l a b h s
leaf_enters ns kept base e q h (high _ l a b s lt x) = leaf_splits ns kept q l a b h s

module _ (ns : List ℕ) (kept base e q l a b : ℕ) (t : Table ns kept) (s : Splits ns kept q l a b) where
  -- a node whose level does not stand before base leads to itself alone
  pub enters_itself : base ≤ l → Enters ns kept base e q → q ≡ e
  enters_itself le (here _ m c d z u mle) = z
  enters_itself le (low _ m c d u lt x) = let y = one_read t s u in absurd (omega (arith, y.0))
  enters_itself le (high _ m c d u lt x) = let y = one_read t s u in absurd (omega (arith, y.0))

  -- any other leads where its sides lead
  pub enters_side : l < base → Enters ns kept base e q → Enters ns kept base e a ⊎ Enters ns kept base e b
  enters_side lt (here _ m c d z u le) = let y = one_read t s u in absurd (omega (arith, y.0))
  enters_side lt (low _ m c d u mlt x) = inl (rw (one_read t s u).1 x)
  enters_side lt (high _ m c d u mlt x) = inr (rw (one_read t s u).2 x)

-- e is an entry of some marked reference before `left`
pub record Awaits (ns : List ℕ) (kept base : ℕ) (work : List ℕ) (left e : ℕ) : Type 0 where
  pub mark : ℕ
  pub before : mark < left
  pub marked : get_or work mark 0 ≢ 0
  pub enters : Enters ns kept base e mark

-- The pass has come down to `left`: the marks below it and the entries found tell together what p's diagram tells.
pub record Passing (ns : List ℕ) (kept p base : ℕ) (work : List ℕ) (left from : ℕ) : Type 0 where
  pub ref : p < kept + 2
  pub room : p < length work
  pub down : left ≤ from
  pub up : from ≤ p + 1
  pub few : p + 1 ≤ from + kept
  pub marked : (q : ℕ) → q < left → get_or work q 0 ≢ 0 → Ordered 0 (at (trees_of ns kept) q)
  pub inside : (i : ℕ) → from ≤ i → i < p + 1 → get_or work i 0 < kept + 2
  pub passed : (i : ℕ) → from ≤ i → i < p + 1 → left ≤ get_or work i 0
  pub ordered : (i : ℕ) → from ≤ i → i < p + 1 → Ordered base (at (trees_of ns kept) (get_or work i 0))
  pub once : (i j : ℕ) → from ≤ i → i < j → j < p + 1 → get_or work i 0 < get_or work j 0
  pub all : (e : ℕ) → Enters ns kept base e p → Listed work from p e ⊎ Awaits ns kept base work left e
  pub only : (e : ℕ) → Listed work from p e → Enters ns kept base e p
  pub awaited : (q e : ℕ) → q < left → get_or work q 0 ≢ 0 → Enters ns kept base e q → Enters ns kept base e p
  pub exact : (k n m : ℕ) → (untold base k n m (at (trees_of ns kept) p) ≡ true)
      ↔ (((q : ℕ) → q < left → get_or work q 0 ≢ 0 → untold base k n m (at (trees_of ns kept) q) ≡ true) × ((i : ℕ) → from ≤ i → i < p + 1 → Meet ns kept base k n m (get_or work i 0)))

-- at first p alone is marked
pub passing_first : (ns : List ℕ) (kept p base : ℕ) (work zeroed : List ℕ) → p < kept + 2 → p < length work → Ordered 0 (at (trees_of ns kept) p) → Zeroed 0 p work zeroed
    → Passing ns kept p base (set zeroed p 1) (p + 1) (p + 1)
passing_first ns kept p base work zeroed ref room fine z = record {
  ref = ref;
  room = rw (length-set zeroed p 1) (omega (arith, z.size));
  down = omega arith;
  up = omega arith;
  few = omega arith;
  marked = λ q h e. let s = only q h e in rw s fine;
  inside = λ i h g. absurd (omega arith);
  passed = λ i h g. absurd (omega arith);
  ordered = λ i h g. absurd (omega arith);
  once = λ i j h g f. absurd (omega arith);
  all = λ e x. inr (record { mark = p; before = omega arith; marked = own; enters = x });
  only = λ e x. let y = x.after in let z = x.before in absurd (omega arith);
  awaited = λ q e h g x. let s = only q h g in rw (← s) x;
  exact = λ k n m. (λ e. (λ q h g. let s = only q h g in rw s e, λ i h g. absurd (omega arith)), λ e. e.0 p (omega arith) own);
}
  where
    only : (q : ℕ) → q < p + 1 → get_or (set zeroed p 1) q 0 ≢ 0 → q ≡ p
    only q h e = elim (ℕ_discrete q p) [
      | yes s ↦ s
      | no s ↦ absurd (e (get_or-set_other zeroed p q 1 0 s ∙ z.zero q (omega arith) (omega arith)))
    ]

    own : get_or (set zeroed p 1) p 0 ≢ 0
    own e = let s = get_or-set_same zeroed p 1 0 (omega (arith, z.size)) in omega (arith, s, e)

-- at last only leaves are marked
pub passing_last : (ns : List ℕ) (kept p base : ℕ) (work : List ℕ) (left from : ℕ) → left ≤ 2 → Passing ns kept p base work left from → Entries ns kept p base work from
passing_last ns kept p base work left from h v = record {
  ref = v.ref;
  room = v.room;
  up = v.up;
  few = v.few;
  inside = v.inside;
  ordered = v.ordered;
  once = v.once;
  all = λ e x. ⊎_elim (λ y. y) (λ y. let z = y.before in absurd (leaf_enters ns kept base e y.mark (omega arith) y.enters)) (v.all e x);
  only = v.only;
  exact = λ k n m. (λ e. ((v.exact k n m).0 e).1, λ e. (v.exact k n m).1 (λ q g _. untold_leaf ns kept base k n m q (omega arith), e));
}

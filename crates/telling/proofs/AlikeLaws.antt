-- What the entries say of a diagram, and when two references are one. Assumes nothing.
use Prim.Native.Nat.{ℕ, ◌+◌, ◌-◌, ◌*◌, ◌%◌, ◌^◌, ◌≤◌, ◌<◌}
use mathlib.Core.Path.{◌≡◌, sym, ap, ◌∙◌}
use mathlib.Core.Bool.{true, false}
use mathlib.Core.List.{List}
use mathlib.Core.Logic.{◌≢◌}
use native.Mathlib.Omega.{arith}
use lib.ListN.{length, get_or, take, drop, length-drop}
use lib.Seq.{length-take-le, get_or-take, get_or-drop}
use lib.Pow.{pow-lt}
use Rattle.trees.specs.Table.{at, trees_of}
use Rattle.trees.proofs.Tests.{not_true}
use Rattle.trees.proofs.TreeLaws.{same_true, same_eq}
use Rattle.nodes.specs.Nodes.{Table, To}
use Rattle.telling.specs.Follow.{follow, untold}
use Rattle.telling.specs.Entries.{Meet, Entries}

-- a shift that loses no bit
shift_is : (k : ℕ) → k < 32 → 1 * 2 ^ k % 4294967296 ≡ 2 ^ k
shift_is k h = let g : 2 ^ k < 2 ^ 32 = pow-lt h in omega arith

-- the reserved number, all ones
pub ones_is : (k : ℕ) → k < 32 → 1 * 2 ^ k % 4294967296 - 1 ≡ 2 ^ k - 1
ones_is k h = rw (shift_is k h)

-- x and y are where n and m lead, m being given as o
module _ (ns : List ℕ) (kept base k n m o r x y : ℕ) (t : Table ns kept) (is : o ≡ m) (p : To ns kept x (follow base k n (at (trees_of ns kept) r))) (q : To ns kept y (follow base k o (at (trees_of ns kept) r))) where
  other : To ns kept y (follow base k m (at (trees_of ns kept) r))
  other = rw (← is) q

  -- both numbers lead to one reference
  pub meets : x ≡ y → Meet ns kept base k n m r
  meets e = same_eq _ _ (sym p.is ∙ ap (λ (z : ℕ). at (trees_of ns kept) z) e ∙ other.is)

  -- where they lead to two, the diagrams there differ
  pub parts : x ≢ y → Meet ns kept base k n m r → ⊥
  parts d e = d (t.one x y p.below other.below (p.is ∙ same_true _ _ e ∙ sym other.is))

module _ (ns : List ℕ) (kept p base : ℕ) (work : List ℕ) (from : ℕ) (e : Entries ns kept p base work from) (k n m : ℕ) where
  -- no entry tells the numbers apart
  pub all_meet : ((i : ℕ) → from ≤ i → i < p + 1 → Meet ns kept base k n m (get_or work i 0)) → true ≡ untold base k n m (at (trees_of ns kept) p)
  all_meet h = sym ((e.exact k n m).1 h)

  -- one does
  pub one_parts : (i : ℕ) → from ≤ i → i < p + 1 → (Meet ns kept base k n m (get_or work i 0) → ⊥) → false ≡ untold base k n m (at (trees_of ns kept) p)
  one_parts i h g d = sym (not_true (untold base k n m (at (trees_of ns kept) p)) (λ z. d ((e.exact k n m).0 z i h g)))

-- the entries stand from place `from` on up to place p
pub entry_at : (from p j : ℕ) (work : List ℕ) → j < p + 1 - from → get_or (take (p + 1 - from) (drop from work)) j 0 ≡ get_or work (from + j) 0
entry_at from p j work h = get_or-take (p + 1 - from) (drop from work) j 0 h ∙ get_or-drop from work j 0

pub entries_length : (from p : ℕ) (work : List ℕ) → from ≤ p + 1 → p < length work → length (take (p + 1 - from) (drop from work)) ≡ p + 1 - from
entries_length from p work up room = length-take-le (p + 1 - from) (drop from work) (rw length-drop (omega arith))

-- Two outcomes that keep a promise of this crate are the same: the sizes, and whether sizes are right. What is left in the first numbers
-- of the work slice is not promised. Assumes nothing.
use Prim.Native.Nat.{ℕ}
use mathlib.Core.Path.{◌≡◌, refl, sym, ◌∙◌}
use mathlib.Core.Bool.{Bool, true, false}
use mathlib.Core.List.{List}
use Rattle.trees.specs.Kept.{diagrams}
use Rattle.nodes.specs.Nodes.{Decides}
use Rattle.trees.specs.Sizes.{sizes_of}

pub one_sizes : (ns : List ℕ) (kept : ℕ) (refs : List ℕ) (count : ℕ) (xs ys : List ℕ) → xs ≡ sizes_of (diagrams ns kept refs count) → ys ≡ sizes_of (diagrams ns kept refs count) → xs ≡ ys
one_sizes ns kept refs count xs ys p q = p ∙ sym q

pub one_answer : (P : Type 0) (a b : Bool) → Decides P a → Decides P b → a ≡ b
one_answer P true true p q = refl
one_answer P true false p q = absurd (q p)
one_answer P false true p q = absurd (p q)
one_answer P false false p q = refl

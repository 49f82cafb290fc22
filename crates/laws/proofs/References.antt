-- A9: "On well-formed input with room enough, both sides come out as the same reference". Calls of the walks, one after the
-- other on one table; what a call asks and promises is in specs/Calls. Stated for every number of levels. Assumes nothing.
use Prim.Native.Nat.{ℕ}
use mathlib.Core.Path.{◌≡◌, sym, ap, ◌∙◌}
use mathlib.Core.List.{List}
use Rattle.trees.specs.Bits.{Same}
use Rattle.trees.specs.Tree.{Tree}
use Rattle.trees.specs.Table.{ref_of}
use Rattle.trees.proofs.FunctionLaws.{tree_same}
use Rattle.laws.specs.Calls.{Held, AndCall, OrCall, NotCall, RemoveCall}
use Rattle.laws.specs.Forms.{Form, worked, form_says, Formed}
use Rattle.laws.proofs.CallLaws.{input_leads, drops_input}
use Rattle.laws.proofs.SideLaws.{and_swapped, and_regrouped, and_itself, not_back, or_written, drops_exchanged, drops_shared}
use Rattle.laws.proofs.FormLaws.{worked_is}

module _ (levels : ℕ) where
  -- "and is commutative": p and q, then q and p
  pub and_commutative : {x y z : Held} {p q r s : ℕ}
      → AndCall levels x p q y r
      → AndCall levels y q p z s
      → r ≡ s
  and_commutative a b = and_swapped (input_leads a.0) (input_leads a.1) a b

  -- "associative": m, which is p and q, and o; then p and n, which is q and o
  pub and_associative : {x y z u w : Held} {p q o m n r s : ℕ}
      → AndCall levels x p q y m → AndCall levels y m o z r
      → AndCall levels z q o u n → AndCall levels u p n w s
      → r ≡ s
  and_associative a b c d = and_regrouped (input_leads a.0) (input_leads a.1) (input_leads b.1) a b c d

  -- "and idempotent": p and p
  pub and_idempotent : {x y : Held} {p r : ℕ}
      → AndCall levels x p p y r
      → r ≡ p
  and_idempotent a = and_itself (input_leads a.0) a

  -- "not twice gives the diagram back"
  pub not_twice : {x y z : Held} {p m r : ℕ}
      → NotCall levels x p y m → NotCall levels y m z r
      → r ≡ p
  not_twice a b = not_back (input_leads a.0) a b

  -- "removing two different variables commutes": v and then w, w and then v
  pub removals_commute : (k v w : ℕ) {x y z u t : Held} {p a b r s : ℕ}
      → RemoveCall levels k v x p y a → RemoveCall levels k w y a z r
      → RemoveCall levels k w z p u b → RemoveCall levels k v u b t s
      → r ≡ s
  removals_commute k v w a b c d = drops_exchanged (input_leads (drops_input a)) a b c d

  -- "removing one from an or equals the or of the removals": v from m, which is p or q; v from p, v from q, and their or
  pub removal_or : (k v : ℕ) {x y z u w t : Held} {p q m a b r s : ℕ}
      → OrCall levels x p q y m → RemoveCall levels k v y m z r
      → RemoveCall levels k v z p u a → RemoveCall levels k v u q w b → OrCall levels w a b t s
      → r ≡ s
  removal_or k v a b c d e = drops_shared (input_leads a.0) (input_leads a.1) a b c d e

  -- rules have no row for or: an or that is written by not and and is the or
  pub or_by_and : {x y z u w t : Held} {p q a b m r s : ℕ}
      → NotCall levels x p y a → NotCall levels y q z b → AndCall levels z a b u m → NotCall levels u m w r
      → OrCall levels w p q t s
      → r ≡ s
  or_by_and a b c d e = or_written (input_leads a.0) (input_leads b.0) a b c d e

  -- of plans, whose rows end in one table: rows that work formulas that say the same, as the sides of these laws do, have the
  -- same reference there
  pub rows_alike : (ts : List Tree) (f g : Form) → Formed levels f → Formed levels g → Same (form_says f) (form_says g)
      → ref_of ts (worked levels f) ≡ ref_of ts (worked levels g)
  rows_alike ts f g v w e = ap (ref_of ts) (worked_is levels f v ∙ tree_same levels _ _ e ∙ sym (worked_is levels g w))

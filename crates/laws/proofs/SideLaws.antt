-- The two sides of each law, worked on one table from references that lead to the diagrams of some functions: they end in
-- the same reference. Assumes nothing.
use Prim.Native.Nat.{ℕ}
use mathlib.Core.Path.{◌≡◌}
use Rattle.trees.specs.Bits.{Function}
use Rattle.laws.specs.Calls.{Held, AndCall, OrCall, NotCall, DropCalls}
use Rattle.laws.proofs.FunctionLaws.{and_comm, and_assoc, and_idem, not_not, or_by_not, drops_swap, drops_or}
use Rattle.laws.proofs.CallLaws.{Leads, said, one_reference, later, and_leads, or_leads, not_leads, drops_later, drops_leads}

module _ {levels : ℕ} where
  pub and_swapped : {x y z : Held} {p q r s : ℕ} {f g : Function} → Leads levels x f p → Leads levels x g q
      → AndCall levels x p q y r → AndCall levels y q p z s → r ≡ s
  and_swapped p q a b =
      one_reference (later b.2 (and_leads a p q)) (and_leads b (later a.2 q) (later a.2 p)) (λ s. and_comm (said p s) (said q s))

  pub and_regrouped : {x y z u w : Held} {p q o m n r s : ℕ} {f g h : Function} → Leads levels x f p → Leads levels x g q → Leads levels y h o
      → AndCall levels x p q y m → AndCall levels y m o z r → AndCall levels z q o u n → AndCall levels u p n w s → r ≡ s
  and_regrouped p q o a b c d =
      let p' = later c.2 (later b.2 (later a.2 p)) in
      let n = and_leads c (later b.2 (later a.2 q)) (later b.2 o) in
      one_reference (later d.2 (later c.2 (and_leads b (and_leads a p q) o))) (and_leads d p' n) (λ s. and_assoc (said p s) (said q s) (said o s))

  pub and_itself : {x y : Held} {p r : ℕ} {f : Function} → Leads levels x f p → AndCall levels x p p y r → r ≡ p
  and_itself p a = one_reference (and_leads a p p) (later a.2 p) (λ s. and_idem (said p s))

  pub not_back : {x y z : Held} {p m r : ℕ} {f : Function} → Leads levels x f p → NotCall levels x p y m → NotCall levels y m z r → r ≡ p
  not_back p a b = one_reference (not_leads b (not_leads a p)) (later b.1 (later a.1 p)) (λ s. not_not (said p s))

  pub or_written : {x y z u w t : Held} {p q a b m r s : ℕ} {f g : Function} → Leads levels x f p → Leads levels y g q
      → NotCall levels x p y a → NotCall levels y q z b → AndCall levels z a b u m → NotCall levels u m w r → OrCall levels w p q t s → r ≡ s
  or_written p q a b c d e =
      let n = not_leads d (and_leads c (later b.1 (not_leads a p)) (not_leads b q)) in
      let p' = later d.1 (later c.2 (later b.1 (later a.1 p))) in
      let q' = later d.1 (later c.2 (later b.1 q)) in
      one_reference (later e.2 n) (or_leads e p' q') (λ s. or_by_not (said p s) (said q s))

  pub drops_exchanged : {v w k j : ℕ} {x y z u t : Held} {p a b r s : ℕ} {f : Function} → Leads levels x f p
      → DropCalls levels v k x p y a → DropCalls levels w j y a z r → DropCalls levels w j z p u b → DropCalls levels v k u b t s → r ≡ s
  drops_exchanged p a b c d =
      one_reference (drops_later d (drops_later c (drops_leads b (drops_leads a p)))) (drops_leads d (drops_leads c (drops_later b (drops_later a p))))
      (drops_swap _ _ _ _ (said p))

  pub drops_shared : {v k : ℕ} {x y z u w t : Held} {p q m a b r s : ℕ} {f g : Function} → Leads levels x f p → Leads levels x g q
      → OrCall levels x p q y m → DropCalls levels v k y m z r → DropCalls levels v k z p u a → DropCalls levels v k u q w b → OrCall levels w a b t s → r ≡ s
  drops_shared p q a b c d e =
      let m = drops_leads b (or_leads a p q) in
      let p' = drops_leads c (drops_later b (later a.2 p)) in
      let q' = drops_leads d (drops_later c (drops_later b (later a.2 q))) in
      one_reference (later e.2 (drops_later d (drops_later c m))) (or_leads e (drops_later d p') q') (drops_or _ _ (said p) (said q))

-- Laws of decoded rows: what the code made of a row's numbers is what the row says. Assumes nothing.
use Prim.Native.Nat.{ℕ, zero, suc, ◌≤◌}
use mathlib.Core.Path.{◌≡◌, refl, ◌∙◌}
use mathlib.Core.Bool.{Bool, true, false, cond}
use mathlib.Core.List.{List, [], ◌∷◌}
use native.Mathlib.Omega.{arith}
use lib.Dec.{eqb}
use lib.ListN.{take}
use Rattle.meaning.specs.Qtl.{variable, constant}
use Rattle.meaning.specs.Rows.{field, argument_at, of_kind, row_at}
use Rattle.rule.specs.declared.Argument.{Argument}
use Rattle.rule.specs.declared.Argument.TheVariants.{Variable, Constant}
use Rattle.rule.specs.declared.Row.{Row}
use Rattle.rule.specs.declared.Row.TheVariants.{True, Atom, Exists}
use Rattle.rule.specs.Decoded.{argument_of, row_of, argument_read, row_read, row_read_at, Decodes}

-- what a decoded argument says
argument_says : (m x : ℕ) → argument_of (argument_read m x) ≡ cond (eqb m 0) (variable x) (constant x)
unfolding argument_of argument_read
argument_says m x = go (eqb m 0)
  where
    go : (t : Bool) → argument_of (cond t (Variable x) (Constant (record { 0 = x }))) ≡ cond t (variable x) (constant x)
    go true = refl
    go false = refl

-- what a row of each kind says
kind_says : (k p q : ℕ) (a b c : Argument) → row_of (row_read k p q a b c) ≡ of_kind k p q (take q (argument_of a ∷ argument_of b ∷ argument_of c ∷ []))
unfolding row_of row_read of_kind
kind_says zero p q a b c = refl
kind_says (suc zero) p q a b c = refl
kind_says (suc (suc zero)) p q a b c = refl
kind_says (suc (suc (suc zero))) p q a b c = refl
kind_says (suc (suc (suc (suc zero)))) p q a b c = refl
kind_says (suc (suc (suc (suc (suc zero))))) p q a b c = refl
kind_says (suc (suc (suc (suc (suc (suc zero)))))) p q a b c = refl
kind_says (suc (suc (suc (suc (suc (suc (suc k))))))) p q a b c = refl

-- what the decoded row at place i says
pub row_says : (raw : List ℕ) (i : ℕ) → row_of (row_read_at raw i) ≡ row_at raw i
unfolding row_read_at row_at argument_at
row_says raw i =
    kind_says (field raw i 0) (field raw i 1) (field raw i 2) (argument_read (field raw i 3) (field raw i 4)) (argument_read (field raw i 5) (field raw i 6))
    (argument_read (field raw i 7) (field raw i 8))
    ∙ rw (argument_says (field raw i 3) (field raw i 4), argument_says (field raw i 5) (field raw i 6), argument_says (field raw i 7) (field raw i 8))

-- the row as the code has it keeps the promise
decodes : (raw : List ℕ) (i : ℕ) {r : Row} → r ≡ row_read_at raw i → Decodes raw i r
decodes raw i e = record { says = rw e (row_says raw i); whole = e }

-- an argument whose mark and value were read
pub argument_read_law : {m x y z : ℕ} {a : Argument} → m ≡ y → x ≡ z → a ≡ argument_read m x → a ≡ argument_read y z
argument_read_law p q e = e ∙ rw (p, q)

-- an atom whose arguments were read
pub atom_read : (p q : ℕ) {a b c x y z : Argument} → a ≡ x → b ≡ y → c ≡ z → Atom (record { predicate = p; count = q; arguments = a ∷ b ∷ c ∷ [] }) ≡ Atom (record { predicate = p; count = q; arguments = x ∷ y ∷ z ∷ [] })
atom_read p q ea eb ec = cc

-- a row whose kind, p and q were read
pub row_read_law : (raw : List ℕ) (i : ℕ) {r : Row} {k p q : ℕ} (kind : ℕ) → k ≡ field raw i 0 → p ≡ field raw i 1 → q ≡ field raw i 2 → k ≡ kind
    → r ≡ row_read kind p q (argument_read (field raw i 3) (field raw i 4)) (argument_read (field raw i 5) (field raw i 6)) (argument_read (field raw i 7) (field raw i 8))
    → Decodes raw i r
unfolding row_read_at
row_read_law raw i kind ek ep eq e h = decodes raw i (rw (← ek, ← ep, ← eq, e) h)

-- a kind over 6 reads as exists
pub kind_last : (k p q : ℕ) (a b c : Argument) → 7 ≤ k → Exists p q ≡ row_read k p q a b c
unfolding row_read
kind_last zero p q a b c h = absurd (omega arith)
kind_last (suc zero) p q a b c h = absurd (omega arith)
kind_last (suc (suc zero)) p q a b c h = absurd (omega arith)
kind_last (suc (suc (suc zero))) p q a b c h = absurd (omega arith)
kind_last (suc (suc (suc (suc zero)))) p q a b c h = absurd (omega arith)
kind_last (suc (suc (suc (suc (suc zero))))) p q a b c h = absurd (omega arith)
kind_last (suc (suc (suc (suc (suc (suc zero)))))) p q a b c h = absurd (omega arith)
kind_last (suc (suc (suc (suc (suc (suc (suc k))))))) p q a b c h = refl

-- a kind under 2 reads as true
pub kind_first : (k p q : ℕ) (a b c : Argument) → k ≤ 1 → True ≡ row_read k p q a b c
unfolding row_read
kind_first zero p q a b c h = refl
kind_first (suc zero) p q a b c h = refl
kind_first (suc (suc k)) p q a b c h = absurd (omega arith)

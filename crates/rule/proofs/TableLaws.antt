-- Laws of the table of uses: the constant of the code is the table of the meaning. Assumes nothing.
use Prim.Native.Nat.{ℕ, zero, suc, ◌-◌, ◌≤◌, ◌<◌}
use mathlib.Core.Path.{◌≡◌, refl, ap, sym, ◌∙◌}
use mathlib.Core.List.{List, [], ◌∷◌, map}
use native.Mathlib.Omega.{arith}
use lib.ListN.{get_or, take}
use lib.Seq.{get_or-take}
use borrow.Author.Tests.{ne_eqb}
use Rattle.meaning.specs.Rows
use Rattle.meaning.specs.Rows.{unused, uses, use_of}
use Rattle.rule.specs.declared.right.Use.{Use}
use Rattle.rule.specs.declared.right.Use.TheVariants.{Unused, Arguments}
use Rattle.rule.specs.Table.{table, entry, used_as, used_pairs}

-- the test of the columns p and q: they are the table of the meaning
table_right : map (λ (row : List Use). map used_as (take 2 row)) table ≡ uses
unfolding table used_as uses
table_right = refl

-- an element of a list that is mapped
at_map : {A B : Type 0} (f : A → B) (xs : List A) (i : ℕ) (d : A) → get_or (map f xs) i (f d) ≡ f (get_or xs i d)
at_map f [] zero d = refl
at_map f [] (suc i) d = refl
at_map f (x ∷ xs) zero d = refl
at_map f (x ∷ xs) (suc i) d = at_map f xs i d

-- each entry for p and q says how its field is used
pub entry_use : (kind f : ℕ) → f < 2 → used_as (entry kind f) ≡ use_of kind f
unfolding used_as entry use_of
entry_use kind f h =
    ap used_as (sym (get_or-take 2 (get_or table (kind - 1) []) f Unused h))
    ∙ sym (at_map used_as (take 2 (get_or table (kind - 1) [])) f Unused)
    ∙ ap (λ (us : List Rows.Use). get_or us f unused) (sym (at_map (λ (row : List Use). map used_as (take 2 row)) table (kind - 1) []) ∙ ap (λ (t : List (List Rows.Use)). get_or t (kind - 1) []) table_right)

-- a kind whose pairs are arguments uses as many as its field q says, and any other none
pub pairs_used : (kind q : ℕ) → 0 < kind → kind ≤ 7 → entry kind 2 ≡ Arguments → q ≡ used_pairs kind q
unfolding used_pairs entry table
pairs_used zero q some few e = absurd (omega arith)
pairs_used (suc zero) q some few e = cc
pairs_used (suc (suc zero)) q some few e = refl
pairs_used (suc (suc (suc zero))) q some few e = cc
pairs_used (suc (suc (suc (suc zero)))) q some few e = cc
pairs_used (suc (suc (suc (suc (suc zero))))) q some few e = cc
pairs_used (suc (suc (suc (suc (suc (suc zero)))))) q some few e = cc
pairs_used (suc (suc (suc (suc (suc (suc (suc zero))))))) q some few e = cc
pairs_used (suc (suc (suc (suc (suc (suc (suc (suc kind)))))))) q some few e = absurd (omega arith)

-- and where they are not, none
pub pairs_unused : (kind q : ℕ) → (entry kind 2 ≡ Arguments → ⊥) → 0 ≡ used_pairs kind q
unfolding used_pairs entry table
pairs_unused kind q e = rw (ne_eqb kind 2 (λ z. e (rw z refl)))

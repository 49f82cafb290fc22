-- Two calls of the same text and slices say the same, leave the same rows, and answer with the same first five numbers. Assumes nothing.
use Prim.Native.Nat.{ℕ}
use mathlib.Core.Path.{◌≡◌, refl, sym, ap, ◌∙◌}
use mathlib.Core.Bool.{Bool, true}
use mathlib.Core.List.{List, [], ◌∷◌}
use mathlib.Core.Logic.{⊎_elim}
use lib.Dec.{eqb}
use lib.ListN.{length, take}
use lib.Seq.{take_at}
use borrow.Author.Tests.{eqb-true, eqb-false}
use Rattle.trees.proofs.Tests.{bool}
use Rattle.std.specs.Prelude.{Result, Ok, Err}
use Rattle.translate.specs.declared.Translation.{Translation}
use Rattle.translate.specs.declared.refusals.Refusal.{Refusal}
use Rattle.translate.specs.Refusals.{number_of, place_of}
use Rattle.translate.proofs.OneOutcome.{told_in, one_outcome}
use Rattle.linked_rule.specs.Ruling.{packed_told, packed_names, packed, Ruled, LinkedRule}

-- the first five numbers are those of what is told
five_of : Result (ℕ × ℕ × ℕ) Refusal → List ℕ
five_of (Err r) = number_of r ∷ place_of r ∷ 0 ∷ 0 ∷ 0 ∷ []
five_of (Ok c) = 0 ∷ 0 ∷ c.0 ∷ c.1 ∷ c.2 ∷ []

five_long : (t : Result Translation Refusal) → length (packed_told t) ≡ 5
unfolding packed_told
five_long (Err r) = refl
five_long (Ok t) = refl

five_told : (t : Result Translation Refusal) → packed_told t ≡ five_of (told_in t)
unfolding packed_told five_of
five_told (Err r) = refl
five_told (Ok t) = refl

first_five : (t : Result Translation Refusal) → take 5 (packed t) ≡ five_of (told_in t)
unfolding packed
first_five t = take_at (packed_told t) (packed_names t) 5 (five_long t) ∙ five_told t

pub record SameCall (text rows answer : List ℕ) (r r' : Bool) (rows' rows'' answer' answer'' : List ℕ) : Type 0 where
  pub called : r ≡ r'
  pub same_rows : rows' ≡ rows''
  pub five : take 5 answer' ≡ take 5 answer''

module _ (text rows answer : List ℕ) (r r' : Bool) (rows' rows'' answer' answer'' : List ℕ) (x : LinkedRule text rows answer r rows' answer') (y : LinkedRule text rows answer r' rows'' answer'') where
  made_same : length answer ≡ 141 → SameCall text rows answer r r' rows' rows'' answer' answer''
  made_same e =
      let a : (r ≡ true) × Ruled text rows rows' answer' = x.made e in
      let b : (r' ≡ true) × Ruled text rows rows'' answer'' = y.made e in
      let s = one_outcome text rows rows' rows'' a.1.told b.1.told a.1.translated b.1.translated in
      record {
        called = a.0 ∙ sym b.0;
        same_rows = s.rows;
        five = ap (take 5) a.1.answer_is ∙ first_five a.1.told ∙ ap five_of s.told ∙ sym (ap (take 5) b.1.answer_is ∙ first_five b.1.told);
      }

  unmade_same : (length answer ≡ 141 → ⊥) → SameCall text rows answer r r' rows' rows'' answer' answer''
  unmade_same n =
      let a = x.unmade n in
      let b = y.unmade n in
      record { called = a.0 ∙ sym b.0; same_rows = a.1 ∙ sym b.1; five = ap (take 5) (a.2 ∙ sym b.2) }

  pub one_call : SameCall text rows answer r r' rows' rows'' answer' answer''
  one_call = ⊎_elim (λ e. made_same (eqb-true (length answer) 141 e)) (λ e. unmade_same (eqb-false (length answer) 141 e)) (bool (eqb (length answer) 141))

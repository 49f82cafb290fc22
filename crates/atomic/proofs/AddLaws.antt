-- A word's argument in an atom's nine numbers. Assumes nothing.
use Prim.Native.Nat.{ℕ, ◌≤◌, ◌<◌}
use native.Mathlib.Omega.{arith}
use mathlib.Core.Path.{◌≡◌, refl, ◌∙◌}
use mathlib.Core.List.{List, [], ◌∷◌, ◌++◌, append-nil}
use lib.ListN.{length, length-append}
use borrow.Author.Tests.{ne_eqb}
use Rattle.std.specs.Prelude.{Option, Some, None, unwrap_or}
use Rattle.spelling.specs.Codes.{Valued}
use Rattle.meaning.specs.Qtl.{Argument, variable, constant}
use Rattle.text.specs.Unfold.{number_in, value_after}
use Rattle.text.specs.Parts.{mark_of, content_of}
use Rattle.atomic.specs.Arguments.{Puts, argument_of, Adds}

valued : (n : ℕ) (o : Option ℕ) → Valued n o → n < 4294967296 → unwrap_or o 0 ≡ n
valued n None v h = absurd (omega arith)
valued n (Some m) v h = v.0

module _ (vs : List (List ℕ)) (before : List ℕ) (code : ℕ) (x after : List ℕ) where
  is_name : code ≡ 0 → argument_of vs code x ≡ variable (number_in vs x) ∷ []
  unfolding argument_of
  is_name e = rw e

  is_number : code ≡ 1 → argument_of vs code x ≡ constant (value_after 0 x) ∷ []
  unfolding argument_of
  is_number e = rw e

  is_none : (code ≡ 0 → ⊥) → (code ≡ 1 → ⊥) → argument_of vs code x ≡ []
  unfolding argument_of
  is_none n m = rw (ne_eqb code 0 n, ne_eqb code 1 m, argument_of)

  room : (gs : List Argument) (g : Argument) → length (gs ++ (g ∷ [])) ≤ 3 → length gs < 3
  room gs g h = omega (arith, length-append gs (g ∷ []))

  pub add_name : (s : ℕ) → code ≡ 0 → s ≡ number_in vs x → Puts before 0 s after → Adds vs before code x after
  add_name s e i k = record {
    sized = k.sized;
    adds = λ p gs b l v. rw (is_name e) (k.puts p gs (variable (number_in vs x)) b (room gs (variable (number_in vs x)) (rw (is_name e) at l)) (unfold mark_of in refl) (i ∙ unfold content_of in refl));
  }

  pub add_number : (o : Option ℕ) (s : ℕ) → code ≡ 1 → Valued (value_after 0 x) o → s ≡ unwrap_or o 0 → Puts before 1 s after → Adds vs before code x after
  add_number o s e i u k = record {
    sized = k.sized;
    adds = λ p gs b l v.
        let z : s ≡ value_after 0 x = u ∙ valued (value_after 0 x) o i (v e) in
        rw (is_number e) (k.puts p gs (constant (value_after 0 x)) b (room gs (constant (value_after 0 x)) (rw (is_number e) at l)) (unfold mark_of in refl) (z ∙ unfold content_of in refl));
  }

pub add_none : (vs : List (List ℕ)) (before : List ℕ) (code : ℕ) (x : List ℕ) → (code ≡ 0 → ⊥) → (code ≡ 1 → ⊥) → Adds vs before code x before
add_none vs before code x n m = record {
  sized = λ s. s;
  adds = λ p gs b l v. rw (is_none vs before code x before n m, append-nil gs) b;
}

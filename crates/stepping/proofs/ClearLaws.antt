-- The work slice at the end of a step. Assumes nothing.
use Prim.Native.Nat.{ℕ, ◌+◌, ◌*◌, ◌-◌, ◌≤◌, ◌<◌}
use mathlib.Core.Path.{◌≡◌, sym, ap, ◌∙◌}
use mathlib.Core.List.{List, ◌++◌}
use mathlib.Core.Logic.{⊎_elim}
use native.Mathlib.Omega.{arith}
use Rattle.std.proofs.lemmas.Grind.{common_steps}
use borrow.Rule.Slice.PartMut.{put_mid}
use lib.ListN.{length, get_or, take, drop, replicate, length-append, length-drop, length-replicate, get_or-append}
use lib.Seq.{ext_get_or, get_or-append-add, get_or-drop}
use Rattle.trees.proofs.Tests.{lt_or_ge}
use Rattle.trees.proofs.CanonicalLaws.{zeros_at}
use Rattle.nodes.specs.Nodes.{Rest, Zeroed}
use Rattle.diagram.specs.Steps.{cleared}

-- numbers that are filled with 0
pub filled : (a b : ℕ) (xs ys : List ℕ) → a ≤ b → b ≤ length xs → ys ≡ replicate (length (take (b - a) (drop a xs))) 0 → Zeroed a b xs (put_mid a (b - a) xs ys)
filled a b xs ys h l e = record {
  size = grind (arith, common_steps);
  zero = λ i p q. grind (arith, common_steps);
  same = record { eq = λ i p. grind (arith, common_steps) };
  rest = record { eq = λ i p. grind (arith, common_steps) };
}

-- the work slice at the end
module _ (C : ℕ) (w : List ℕ) (long : 16 * C + 1024 ≤ length w) where
  -- its numbers, one by one
  cleared_length : length (cleared C w) ≡ length w
  unfolding cleared
  cleared_length = length-append (replicate (16 * C + 1024) 0) (drop (16 * C + 1024) w) ∙ rw (length-replicate, length-drop) (omega arith)

  cleared_front : (i : ℕ) → i < 16 * C + 1024 → get_or (cleared C w) i 0 ≡ 0
  unfolding cleared
  cleared_front i h = get_or-append (replicate (16 * C + 1024) 0) (drop (16 * C + 1024) w) 0 i (rw length-replicate h) ∙ zeros_at (16 * C + 1024) i

  cleared_rest : (i : ℕ) → 16 * C + 1024 ≤ i → get_or (cleared C w) i 0 ≡ get_or w i 0
  unfolding cleared
  cleared_rest i h =
      let zs : List ℕ = replicate (16 * C + 1024) 0 in
      let e : 16 * C + 1024 + (i - (16 * C + 1024)) ≡ i = omega arith in
      let f : length zs + (i - (16 * C + 1024)) ≡ i = rw length-replicate e in
      ap (λ (x : ℕ). get_or (zs ++ drop (16 * C + 1024) w) x 0) (sym f)
      ∙ get_or-append-add zs (drop (16 * C + 1024) w) (i - (16 * C + 1024)) 0
      ∙ get_or-drop (16 * C + 1024) w (i - (16 * C + 1024)) 0
      ∙ ap (λ (x : ℕ). get_or w x 0) e

  -- zeroed at the end, and before that changed only in front
  pub cleared_is : {w₁ w₂ : List ℕ} → Rest (16 * C + 1024) w w₁ → length w₁ ≡ length w → Zeroed 0 (16 * C + 1024) w₁ w₂ → w₂ ≡ cleared C w
  cleared_is {w₁} {w₂} r e z =
      ext_get_or 0 w₂ (cleared C w) (z.size ∙ e ∙ sym cleared_length)
      (λ i h. ⊎_elim
      (λ k. z.zero i (omega arith) k ∙ sym (cleared_front i k))
      (λ k. z.rest.eq i k ∙ r.eq i k ∙ sym (cleared_rest i k))
      (lt_or_ge i (16 * C + 1024)))

-- what is the same from j on is the same from k on
pub rest_more : {j k : ℕ} {xs ys : List ℕ} → Rest j xs ys → j ≤ k → Rest k xs ys
rest_more r h = record { eq = λ i l. r.eq i (omega arith) }

-- what two calls leave behind
pub rest_two : {a b : ℕ} {xs ys zs : List ℕ} (k : ℕ) → Rest a xs ys → Rest b ys zs → a ≤ k → b ≤ k → Rest k xs zs
rest_two k p q ha hb = record { eq = λ i l. q.eq i (omega arith) ∙ p.eq i (omega arith) }

-- changed only in front, it ends the same
pub cleared_same : (C : ℕ) (w w₁ : List ℕ) → 16 * C + 1024 ≤ length w → Rest (16 * C + 1024) w w₁ → length w₁ ≡ length w → cleared C w₁ ≡ cleared C w
cleared_same C w w₁ long r e =
    cleared_is C w long r e (record {
      size = cleared_length C w₁ (omega arith);
      zero = λ i h k. cleared_front C w₁ (omega arith) i k;
      same = record { eq = λ i h. absurd (omega arith) };
      rest = record { eq = λ i h. cleared_rest C w₁ (omega arith) i h };
    })

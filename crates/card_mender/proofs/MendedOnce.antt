-- Two outcomes of `mend` are the same: its answer, and both slices. Assumes nothing.
use Prim.Native.Nat.{ℕ}
use mathlib.Core.Path.{◌≡◌, refl, sym, ap, ◌∙◌}
use mathlib.Core.List.{List, ◌++◌}
use lib.ListN.{drop}
use Rattle.cards.specs.Mending.{mended}
use Rattle.std.proofs.Common.{Option, Some, None}
use Rattle.card_mender.specs.Lines.{MendsTo}

pub mended_once : (card out list : List ℕ) (r s : Option ℕ) (out₁ out₂ list₁ list₂ : List ℕ) → MendsTo card out list r out₁ list₁
    → MendsTo card out list s out₂ list₂ → (r ≡ s) × (out₁ ≡ out₂) × (list₁ ≡ list₂)
mended_once card out list (Some n) (Some m) out₁ out₂ list₁ list₂ p q =
    let same : n ≡ m = p.count ∙ sym q.count in (
      ap Some same,
      p.put ∙ ap (λ (k : ℕ). mended card ++ drop k out) same ∙ sym q.put,
      p.listed ∙ sym q.listed,
    )
mended_once card out list (Some n) None out₁ out₂ list₁ list₂ p q = absurd (q.small p.room)
mended_once card out list None (Some m) out₁ out₂ list₁ list₂ p q = absurd (p.small q.room)
mended_once card out list None None out₁ out₂ list₁ list₂ p q =
    (refl, p.same_out ∙ sym q.same_out, p.same_list ∙ sym q.same_list)

-- Two findings on one card are the same. Assumes nothing.
use Prim.Native.Nat.{ℕ}
use native.Mathlib.Omega.{arith}
use mathlib.Core.Path.{◌≡◌, refl, sym, ap, ◌∙◌}
use mathlib.Core.List.{List}
use Rattle.cards.specs.Reading.{refused}
use Rattle.card_block.specs.declared.Reason.{Reason}
use Rattle.card_block.specs.Judging.{meant}
use Rattle.card_block.proofs.Judgements.{meant_once}
use Rattle.std.specs.Bool.{⊤}
use Rattle.std.proofs.Common.{Result, Ok, Err}
use Rattle.card_reader.specs.declared.Bad.{Bad}
use Rattle.card_reader.specs.Finding.{Finds}

bad_once : (a b : Bad) → refused a.place (meant a.why) ≡ refused b.place (meant b.why) → a ≡ b
bad_once a b e =
    let place : a.place ≡ b.place = cc in
    let same : meant a.why ≡ meant b.why = cc in
    let why : a.why ≡ b.why = meant_once a.why b.why same in
    ap (λ (n : ℕ). record { place = n; why = a.why }) place ∙ ap (λ (v : Reason). record { place = b.place; why = v }) why

-- "two readings of one card are the same"
pub found_once : (card : List ℕ) (r s : Result ⊤ Bad) → Finds card r → Finds card s → r ≡ s
found_once card (Ok a) (Ok b) p q = refl
found_once card (Ok a) (Err b) p q = absurd (let z : ◌≡◌ {A = ℕ} 0 1 = cc in omega arith)
found_once card (Err a) (Ok b) p q = absurd (let z : ◌≡◌ {A = ℕ} 0 1 = cc in omega arith)
found_once card (Err a) (Err b) p q = ap Err (bad_once a b (sym p ∙ q))

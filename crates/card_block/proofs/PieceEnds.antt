-- A card cut into pieces by the code: the next piece, and those past it. Assumes nothing.
use Prim.Native.Nat.{ℕ, ◌≤◌, ◌<◌, min}
use native.Mathlib.Omega.{arith}
use mathlib.Core.Path.{◌≡◌, refl, sym, ap, ◌∙◌}
use mathlib.Core.Bool.{Bool, true, false}
use mathlib.Core.List.{List, [], ◌∷◌, ◌++◌, append-nil}
use lib.Dec.{ltb}
use lib.ListN.{length, take, drop, length-append, drop_of_length-le}
use lib.Seq.{take_all, take_at, drop_at}
use borrow.Author.Tests.{ltb-true, ltb-false}
use Rattle.cards.specs.Blocks.{piece_of, pieces}
use Rattle.cards.proofs.PieceLaws.{pieces_some}

length-zero : (bs : List ℕ) → length bs ≡ 0 → bs ≡ []
length-zero [] e = refl
length-zero (b ∷ bs) e = absurd (omega arith)

-- bytes cut after the first piece: 512 bytes, or all where fewer are left
pub record Cut (bytes here rest : List ℕ) : Type 0 where
  pub parts : bytes ≡ here ++ rest
  pub size : length here ≡ min 512 (length bytes)
  pub some : 0 < length bytes

pub cut_of : (n : ℕ) (bytes here rest : List ℕ) → n ≡ 512 → bytes ≡ here ++ rest → length here ≡ min n (length bytes) → 0 < length bytes → Cut bytes here rest
cut_of n bytes here rest e f g h = record { parts = f; size = rw e at g; some = h }

pub pieces_cut : (bytes here rest : List ℕ) → Cut bytes here rest → pieces bytes ≡ piece_of here ∷ pieces rest
pieces_cut bytes here rest c = pieces_some bytes c.some ∙ go (ltb (length bytes) 512) refl
  where
    go : (q : Bool) → ltb (length bytes) 512 ≡ q → (piece_of (take 512 bytes) ∷ pieces (drop 512 bytes)) ≡ (piece_of here ∷ pieces rest)
    go true f =
        let short : length bytes < 512 = ltb-true (length bytes) 512 f in
        let none : rest ≡ [] = length-zero rest (omega (arith, ap length c.parts, length-append here rest, c.size)) in
        let all : bytes ≡ here = c.parts ∙ rw none (append-nil here) in
        rw (take_all 512 bytes (omega arith), drop_of_length-le bytes {i = 512} (omega arith), none, sym all)
    go false f =
        let long : 512 ≤ length bytes = ltb-false (length bytes) 512 f in
        let size : length here ≡ 512 = omega (arith, c.size) in
        rw (c.parts, take_at here rest 512 size, drop_at here rest 512 size)

-- what is left behind the first part
pub left_is : (n : ℕ) (all part left : List ℕ) → all ≡ part ++ left → length part ≡ min n (length all) → left ≡ drop n all
left_is n all part left e size = go (ltb (length all) n) refl
  where
    behind : left ≡ drop (length part) all
    behind = sym (ap (drop (length part)) e ∙ drop_at part left (length part) refl)

    go : (q : Bool) → ltb (length all) n ≡ q → left ≡ drop n all
    go true f =
        let short : length all < n = ltb-true (length all) n f in
        behind ∙ drop_of_length-le all {i = length part} (omega arith) ∙ sym (drop_of_length-le all {i = n} (omega arith))
    go false f =
        let long : n ≤ length all = ltb-false (length all) n f in
        let same : length part ≡ n = omega arith in
        behind ∙ ap (λ (m : ℕ). drop m all) same

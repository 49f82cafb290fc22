-- A card's pieces one after the other: what a loop over the bytes needs. Assumes nothing.
use Prim.Native.Nat.{ℕ, zero, suc, ◌+◌, ◌*◌, ◌≤◌, ◌<◌}
use native.Mathlib.Omega.{arith}
use mathlib.Core.Path.{◌≡◌, refl, ap, ◌∙◌}
use mathlib.Core.List.{List, [], ◌∷◌, map}
use lib.ListN.{length, take, drop, length-drop}
use lib.Seq.{drop-drop}
use Rattle.cards.specs.Blocks.{piece_of, cut, pieces}

-- turns past the number of bytes change nothing
cut_enough : (t u : ℕ) (bytes : List ℕ) → length bytes ≤ t → length bytes ≤ u → cut t bytes ≡ cut u bytes
unfolding cut
cut_enough zero zero bytes a b = refl
cut_enough zero (suc u) [] a b = refl
cut_enough zero (suc u) (x ∷ xs) a b = absurd (omega arith)
cut_enough (suc t) zero [] a b = refl
cut_enough (suc t) zero (x ∷ xs) a b = absurd (omega arith)
cut_enough (suc t) (suc u) [] a b = refl
cut_enough (suc t) (suc u) (x ∷ xs) a b =
    ap (λ (l : List (List ℕ)). take 512 (x ∷ xs) ∷ l)
    (cut_enough t u (drop 512 (x ∷ xs)) (omega (arith, length-drop 512 (x ∷ xs))) (omega (arith, length-drop 512 (x ∷ xs))))

-- the first piece, and the pieces of the rest
pub pieces_some : (bytes : List ℕ) → 0 < length bytes → pieces bytes ≡ piece_of (take 512 bytes) ∷ pieces (drop 512 bytes)
unfolding pieces cut
pieces_some [] h = absurd (omega arith)
pieces_some (x ∷ xs) h =
    ap (λ (l : List (List ℕ)). piece_of (take 512 (x ∷ xs)) ∷ map piece_of l)
    (cut_enough (length xs) (length (drop 512 (x ∷ xs))) (drop 512 (x ∷ xs)) (omega (arith, length-drop 512 (x ∷ xs))) (omega arith))

pub pieces_none : (bytes : List ℕ) → length bytes ≤ 0 → pieces bytes ≡ []
unfolding pieces cut
pieces_none [] h = refl
pieces_none (x ∷ xs) h = absurd (omega arith)

-- the same at piece i
pub pieces_at : (bytes : List ℕ) (i : ℕ) → 512 * i < length bytes
    → pieces (drop (512 * i) bytes) ≡ piece_of (take 512 (drop (512 * i) bytes)) ∷ pieces (drop (512 * (i + 1)) bytes)
pieces_at bytes i h =
    let far : 512 * (i + 1) ≡ 512 * i + 512 = omega arith in
    pieces_some (drop (512 * i) bytes) (omega (arith, length-drop (512 * i) bytes)) ∙ rw (drop-drop 512 (512 * i) bytes, far)

pub pieces_past : (bytes : List ℕ) (i : ℕ) → length bytes ≤ 512 * i → pieces (drop (512 * i) bytes) ≡ []
pieces_past bytes i h = pieces_none (drop (512 * i) bytes) (omega (arith, length-drop (512 * i) bytes))

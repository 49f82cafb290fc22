-- What is laid at the start of a longer slice. Assumes nothing.
use Prim.Native.Nat.{ℕ, zero, suc, ◌+◌, ◌-◌, ◌≤◌, ◌<◌}
use native.Mathlib.Omega.{arith}
use mathlib.Core.Path.{◌≡◌, refl, sym, ap, ◌∙◌}
use mathlib.Core.List.{List, [], ◌∷◌, ◌++◌, append-nil}
use lib.ListN.{length, get_or, set, drop, take, replicate, length-append, length-replicate}
use lib.Seq.{take_at, drop_at, take_all, drop-length, paste, paste-suc}
use native.Mathlib.Numerals.{add-one}
use Rattle.translate.specs.Translated.{laid}

module _ {A : Type 0} (r : A) where
  -- the rest past the end
  rest_at : (n i : ℕ) → get_or (replicate n r) i r ≡ r
  rest_at zero i = refl
  rest_at (suc n) zero = refl
  rest_at (suc n) (suc i) = rest_at n i

  past_end : (xs : List A) (n i : ℕ) → get_or (xs ++ replicate n r) i r ≡ get_or xs i r
  past_end [] n i = rest_at n i
  past_end (x ∷ xs) n zero = refl
  past_end (x ∷ xs) n (suc i) = past_end xs n i

  module _ (m : ℕ) (xs : List A) where
    pub laid_length : length xs ≤ m → length (laid r m xs) ≡ m
    unfolding laid
    laid_length h = length-append xs (replicate (m - length xs) r) ∙ rw (length-replicate {A = A} (m - length xs) r) (omega arith)

    -- what was laid is found again, and the rest after it
    pub take_laid : take (length xs) (laid r m xs) ≡ xs
    unfolding laid
    take_laid = take_at xs (replicate (m - length xs) r) (length xs) refl

    pub drop_laid : drop (length xs) (laid r m xs) ≡ replicate (m - length xs) r
    unfolding laid
    drop_laid = drop_at xs (replicate (m - length xs) r) (length xs) refl

    -- the first i are laid
    pub lay_more : (d to : List A) (i : ℕ) → m ≡ length d → length xs ≤ m → to ≡ paste d 0 (laid r m xs) i → i < m → (v : A) → v ≡ get_or xs i r
        → set to i v ≡ paste d 0 (laid r m xs) (i + 1)
    unfolding laid
    lay_more d to i z h e l v y =
        let k : 0 + i ≡ i = omega arith in
        rw (e, y, ← (past_end xs (m - length xs) i), add-one)
        (ap (λ (n : ℕ). set (paste d 0 (laid r m xs) i) n (get_or (laid r m xs) i r)) (sym k)
        ∙ paste-suc d 0 (laid r m xs) i r (omega arith) (omega (arith, laid_length h)))

    -- all are
    pub lay_ends : (d to : List A) (i : ℕ) → m ≡ length d → length xs ≤ m → to ≡ paste d 0 (laid r m xs) i → i ≡ m → to ≡ laid r m xs
    lay_ends d to i z h e l =
        let t : take i (laid r m xs) ≡ laid r m xs = take_all i (laid r m xs) (omega (arith, laid_length h)) in
        let y : 0 + i ≡ length d = omega arith in
        let n : drop (0 + i) d ≡ [] = ap (λ (k : ℕ). drop k d) y ∙ drop-length d in
        e ∙ rw (t, n) (append-nil (laid r m xs))

-- A block that is being written, store by store. Assumes nothing.
use Prim.Native.Nat.{ℕ, zero, suc, ◌+◌, ◌*◌, ◌%◌, ◌≤◌, ◌<◌}
use native.Mathlib.Omega.{arith}
use mathlib.Core.Path.{◌≡◌, refl, sym, ap, ◌∙◌}
use mathlib.Core.List.{List, [], ◌∷◌, ◌++◌, map, append-nil, append_assoc}
use lib.ListN.{length, take, drop, set, replicate, length-append, length-set, take-append-drop}
use lib.Seq.{sets, length-sets, take-set-lt, take-set-le, get_or-set_same, get_or-set_other}
use Rattle.cards.specs.Bytes.{bytes_of, filled, joined, sums, check}
use Rattle.cards.specs.Moments.{Record}
use Rattle.cards.specs.Blocks.{record_bytes, body, block_bytes}
use Rattle.cards.proofs.BytesLaws.{length_filled, length_bytes}
use Rattle.cards.proofs.BlockLaws.{length_record}
use Rattle.card_block.proofs.ShapeLaws.{body_first}
use Rattle.card_block.proofs.TestLaws.{two_bytes}
use Rattle.card_writer.specs.declared.Sheet.{Sheet}
use Rattle.card_writer.specs.Sheets.{block_with, Holding}

-- 512 bytes that are all 0
zeros_filled : (n : ℕ) → replicate n 0 ≡ filled n []
unfolding filled
zeros_filled zero = refl
zeros_filled (suc n) = ap (λ (l : List ℕ). 0 ∷ l) (zeros_filled n)

-- stores past the front
sets_cons : (x : ℕ) (l : List ℕ) (k : ℕ) (zs : List ℕ) → sets (x ∷ l) (suc k) zs ≡ x ∷ sets l k zs
sets_cons x l k [] = refl
sets_cons x l k (z ∷ zs) = sets_cons x (set l k z) (suc k) zs

sets_skip : (xs l : List ℕ) (k : ℕ) (zs : List ℕ) → sets (xs ++ l) (length xs + k) zs ≡ xs ++ sets l k zs
sets_skip [] l k zs = let z : 0 + k ≡ k = omega arith in rw z
sets_skip (x ∷ xs) l k zs =
    let z : suc (length xs) + k ≡ suc (length xs + k) = omega arith in
    rw z (sets_cons x (xs ++ l) (length xs + k) zs ∙ ap (λ (m : List ℕ). x ∷ m) (sets_skip xs l k zs))

-- stores behind what is filled
filled_front : (room : ℕ) (zs : List ℕ) → length zs ≤ room → sets (filled room []) 0 zs ≡ filled room zs
unfolding filled
filled_front room [] h = refl
filled_front zero (z ∷ zs) h = absurd (omega arith)
filled_front (suc room) (z ∷ zs) h = sets_cons z (filled room []) 0 zs ∙ ap (λ (m : List ℕ). z ∷ m) (filled_front room zs (omega arith))

filled_sets : (room : ℕ) (xs zs : List ℕ) → length xs + length zs ≤ room → sets (filled room xs) (length xs) zs ≡ filled room (xs ++ zs)
unfolding filled
filled_sets room [] zs h = filled_front room zs (omega arith)
filled_sets zero (x ∷ xs) zs h = absurd (omega arith)
filled_sets (suc room) (x ∷ xs) zs h =
    sets_cons x (filled room xs) (length xs) zs ∙ ap (λ (m : List ℕ). x ∷ m) (filled_sets room xs zs (omega arith))

take_sets : (n : ℕ) (l : List ℕ) (i : ℕ) (zs : List ℕ) → i + length zs ≤ n → take n (sets l i zs) ≡ sets (take n l) i zs
take_sets n l i [] h = refl
take_sets n l i (z ∷ zs) h =
    take_sets n (set l i z) (suc i) zs (omega arith) ∙ ap (λ (m : List ℕ). sets m (suc i) zs) (take-set-lt n l i z (omega arith))

-- records one behind the other
joined_snoc : (rs : List Record) (r : Record) → joined (map record_bytes (rs ++ (r ∷ []))) ≡ joined (map record_bytes rs) ++ record_bytes r
unfolding joined
joined_snoc [] r = append-nil (record_bytes r)
joined_snoc (x ∷ rs) r =
    ap (λ (l : List ℕ). record_bytes x ++ l) (joined_snoc rs r) ∙ sym (append_assoc (record_bytes x) (joined (map record_bytes rs)) (record_bytes r))

length_records : (rs : List Record) → length (joined (map record_bytes rs)) ≡ 24 * length rs
unfolding joined
length_records [] = refl
length_records (r ∷ rs) = omega (arith, length-append (record_bytes r) (joined (map record_bytes rs)), length_record r, length_records rs)

length_snoc : (rs : List Record) (r : Record) → length (rs ++ (r ∷ [])) ≡ length rs + 1
length_snoc rs r = length-append rs (r ∷ [])

-- the first six bytes of a block, and what follows them
front : ℕ → ℕ → List ℕ
front k n = 75 ∷ k ∷ bytes_of 4 n

length_front : (k n : ℕ) → length (front k n) ≡ 6
unfolding front
length_front k n = omega (arith, length_bytes 4 n)

body_front : (n : ℕ) (rs : List Record) → body (block_with n rs) ≡ front (length rs) n ++ filled 504 (joined (map record_bytes rs))
unfolding front block_with
body_front n rs = body_first (block_with n rs)

set_front : (k v n : ℕ) (l : List ℕ) → set (front k n ++ l) 1 v ≡ front v n ++ l
unfolding front
set_front k v n l = refl

-- one record more
pub holding_more : (s : Sheet) (out : List ℕ) (n : ℕ) (rs : List Record) (r : Record) → Holding s n rs → s.records < 21
    → out ≡ set (sets s.bytes (6 + 24 * s.records) (record_bytes r)) 1 (s.records + 1)
    → Holding (record { bytes = out; records = s.records + 1 }) n (rs ++ (r ∷ []))
holding_more s out n rs r h few f =
    let i : ℕ = s.records in
    record {
      size = ap length f ∙ length-set (sets s.bytes (6 + 24 * i) (record_bytes r)) 1 (i + 1) ∙ length-sets s.bytes (6 + 24 * i) (record_bytes r) ∙ h.size;
      count = length_snoc rs r ∙ ap (λ (k : ℕ). k + 1) h.count;
      shown =
          ap (take 510) f
          ∙ take-set-lt 510 (sets s.bytes (6 + 24 * i) (record_bytes r)) 1 (i + 1) (omega arith)
          ∙ ap (λ (l : List ℕ). set l 1 (i + 1))
          (take_sets 510 s.bytes (6 + 24 * i) (record_bytes r) (omega (arith, length_record r))
          ∙ ap (λ (l : List ℕ). sets l (6 + 24 * i) (record_bytes r)) (h.shown ∙ body_front n rs)
          ∙ ap (λ (k : ℕ). sets (front (length rs) n ++ filled 504 (joined (map record_bytes rs))) k (record_bytes r)) (omega (arith, h.count, length_front (length rs) n, length_records rs))
          ∙ sets_skip (front (length rs) n) (filled 504 (joined (map record_bytes rs))) (length (joined (map record_bytes rs))) (record_bytes r)
          ∙ ap (λ (l : List ℕ). front (length rs) n ++ l)
          (filled_sets 504 (joined (map record_bytes rs)) (record_bytes r) (omega (arith, h.count, length_records rs, length_record r)) ∙ ap (filled 504) (sym (joined_snoc rs r))))
          ∙ set_front (length rs) (i + 1) n (filled 504 (joined (map record_bytes (rs ++ (r ∷ [])))))
          ∙ ap (λ (k : ℕ). front k n ++ filled 504 (joined (map record_bytes (rs ++ (r ∷ []))))) (omega (arith, h.count, length_snoc rs r))
          ∙ sym (body_front n (rs ++ (r ∷ [])));
    }

-- no record
zeros_take : (n m : ℕ) → take n (filled (n + m) []) ≡ filled n []
unfolding filled
zeros_take zero m = refl
zeros_take (suc n) m = let z : suc n + m ≡ suc (n + m) = omega arith in rw z (ap (λ (l : List ℕ). 0 ∷ l) (zeros_take n m))

pub holding_none : (out : List ℕ) (n : ℕ) → out ≡ sets (set (replicate 512 0) 0 75) 2 (bytes_of 4 n) → Holding (record { bytes = out; records = 0 }) n []
holding_none out n f =
    record {
      size =
          ap (λ (l : List ℕ). length l) (f ∙ ap (λ (l : List ℕ). sets (set l 0 75) 2 (bytes_of 4 n)) (zeros_filled 512))
          ∙ length-sets (set (filled 512 []) 0 75) 2 (bytes_of 4 n) ∙ length-set (filled 512 []) 0 75 ∙ length_filled 512 [];
      count = refl;
      shown =
          ap (take 510) (f ∙ ap (λ (l : List ℕ). sets (set l 0 75) 2 (bytes_of 4 n)) (zeros_filled 512))
          ∙ take_sets 510 (set (filled 512 []) 0 75) 2 (bytes_of 4 n) (omega (arith, length_bytes 4 n))
          ∙ ap (λ (l : List ℕ). sets l 2 (bytes_of 4 n)) (take-set-lt 510 (filled 512 []) 0 75 (omega arith) ∙ ap (λ (l : List ℕ). set l 0 75) (zeros_take 510 2))
          ∙ begun
          ∙ sym (body_front n []);
    }
  where
    begun : sets (set (filled 510 []) 0 75) 2 (bytes_of 4 n) ≡ front 0 n ++ filled 504 (joined (map record_bytes []))
    begun = unfold front filled bytes_of joined in refl

-- the sums of a check are bytes
sums_small : (a b x y : ℕ) (bs : List ℕ) → a < 255 → b < 255 → sums a b bs ≡ x ∷ y ∷ [] → (x < 255) × (y < 255)
unfolding sums
sums_small a b x y [] h k e = (let z : a ≡ x = cc in omega arith, let z : b ≡ y = cc in omega arith)
sums_small a b x y (c ∷ cs) h k e = sums_small ((a + c) % 255) ((b + (a + c) % 255) % 255) x y cs (omega arith) (omega arith) e

pub check_small : (x y : ℕ) (bs : List ℕ) → check bs ≡ x ∷ y ∷ [] → (x < 255) × (y < 255)
unfolding check
check_small x y bs e = sums_small 0 0 x y bs (omega arith) (omega arith) e

-- the check at the end
pub holding_end : (s : Sheet) (out₁ : List ℕ) (n a b : ℕ) (rs : List Record) → Holding s n rs → check (take 510 s.bytes) ≡ a ∷ b ∷ []
    → out₁ ≡ set (set s.bytes 510 a) 511 b → out₁ ≡ block_bytes (block_with n rs)
unfolding block_bytes
holding_end s out₁ n a b rs h e f =
    sym (take-append-drop 510 out₁) ∙ ap (λ (l : List ℕ). l ++ drop 510 out₁) first ∙ ap (λ (l : List ℕ). body (block_with n rs) ++ l) second
  where
    long : length out₁ ≡ 512
    long = ap length f ∙ length-set (set s.bytes 510 a) 511 b ∙ length-set s.bytes 510 a ∙ h.size

    first : take 510 out₁ ≡ body (block_with n rs)
    first = ap (take 510) f ∙ take-set-le 510 (set s.bytes 510 a) 511 b (omega arith) ∙ take-set-le 510 s.bytes 510 a (omega arith) ∙ h.shown

    second : drop 510 out₁ ≡ check (body (block_with n rs))
    second =
        two_bytes out₁ long
        ∙ rw (f, get_or-set_same (set s.bytes 510 a) 511 b 0 (omega (arith, length-set s.bytes 510 a, h.size)))
        (ap (λ (k : ℕ). k ∷ b ∷ []) (get_or-set_other (set s.bytes 510 a) 511 510 b 0 (λ z. omega arith) ∙ get_or-set_same s.bytes 510 a 0 (omega (arith, h.size))))
        ∙ sym e ∙ ap check h.shown

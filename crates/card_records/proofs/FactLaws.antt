-- A record's bytes, put one part after the other, and read one number after the other. Assumes nothing.
use Prim.Native.Nat.{ℕ, zero, suc, ◌+◌, ◌-◌, ◌/◌, ◌≤◌, ◌<◌}
use native.Mathlib.Omega.{arith}
use mathlib.Core.Path.{◌≡◌, refl, sym, ap, ◌∙◌}
use mathlib.Core.Bool.{Bool, true, false}
use mir.Val.{bool_byte}
use Rattle.std.proofs.Common.{append_assoc}
use Rattle.std.specs.Int.{w32, to_le_bytes}
use borrow.Rule.Slice.PartMut.{put_mid}
use Rattle.std.proofs.lemmas.List.Edits.{sets-eq}
use mathlib.Core.List.{List, [], ◌∷◌, ◌++◌, map}
use lib.Dec.{eqb}
use lib.ListN.{length, take, drop, get_or, set, length-take}
use lib.Seq.{sets, take-take, drop-drop, get_or-take, get_or-drop}
use borrow.Author.Tests.{lt-ltb, le-ltb}
use Rattle.cards.specs.Bytes.{bytes_of, number_of, filled, parts, joined}
use Rattle.cards.specs.Blocks.{flag_byte, record_of, record_bytes}
use Rattle.card_block.proofs.ShapeLaws.{drop_take}
use Rattle.card_records.specs.declared.Fact.{Fact}
use Rattle.card_records.specs.Facts.{record_from, used_by, used, marks, values_bytes}

-- runs of stores, one behind the other
pub sets_append : (l : List ℕ) (i : ℕ) (xs ys : List ℕ) → sets l i (xs ++ ys) ≡ sets (sets l i xs) (i + length xs) ys
sets_append l i [] ys = let z : i + 0 ≡ i = omega arith in rw z
sets_append l i (x ∷ xs) ys = let z : i + suc (length xs) ≡ suc i + length xs = omega arith in rw z (sets_append (set l i x) (suc i) xs ys)

-- a slice copied over a part of as many elements
pub put_part : (n at : ℕ) (l xs : List ℕ) → at + n ≤ length l → length xs ≡ n → put_mid at (at + n - at) l xs ≡ sets l at xs
put_part n at l xs h e =
    let size : at + n - at ≡ n = omega arith in
    rw (size, drop-drop n at l, sets-eq xs l at (omega arith), e) (sym (append_assoc (take at l) xs (drop (at + n) l)))

-- four bytes, least byte first
pub le_bytes : (n : ℕ) → to_le_bytes w32 n ≡ bytes_of 4 n
unfolding bytes_of
le_bytes n =
    let third : n / 256 / 256 ≡ n / 65536 = omega arith in
    let fourth : n / 65536 / 256 ≡ n / 16777216 = omega arith in
    rw (third, fourth)

-- a record's bytes part by part
values_bytes_law : (k a b c : ℕ) → filled 12 (joined (map (bytes_of 4) (take k (a ∷ b ∷ c ∷ [])))) ≡ bytes_of 4 (used k 0 a) ++ (bytes_of 4 (used k 1 b) ++ bytes_of 4 (used k 2 c))
unfolding filled joined bytes_of used used_by
values_bytes_law zero a b c = refl
values_bytes_law (suc zero) a b c = refl
values_bytes_law (suc (suc zero)) a b c = refl
values_bytes_law (suc (suc (suc k))) a b c = rw (lt-ltb 0 (suc (suc (suc k))) (omega arith), lt-ltb 1 (suc (suc (suc k))) (omega arith), lt-ltb 2 (suc (suc (suc k))) (omega arith))

pub fact_bytes : (f : Fact) → record_bytes (record_from f) ≡ bytes_of 4 f.stamp ++ (bytes_of 4 f.predicate ++ (marks f.count f.last ++ values_bytes f))
unfolding record_bytes record_from marks values_bytes
fact_bytes f = rw (length-take f.count (get_or f.values 0 0 ∷ get_or f.values 1 0 ∷ get_or f.values 2 0 ∷ []), values_bytes_law f.count (get_or f.values 0 0) (get_or f.values 1 0) (get_or f.values 2 0))

-- lengths
pub length_four : (n : ℕ) → length (bytes_of 4 n) ≡ 4
unfolding bytes_of
length_four n = refl

pub length_marks : (count : ℕ) (last : Bool) → length (marks count last) ≡ 4
unfolding marks
length_marks count last = refl

pub used_in : (count i n : ℕ) → i < count → n ≡ used count i n
unfolding used used_by
used_in count i n h = rw (lt-ltb i count h)

pub used_out : (count i n : ℕ) → count ≤ i → 0 ≡ used count i n
unfolding used used_by
used_out count i n h = rw (le-ltb i count h)

pub flag_is : (last : Bool) → bool_byte last ≡ flag_byte last
unfolding flag_byte
flag_is true = refl
flag_is false = refl

-- the numbers of a record at a place
number_in : (piece : List ℕ) (at k : ℕ) → k + 4 ≤ 24 → number_of (take 4 (drop k (take 24 (drop at piece)))) ≡ number_of (take 4 (drop (at + k) piece))
number_in piece at k h =
    let whole : 24 ≡ k + (24 - k) = omega arith in
    ap (λ (n : ℕ). number_of (take 4 (drop k (take n (drop at piece))))) whole
    ∙ rw (drop_take k (24 - k) (drop at piece), take-take 4 (24 - k) (drop k (drop at piece)) (omega arith), drop-drop k at piece)

pub fact_says : (piece : List ℕ) (at s p k x y z : ℕ) (l : Bool) → s ≡ number_of (take 4 (drop at piece)) → p ≡ number_of (take 4 (drop (at + 4) piece))
    → k ≡ get_or piece (at + 8) 0 → l ≡ eqb (get_or piece (at + 9) 0) 1 → x ≡ number_of (take 4 (drop (at + 12) piece))
    → y ≡ number_of (take 4 (drop (at + 16) piece)) → z ≡ number_of (take 4 (drop (at + 20) piece))
    → record_from (record { stamp = s; predicate = p; count = k; values = x ∷ y ∷ z ∷ []; last = l }) ≡ record_of (take 24 (drop at piece))
unfolding record_from record_of parts
fact_says piece at s p k x y z l a b c d e g h =
    rw (
      a,
      b,
      c,
      d,
      e,
      g,
      h,
      take-take 4 24 (drop at piece) (omega arith),
      number_in piece at 4 (omega arith),
      get_or-take 24 (drop at piece) 8 0 (omega arith),
      get_or-take 24 (drop at piece) 9 0 (omega arith),
      get_or-drop at piece 8 0,
      get_or-drop at piece 9 0,
      number_in piece at 12 (omega arith),
      drop-drop 4 12 (take 24 (drop at piece)),
      number_in piece at 16 (omega arith),
      drop-drop 4 16 (take 24 (drop at piece)),
      number_in piece at 20 (omega arith),
    )

-- one run of stores behind another
sets_then : (l l₁ l₂ : List ℕ) (i j : ℕ) (xs ys : List ℕ) → l₁ ≡ sets l i xs → j ≡ i + length xs → l₂ ≡ sets l₁ j ys → l₂ ≡ sets l i (xs ++ ys)
sets_then l l₁ l₂ i j xs ys e f g = g ∙ rw (e, f) (sym (sets_append l i xs ys))

pub values_put : (l l₁ l₂ l₃ : List ℕ) (at : ℕ) (f : Fact) (a b c : ℕ) → a ≡ used f.count 0 (get_or f.values 0 0) → b ≡ used f.count 1 (get_or f.values 1 0)
    → c ≡ used f.count 2 (get_or f.values 2 0) → l₁ ≡ sets l at (bytes_of 4 a) → l₂ ≡ sets l₁ (at + 4) (bytes_of 4 b) → l₃ ≡ sets l₂ (at + 8) (bytes_of 4 c)
    → l₃ ≡ sets l at (values_bytes f)
unfolding values_bytes
values_put l l₁ l₂ l₃ at f a b c u v w p q r =
    rw (sym u, sym v, sym w)
    (sets_then l l₁ l₃ at (at + 4) (bytes_of 4 a) (bytes_of 4 b ++ bytes_of 4 c) p (omega (arith, length_four a))
    (sets_then l₁ l₂ l₃ (at + 4) (at + 8) (bytes_of 4 b) (bytes_of 4 c) q (omega (arith, length_four b)) r))

pub fact_put : (l l₁ l₂ l₃ l₄ : List ℕ) (at : ℕ) (f : Fact) → l₁ ≡ sets l at (bytes_of 4 f.stamp) → l₂ ≡ sets l₁ (at + 4) (bytes_of 4 f.predicate)
    → l₃ ≡ sets l₂ (at + 8) (marks f.count f.last) → l₄ ≡ sets l₃ (at + 12) (values_bytes f) → l₄ ≡ sets l at (record_bytes (record_from f))
fact_put l l₁ l₂ l₃ l₄ at f p q r t =
    rw (fact_bytes f)
    (sets_then l l₁ l₄ at (at + 4) (bytes_of 4 f.stamp) (bytes_of 4 f.predicate ++ (marks f.count f.last ++ values_bytes f)) p (omega (arith, length_four f.stamp))
    (sets_then l₁ l₂ l₄ (at + 4) (at + 8) (bytes_of 4 f.predicate) (marks f.count f.last ++ values_bytes f) q (omega (arith, length_four f.predicate))
    (sets_then l₂ l₃ l₄ (at + 8) (at + 12) (marks f.count f.last) (values_bytes f) r (omega (arith, length_marks f.count f.last)) t)))

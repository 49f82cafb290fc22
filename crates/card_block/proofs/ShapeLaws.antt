-- A block's shape by tests of its bytes is its shape by writing it anew. Assumes nothing.
use Prim.Native.Nat.{ℕ, zero, suc, ◌+◌, ◌-◌, ◌*◌, ◌/◌, ◌%◌, ◌≤◌, ◌<◌}
use native.Mathlib.Omega.{arith}
use native.Mathlib.Nat.{mul-suc}
use mathlib.Core.Path.{◌≡◌, refl, sym, ap, ◌∙◌}
use mathlib.Core.Bool.{Bool, true, false, ◌&&◌}
use mathlib.Core.List.{List, [], ◌∷◌, ◌++◌, map}
use lib.Dec.{eqb, leb}
use lib.ListN.{length, take, drop, get_or, length-take, length-drop, length-map, take-append-drop}
use lib.Seq.{take_at, drop_at, take-nil, drop-nil, length-take-le, drop-drop, take-take, drop-cons, get_or-take}
use borrow.Author.Tests.{eqb-true, eqb-false, eq-eqb, leb-true, le-leb}
use Rattle.cards.specs.Bytes.{bytes_of, number_of, filled, parts, joined, same}
use Rattle.cards.specs.Moments.{Record}
use Rattle.cards.specs.Blocks.{flag_byte, record_bytes, record_of, Block, body, block_of}
use Rattle.cards.specs.Writing.{Every}
use Rattle.cards.proofs.BytesLaws.{filled_append, same_refl, length_parts, length_bytes}
use Rattle.cards.proofs.BlockLaws.{length_record}
use Rattle.card_block.specs.Shapes.{unused, record_shaped, parts_pass, block_shaped, records_from}

-- n is a byte
abbrev pub Byte : ℕ → Type 0
Byte n = n < 256

pub every_take : (n : ℕ) (bs : List ℕ) → Every Byte bs → Every Byte (take n bs)
every_take zero bs h = tt
every_take (suc n) [] h = tt
every_take (suc n) (b ∷ bs) h = (h.0, every_take n bs h.1)

pub every_drop : (n : ℕ) (bs : List ℕ) → Every Byte bs → Every Byte (drop n bs)
every_drop zero bs h = h
every_drop (suc n) [] h = tt
every_drop (suc n) (b ∷ bs) h = every_drop n bs h.1

-- bytes are those of the number that they say
pub bytes_back : (bs : List ℕ) → Every Byte bs → bytes_of (length bs) (number_of bs) ≡ bs
unfolding bytes_of number_of
bytes_back [] h = refl
bytes_back (b ∷ bs) h =
    let low : (b + 256 * number_of bs) % 256 ≡ b = omega (arith, h.0) in
    let high : (b + 256 * number_of bs) / 256 ≡ number_of bs = omega (arith, h.0) in
    rw (low, high, bytes_back bs h.1)

-- lists compared part by part
same_append : (xs ys zs : List ℕ) → same (xs ++ ys) zs ≡ (same xs (take (length xs) zs) && same ys (drop (length xs) zs))
unfolding same
same_append [] ys zs = refl
same_append (x ∷ xs) ys [] = refl
same_append (x ∷ xs) ys (z ∷ zs) = go (eqb x z) (same_append xs ys zs)
  where
    go : (q : Bool) → same (xs ++ ys) zs ≡ (same xs (take (length xs) zs) && same ys (drop (length xs) zs))
        → (q && same (xs ++ ys) zs) ≡ ((q && same xs (take (length xs) zs)) && same ys (drop (length xs) zs))
    go true e = e
    go false e = refl

-- four bytes are written as they stand
four_same : (bs : List ℕ) → length bs ≡ 4 → Every Byte bs → same (bytes_of 4 (number_of bs)) bs ≡ true
four_same bs n h = rw (rw n at (bytes_back bs h)) (same_refl bs)

-- two tests that say the same
alike : (p q : Bool) → (p ≡ true → q ≡ true) → (q ≡ true → p ≡ true) → p ≡ q
alike true q f g = sym (f refl)
alike false true f g = g refl
alike false false f g = refl

eqb_sym : (a b : ℕ) → eqb a b ≡ eqb b a
eqb_sym a b = alike (eqb a b) (eqb b a) (λ e. eq-eqb b a (sym (eqb-true a b e))) (λ e. eq-eqb a b (sym (eqb-true b a e)))

-- nothing written is unused bytes
nothing_same : (room : ℕ) (bs : List ℕ) → length bs ≡ room → same (filled room []) bs ≡ unused bs
unfolding same filled unused
nothing_same zero [] e = refl
nothing_same zero (b ∷ bs) e = absurd (omega arith)
nothing_same (suc room) [] e = absurd (omega arith)
nothing_same (suc room) (b ∷ bs) e = rw (eqb_sym 0 b, nothing_same room bs (omega arith))

-- parts written anew, the rest filled up
parts_same : (size : ℕ) (shown : List ℕ → List ℕ) (test : List ℕ → Bool) → ((p : List ℕ) → length (shown p) ≡ size)
    → ((p : List ℕ) → length p ≡ size → Every Byte p → same (shown p) p ≡ test p)
    → (count most : ℕ) (bs : List ℕ) → count ≤ most → length bs ≡ size * most → Every Byte bs
    → same (filled (size * most) (joined (map shown (take count (parts size most bs))))) bs ≡ parts_pass test size count bs
unfolding joined parts_pass parts
parts_same size shown test long law zero most bs h n every = nothing_same (size * most) bs n
parts_same size shown test long law (suc count) zero bs h n every = absurd (omega arith)
parts_same size shown test long law (suc count) (suc most) bs h n every =
    let whole : size * suc most ≡ size + size * most = omega (arith, mul-suc size most) in
    let room : size + size * most - length (shown (take size bs)) ≡ size * most = omega (arith, long (take size bs)) in
    let rest = joined (map shown (take count (parts size most (drop size bs)))) in
    rw (
      whole,
      filled_append (size + size * most) (shown (take size bs)) rest (omega (arith, long (take size bs))),
      room,
      same_append (shown (take size bs)) (filled (size * most) rest) bs,
      long (take size bs),
      law (take size bs) (length-take-le size bs (omega arith)) (every_take size bs every),
      parts_same size shown test long law count most (drop size bs) (omega arith) (omega (arith, length-drop size bs)) (every_drop size bs every),
    )

-- a part that always passes
passing : (test : List ℕ → Bool) → ((p : List ℕ) → test p ≡ true) → (size count : ℕ) (bs : List ℕ)
    → parts_pass test size count bs ≡ unused (drop (size * count) bs)
unfolding parts_pass
passing test always size zero bs = let z : size * 0 ≡ 0 = omega arith in rw z
passing test always size (suc count) bs =
    let far : size + size * count ≡ size * suc count = omega (arith, mul-suc size count) in
    rw (always (take size bs), passing test always size count (drop size bs), drop-drop (size * count) size bs, far)

-- the values of a record
map_take : (count : ℕ) (ps : List (List ℕ)) → map (bytes_of 4) (take count (map number_of ps)) ≡ map (λ (p : List ℕ). bytes_of 4 (number_of p)) (take count ps)
map_take zero ps = refl
map_take (suc count) [] = refl
map_take (suc count) (p ∷ ps) = ap (λ (l : List (List ℕ)). bytes_of 4 (number_of p) ∷ l) (map_take count ps)

values_same : (count : ℕ) (bs : List ℕ) → count ≤ 3 → length bs ≡ 12 → Every Byte bs
    → same (filled 12 (joined (map (bytes_of 4) (take count (map number_of (parts 4 3 bs)))))) bs ≡ unused (drop (4 * count) bs)
values_same count bs h n every =
    rw (map_take count (parts 4 3 bs))
    (parts_same 4 (λ (p : List ℕ). bytes_of 4 (number_of p)) (λ (p : List ℕ). true) (λ p. length_bytes 4 (number_of p)) four_same count 3 bs h n every
    ∙ passing (λ (p : List ℕ). true) (λ p. refl) 4 count bs)

-- the number of parts that are there
counted {ℓ} : {A : Type ℓ} (count most : ℕ) (ps : List A) → length ps ≡ most → eqb (length (take count ps)) count ≡ leb count most
counted count most ps n =
    alike (eqb (length (take count ps)) count) (leb count most)
    (λ e. le-leb count most (omega (arith, eqb-true (length (take count ps)) count e, length-take count ps)))
    (λ e. eq-eqb (length (take count ps)) count (omega (arith, leb-true count most e, length-take count ps)))

flag_same : (x : ℕ) → eqb (flag_byte (eqb x 1)) x ≡ leb x 1
unfolding flag_byte
flag_same x = go (eqb x 1) refl
  where
    go : (q : Bool) → eqb x 1 ≡ q → eqb (flag_byte q) x ≡ leb x 1
    go true e = rw (eqb-true x 1 e)
    go false e =
        alike (eqb 0 x) (leb x 1) (λ f. le-leb x 1 (omega (arith, eqb-true 0 x f)))
        (λ f. eq-eqb 0 x (omega (arith, leb-true x 1 f, eqb-false x 1 e)))

-- what follows the stamp and the predicate
tail_same : (k f x y : ℕ) (vs : List ℕ) → length vs ≡ 12 → Every Byte vs
    → same (length (take k (map number_of (parts 4 3 vs))) ∷ flag_byte (eqb f 1) ∷ 0 ∷ 0 ∷ filled 12 (joined (map (bytes_of 4) (take k (map number_of (parts 4 3 vs))))))
    (k ∷ f ∷ x ∷ y ∷ vs)
    ≡ (leb k 3 && (leb f 1 && (eqb x 0 && (eqb y 0 && unused (drop (4 * k) vs)))))
unfolding same
tail_same k f x y vs n every = go (leb k 3) refl
  where
    many : length (map number_of (parts 4 3 vs)) ≡ 3
    many = length-map (parts 4 3 vs) number_of ∙ length_parts 4 3 vs

    go : (q : Bool) → leb k 3 ≡ q
        → (eqb (length (take k (map number_of (parts 4 3 vs)))) k && (eqb (flag_byte (eqb f 1)) f && (eqb 0 x && (eqb 0 y && same (filled 12 (joined (map (bytes_of 4) (take k (map number_of (parts 4 3 vs)))))) vs))))
        ≡ (q && (leb f 1 && (eqb x 0 && (eqb y 0 && unused (drop (4 * k) vs)))))
    go true e =
        rw (counted k 3 (map number_of (parts 4 3 vs)) many, e, flag_same f, eqb_sym 0 x, eqb_sym 0 y, values_same k vs (leb-true k 3 e) n every)
    go false e = rw (counted k 3 (map number_of (parts 4 3 vs)) many, e)

-- 24 bytes from the ninth on
from_eighth : (bs : List ℕ) → length bs ≡ 24 → drop 8 bs ≡ get_or bs 8 0 ∷ get_or bs 9 0 ∷ get_or bs 10 0 ∷ get_or bs 11 0 ∷ drop 12 bs
from_eighth bs n =
    drop-cons bs 8 0 (omega arith)
    ∙ ap (λ (l : List ℕ). get_or bs 8 0 ∷ l) (drop-cons bs 9 0 (omega arith))
    ∙ ap (λ (l : List ℕ). get_or bs 8 0 ∷ get_or bs 9 0 ∷ l) (drop-cons bs 10 0 (omega arith))
    ∙ ap (λ (l : List ℕ). get_or bs 8 0 ∷ get_or bs 9 0 ∷ get_or bs 10 0 ∷ l) (drop-cons bs 11 0 (omega arith))

-- a record's shape
pub record_same : (bs : List ℕ) → length bs ≡ 24 → Every Byte bs → same (record_bytes (record_of bs)) bs ≡ record_shaped bs
unfolding record_bytes record_of record_shaped
record_same bs n every =
    let two : drop 4 (drop 4 bs) ≡ drop 8 bs = drop-drop 4 4 bs in
    let far : drop (12 + 4 * get_or bs 8 0) bs ≡ drop (4 * get_or bs 8 0) (drop 12 bs) = sym (drop-drop (4 * get_or bs 8 0) 12 bs) in
    same_append (bytes_of 4 (number_of (take 4 bs))) _ bs
    ∙ rw (
      length_bytes 4 (number_of (take 4 bs)),
      four_same (take 4 bs) (length-take-le 4 bs (omega arith)) (every_take 4 bs every),
      same_append (bytes_of 4 (number_of (take 4 (drop 4 bs)))),
      length_bytes 4 (number_of (take 4 (drop 4 bs))),
      four_same (take 4 (drop 4 bs)) (length-take-le 4 (drop 4 bs) (omega (arith, length-drop 4 bs))) (every_take 4 (drop 4 bs) (every_drop 4 bs every)),
      two,
      from_eighth bs n,
      far,
    )
    (tail_same (get_or bs 8 0) (get_or bs 9 0) (get_or bs 10 0) (get_or bs 11 0) (drop 12 bs) (omega (arith, length-drop 12 bs)) (every_drop 12 bs every))

pub drop_take : (n m : ℕ) (bs : List ℕ) → drop n (take (n + m) bs) ≡ take m (drop n bs)
drop_take zero m bs = let z : 0 + m ≡ m = omega arith in rw z
drop_take (suc n) m [] = rw (take-nil m, take-nil (suc n + m)) (drop-nil (suc n))
drop_take (suc n) m (b ∷ bs) = let z : suc n + m ≡ suc (n + m) = omega arith in rw z (drop_take n m bs)

-- the parts of the bytes that they cover
parts_take : (size count : ℕ) (bs : List ℕ) → parts size count (take (size * count) bs) ≡ parts size count bs
unfolding parts
parts_take size zero bs = refl
parts_take size (suc count) bs =
    let far : size * suc count ≡ size + size * count = omega (arith, mul-suc size count) in
    let first : take size (take (size + size * count) bs) ≡ take size bs = take-take size (size + size * count) bs (omega arith) in
    let rest : drop size (take (size + size * count) bs) ≡ take (size * count) (drop size bs) = drop_take size (size * count) bs in
    rw (far, first, rest, parts_take size count (drop size bs))

map_both : (ps : List (List ℕ)) → map record_bytes (map record_of ps) ≡ map (λ (p : List ℕ). record_bytes (record_of p)) ps
map_both [] = refl
map_both (p ∷ ps) = ap (λ (l : List (List ℕ)). record_bytes (record_of p) ∷ l) (map_both ps)

-- the records of a block, and 0 past them
records_same : (count : ℕ) (bs : List ℕ) → count ≤ 21 → length bs ≡ 504 → Every Byte bs
    → same (filled 504 (joined (map record_bytes (map record_of (take count (parts 24 21 bs)))))) bs ≡ parts_pass record_shaped 24 count bs
records_same count bs h n every =
    rw (map_both (take count (parts 24 21 bs)))
    (parts_same 24 (λ (p : List ℕ). record_bytes (record_of p)) record_shaped (λ p. length_record (record_of p)) record_same count 21 bs h n every)

-- a block's first six bytes
from_first : (bs : List ℕ) → length bs ≡ 510 → bs ≡ get_or bs 0 0 ∷ get_or bs 1 0 ∷ (take 4 (drop 2 bs) ++ drop 6 bs)
from_first bs n =
    drop-cons bs 0 0 (omega arith)
    ∙ ap (λ (l : List ℕ). get_or bs 0 0 ∷ l) (drop-cons bs 1 0 (omega arith))
    ∙ ap (λ (l : List ℕ). get_or bs 0 0 ∷ get_or bs 1 0 ∷ l)
    (sym (take-append-drop 4 (drop 2 bs)) ∙ rw (drop-drop 4 2 bs))

-- what a block is written as: its first bytes, and its records filled up
pub body_first : (b : Block) → body b ≡ 75 ∷ length b.records ∷ (bytes_of 4 b.number ++ filled 504 (joined (map record_bytes b.records)))
unfolding body filled bytes_of
body_first b = refl

head_same : (n k x y : ℕ) (us vs ws zs : List ℕ) → length us ≡ 4 → length vs ≡ 4 → same us vs ≡ true
    → same (n ∷ k ∷ (us ++ ws)) (x ∷ y ∷ (vs ++ zs)) ≡ (eqb n x && (eqb k y && same ws zs))
unfolding same
head_same n k x y us vs ws zs a b e =
    rw (same_append us ws (vs ++ zs), a, take_at vs zs 4 b, drop_at vs zs 4 b, e)

-- 510 bytes of a block
pub block_same : (bs : List ℕ) → length bs ≡ 510 → Every Byte bs → same (body (block_of bs)) bs ≡ block_shaped bs
unfolding block_of block_shaped
block_same bs n every =
    rw (body_first (block_of bs))
    (ap (λ (l : List ℕ). same (75 ∷ length (block_of bs).records ∷ (bytes_of 4 (block_of bs).number ++ filled 504 (joined (map record_bytes (block_of bs).records)))) l) (from_first bs n)
    ∙ head_same 75 (length (block_of bs).records) (get_or bs 0 0) (get_or bs 1 0) (bytes_of 4 (block_of bs).number) (take 4 (drop 2 bs))
    (filled 504 (joined (map record_bytes (block_of bs).records))) (drop 6 bs) (length_bytes 4 (block_of bs).number) four
    (four_same (take 4 (drop 2 bs)) four (every_take 4 (drop 2 bs) (every_drop 2 bs every)))
    ∙ rw (eqb_sym 75 (get_or bs 0 0), length-map (take (get_or bs 1 0) (parts 24 21 (drop 6 bs))) record_of, counted (get_or bs 1 0) 21 (parts 24 21 (drop 6 bs)) (length_parts 24 21 (drop 6 bs)))
    (go (leb (get_or bs 1 0) 21) refl))
  where
    four : length (take 4 (drop 2 bs)) ≡ 4
    four = length-take-le 4 (drop 2 bs) (omega (arith, length-drop 2 bs))

    go : (q : Bool) → leb (get_or bs 1 0) 21 ≡ q
        → (eqb (get_or bs 0 0) 75 && (q && same (filled 504 (joined (map record_bytes (map record_of (take (get_or bs 1 0) (parts 24 21 (drop 6 bs))))))) (drop 6 bs)))
        ≡ (eqb (get_or bs 0 0) 75 && (q && parts_pass record_shaped 24 (get_or bs 1 0) (drop 6 bs)))
    go true e = rw (records_same (get_or bs 1 0) (drop 6 bs) (leb-true (get_or bs 1 0) 21 e) (omega (arith, length-drop 6 bs)) (every_drop 6 bs every))
    go false e = refl

-- the check stands past the bytes that a block says
pub block_first : (bs : List ℕ) → length bs ≡ 512 → block_of (take 510 bs) ≡ block_of bs
unfolding block_of
block_first bs n =
    let num : take 4 (drop 2 (take 510 bs)) ≡ take 4 (drop 2 bs) = rw (drop_take 2 508 bs) (take-take 4 508 (drop 2 bs) (omega arith)) in
    let recs : parts 24 21 (drop 6 (take 510 bs)) ≡ parts 24 21 (drop 6 bs) = rw (drop_take 6 504 bs) (parts_take 24 21 (drop 6 bs)) in
    rw (num, recs, get_or-take 510 bs 1 0 (omega arith))

-- the records, one after the other
pub records_from_law : (count most : ℕ) (bs : List ℕ) → count ≤ most → map record_of (take count (parts 24 most bs)) ≡ records_from count bs
unfolding records_from parts
records_from_law zero most bs h = refl
records_from_law (suc count) zero bs h = absurd (omega arith)
records_from_law (suc count) (suc most) bs h = ap (λ (l : List Record). record_of (take 24 bs) ∷ l) (records_from_law count most (drop 24 bs) (omega arith))

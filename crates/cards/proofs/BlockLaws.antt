-- Laws of blocks: a block is read back from its bytes, and a good piece is what its block is written as. Assumes nothing.
use Prim.Native.Nat.{ℕ, zero, suc, ◌*◌, ◌≤◌}
use native.Mathlib.Omega.{arith}
use native.Mathlib.Nat.{mul-suc}
use mathlib.Core.Path.{◌≡◌, refl, sym, ap, ◌∙◌}
use mathlib.Core.Bool.{Bool, true, false}
use mathlib.Core.List.{List, [], ◌∷◌, ◌++◌, map, append-nil}
use lib.Dec.{eqb}
use lib.ListN.{length, take, drop, get_or, length-append, length-map, length-take, take-append-drop}
use lib.Seq.{take_at, drop_at}
use borrow.Author.Tests.{eq-eqb}
use Rattle.cards.specs.Bytes.{bytes_of, number_of, filled, parts, joined, same}
use Rattle.cards.specs.Bytes
use Rattle.cards.specs.Moments.{Record}
use Rattle.cards.specs.Blocks.{flag_byte, record_bytes, record_of, Block, body, block_bytes, block_of, good, piece_by, piece_of}
use Rattle.cards.specs.Writing.{Every, Fits}
use Rattle.cards.proofs.BytesLaws.{length_filled, length_bytes, length_check, length_parts, four_bytes, parts-joined, same_true, same_refl}

-- the record is read back from its bytes
abbrev pub Says : Record → Type 0
Says r = record_of (record_bytes r) ≡ r

-- the block can stand on a card: its number has four bytes, it has at most 21 records, and each is read back
pub record Holds (b : Block) : Type 0 where
  pub number : number_of (bytes_of 4 b.number) ≡ b.number
  pub few : length b.records ≤ 21
  pub records : Every Says b.records

-- lengths
pub length_record : (r : Record) → length (record_bytes r) ≡ 24
unfolding record_bytes bytes_of
length_record r = omega (arith, length_filled 12 (joined (map (bytes_of 4) r.values)))

pub length_body : (b : Block) → length (body b) ≡ 510
unfolding body
length_body b = length_filled 510 (75 ∷ length b.records ∷ (bytes_of 4 b.number ++ joined (map record_bytes b.records)))

pub length_block : (b : Block) → length (block_bytes b) ≡ 512
unfolding block_bytes
length_block b = omega (arith, length-append (body b) (Bytes.check (body b)), length_body b, length_check (body b))

-- what is joined from parts of one size
pub length-joined {ℓ} : {A : Type ℓ} (size most : ℕ) (shown : A → List ℕ) → ((x : A) → length (shown x) ≡ size) → (xs : List A)
    → length xs ≤ most → length (joined (map shown xs)) ≤ size * most
unfolding joined
length-joined size most shown long [] h = omega arith
length-joined size zero shown long (x ∷ xs) h = absurd (omega arith)
length-joined size (suc most) shown long (x ∷ xs) h =
    omega (arith, length-append (shown x) (joined (map shown xs)), long x, mul-suc size most, length-joined size most shown long xs (omega arith))

-- a record whose numbers fit is read back
pub record RightRecord (r : Record) : Type 0 where
  pub stamp : Fits r.stamp
  pub predicate : Fits r.predicate
  pub values : Every Fits r.values
  pub few : length r.values ≤ 3

values_back : (vs : List ℕ) → Every Fits vs → map number_of (map (bytes_of 4) vs) ≡ vs
values_back [] h = refl
values_back (v ∷ vs) h = rw (four_bytes v h.0, values_back vs h.1)

flag_back : (q : Bool) → eqb (flag_byte q) 1 ≡ q
unfolding flag_byte
flag_back true = refl
flag_back false = refl

map_take : (n : ℕ) (xs : List (List ℕ)) → take n (map number_of xs) ≡ map number_of (take n xs)
map_take zero xs = refl
map_take (suc n) [] = refl
map_take (suc n) (x ∷ xs) = ap (λ (l : List ℕ). number_of x ∷ l) (map_take n xs)

-- where a record's numbers stand in its bytes
stamp_bytes : (r : Record) → take 4 (record_bytes r) ≡ bytes_of 4 r.stamp
unfolding record_bytes bytes_of
stamp_bytes r = refl

predicate_bytes : (r : Record) → take 4 (drop 4 (record_bytes r)) ≡ bytes_of 4 r.predicate
unfolding record_bytes bytes_of
predicate_bytes r = refl

count_byte : (r : Record) → get_or (record_bytes r) 8 0 ≡ length r.values
unfolding record_bytes bytes_of
count_byte r = refl

flag_byte_law : (r : Record) → get_or (record_bytes r) 9 0 ≡ flag_byte r.last
unfolding record_bytes bytes_of
flag_byte_law r = refl

value_bytes : (r : Record) → drop 12 (record_bytes r) ≡ filled 12 (joined (map (bytes_of 4) r.values)) ++ []
unfolding record_bytes bytes_of
value_bytes r = sym (append-nil (filled 12 (joined (map (bytes_of 4) r.values))))

values_say : (r : Record) → RightRecord r → take (length r.values) (map number_of (parts 4 3 (drop 12 (record_bytes r)))) ≡ r.values
values_say r h =
    rw (
      map_take (length r.values) (parts 4 3 (drop 12 (record_bytes r))),
      value_bytes r,
      parts-joined 4 (bytes_of 4) (length_bytes 4) 3 12 r.values [] h.few (length-joined 4 3 (bytes_of 4) (length_bytes 4) r.values h.few),
    )
    (values_back r.values h.values)

pub right_says : (r : Record) → RightRecord r → Says r
unfolding record_of
right_says r h =
    rw (
      stamp_bytes r,
      predicate_bytes r,
      count_byte r,
      flag_byte_law r,
      four_bytes r.stamp h.stamp,
      four_bytes r.predicate h.predicate,
      values_say r h,
      flag_back r.last,
    )

-- a block that can stand on a card is read back from its bytes
records_back : (rs : List Record) → Every Says rs → map record_of (map record_bytes rs) ≡ rs
records_back [] h = refl
records_back (r ∷ rs) h = rw (records_back rs h.1) (ap (λ (s : Record). s ∷ rs) h.0)

pub parts_back : (b : Block) → length b.records ≤ 21
    → take (get_or (block_bytes b) 1 0) (parts 24 21 (drop 6 (block_bytes b))) ≡ map record_bytes b.records
unfolding block_bytes body filled bytes_of
parts_back b few =
    parts-joined 24 record_bytes length_record 21 504 b.records (Bytes.check (body b)) few (length-joined 24 21 record_bytes length_record b.records few)

number_bytes : (b : Block) → take 4 (drop 2 (block_bytes b)) ≡ bytes_of 4 b.number
unfolding block_bytes body filled bytes_of
number_bytes b = refl

pub block_back : (b : Block) → Holds b → block_of (block_bytes b) ≡ b
unfolding block_of
block_back b h = rw (number_bytes b, h.number, parts_back b h.few, records_back b.records h.records)

take_block : (b : Block) → take 510 (block_bytes b) ≡ body b
unfolding block_bytes
take_block b = take_at (body b) (Bytes.check (body b)) 510 (length_body b)

drop_block : (b : Block) → drop 510 (block_bytes b) ≡ Bytes.check (body b)
unfolding block_bytes
drop_block b = drop_at (body b) (Bytes.check (body b)) 510 (length_body b)

-- a block that can stand on a card is a good piece
pub piece_good : (b : Block) → Holds b → piece_of (block_bytes b) ≡ good b
unfolding piece_of piece_by
piece_good b h =
    rw (
      block_back b h,
      eq-eqb (length (block_bytes b)) 512 (length_block b),
      take_block b,
      drop_block b,
      same_refl (Bytes.check (body b)),
      same_refl (body b),
    )

-- a good piece is what its block is written as, and that block can stand on a card
pub record Written (bytes : List ℕ) (b : Block) : Type 0 where
  pub shown : bytes ≡ block_bytes b
  pub holds : Holds b

says_each : (rs : List Record) → map record_of (map record_bytes rs) ≡ rs → Every Says rs
says_each [] e = tt
says_each (r ∷ rs) e = (cc, says_each rs (cc))

-- a block that its own bytes say can stand on a card
fixed_holds : (b : Block) → block_of (block_bytes b) ≡ b → Holds b
unfolding block_of
fixed_holds b e =
    let ns : number_of (take 4 (drop 2 (block_bytes b))) ≡ b.number = ap (λ (c : Block). c.number) e in
    let rs : map record_of (take (get_or (block_bytes b) 1 0) (parts 24 21 (drop 6 (block_bytes b)))) ≡ b.records = ap (λ (c : Block). c.records) e in
    let few : length b.records ≤ 21 =
    omega (
      arith,
      ap length rs,
      length-map (take (get_or (block_bytes b) 1 0) (parts 24 21 (drop 6 (block_bytes b)))) record_of,
      length-take (get_or (block_bytes b) 1 0) (parts 24 21 (drop 6 (block_bytes b))),
      length_parts 24 21 (drop 6 (block_bytes b)),
    ) in
    record { number = rw (number_bytes b) at ns; few = few; records = says_each b.records (rw (parts_back b few) at rs) }

pub good_written : (bytes : List ℕ) (b : Block) → piece_of bytes ≡ good b → Written bytes b
unfolding piece_of piece_by block_bytes
good_written bytes b e =
    go (eqb (length bytes) 512) (same (Bytes.check (take 510 bytes)) (drop 510 bytes)) refl (same (body (block_of bytes)) (take 510 bytes)) refl e
  where
    go : (p q : Bool) → same (Bytes.check (take 510 bytes)) (drop 510 bytes) ≡ q → (s : Bool) → same (body (block_of bytes)) (take 510 bytes) ≡ s
        → piece_by p q s (block_of bytes) ≡ good b → Written bytes b
    go false q f s g h = absurd (let z : ◌≡◌ {A = ℕ} 0 1 = cc in omega arith)
    go true false f s g h = absurd (let z : ◌≡◌ {A = ℕ} 0 1 = cc in omega arith)
    go true true f false g h = absurd (let z : ◌≡◌ {A = ℕ} 0 1 = cc in omega arith)
    go true true f true g h =
        let block : block_of bytes ≡ b = cc in
        let first : body b ≡ take 510 bytes = sym (ap body block) ∙ same_true (body (block_of bytes)) (take 510 bytes) g in
        let second : Bytes.check (body b) ≡ drop 510 bytes =
        ap Bytes.check first ∙ same_true (Bytes.check (take 510 bytes)) (drop 510 bytes) f in
        let shown : bytes ≡ block_bytes b = sym (take-append-drop 510 bytes) ∙ rw (second, first) in
        record { shown = shown; holds = fixed_holds b (sym (ap block_of shown) ∙ block) }

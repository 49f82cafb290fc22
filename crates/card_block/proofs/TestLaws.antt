-- The tests of bytes, one after the other: unused bytes, a record, the records of a block. Assumes nothing.
use Prim.Native.Nat.{ℕ, suc, ◌+◌, ◌-◌, ◌*◌, ◌≤◌, ◌<◌}
use native.Mathlib.Omega.{arith}
use mathlib.Core.Path.{◌≡◌, refl, sym, ap, ◌∙◌}
use mathlib.Core.Bool.{Bool, true, false, ◌&&◌}
use mathlib.Core.List.{List, [], ◌∷◌}
use lib.Dec.{eqb, leb}
use lib.ListN.{length, take, drop, get_or}
use lib.Seq.{drop-cons, drop-drop, take-take, get_or-take, length-take-le, drop-length}
use borrow.Author.Tests.{eq-eqb, ne_eqb, le-leb, lt-leb}
use Rattle.cards.specs.Bytes.{same, check}
use Rattle.cards.specs.Blocks.{body, block_of}
use Rattle.cards.specs.Writing.{Every}
use Rattle.card_block.specs.Shapes.{unused, record_shaped, parts_pass, block_shaped}
use Rattle.card_block.proofs.ShapeLaws.{Byte, every_take, drop_take, block_same, block_first}

-- each byte of a slice is one
pub every_byte : (bs : List ℕ) → ((i : ℕ) → i < length bs → get_or bs i 0 < 256) → Every Byte bs
every_byte [] h = tt
every_byte (b ∷ bs) h = (h 0 (omega arith), every_byte bs (λ i k. h (suc i) (omega arith)))

-- the records of a block that are still to be tested
pub record Tested (piece : List ℕ) (records i : ℕ) : Type 0 where
  pub within : i ≤ records
  pub leads : parts_pass record_shaped 24 (records - i) (drop (6 + 24 * i) (take 510 piece)) ≡ parts_pass record_shaped 24 records (drop 6 (take 510 piece))

pub tested_start : (piece : List ℕ) (records : ℕ) → Tested piece records 0
tested_start piece records = let none : records - 0 ≡ records = omega arith in record { within = omega arith; leads = rw none }

rest_at : (piece : List ℕ) (n : ℕ) → n ≤ 510 → drop n (take 510 piece) ≡ take (510 - n) (drop n piece)
rest_at piece n h =
    let whole : 510 ≡ n + (510 - n) = omega arith in
    ap (λ (m : ℕ). drop n (take m piece)) whole ∙ drop_take n (510 - n) piece

tested_step : (piece : List ℕ) (records i : ℕ) → i < records → records ≤ 21
    → parts_pass record_shaped 24 (records - i) (drop (6 + 24 * i) (take 510 piece))
    ≡ (record_shaped (take 24 (drop (6 + 24 * i) piece)) && parts_pass record_shaped 24 (records - (i + 1)) (drop (6 + 24 * (i + 1)) (take 510 piece)))
unfolding parts_pass
tested_step piece records i h k =
    let one : records - i ≡ suc (records - (i + 1)) = omega arith in
    let far : 6 + 24 * (i + 1) ≡ 6 + 24 * i + 24 = omega arith in
    let first : take 24 (drop (6 + 24 * i) (take 510 piece)) ≡ take 24 (drop (6 + 24 * i) piece) =
    ap (take 24) (rest_at piece (6 + 24 * i) (omega arith)) ∙ take-take 24 (510 - (6 + 24 * i)) (drop (6 + 24 * i) piece) (omega arith) in
    rw (one, far, drop-drop 24 (6 + 24 * i) (take 510 piece), first)

pub tested_not : {piece : List ℕ} {records i : ℕ} → Tested piece records i → i < records → records ≤ 21
    → false ≡ record_shaped (take 24 (drop (6 + 24 * i) piece)) → false ≡ parts_pass record_shaped 24 records (drop 6 (take 510 piece))
tested_not {piece} {records} {i} t h k e = sym (rw (sym e) at (tested_step piece records i h k)) ∙ t.leads

pub tested_more : {piece : List ℕ} {records i : ℕ} → Tested piece records i → i < records → records ≤ 21
    → true ≡ record_shaped (take 24 (drop (6 + 24 * i) piece)) → Tested piece records (i + 1)
tested_more {piece} {records} {i} t h k e =
    record { within = omega arith; leads = sym (rw (sym e) at (tested_step piece records i h k)) ∙ t.leads }

pub tested_end : {piece : List ℕ} {records i : ℕ} → Tested piece records i → records ≤ i → records ≤ 21
    → unused (take (510 - (6 + 24 * records)) (drop (6 + 24 * records) piece)) ≡ parts_pass record_shaped 24 records (drop 6 (take 510 piece))
unfolding parts_pass
tested_end {piece} {records} {i} t h k =
    let all : i ≡ records = omega (arith, t.within) in
    let none : records - records ≡ 0 = omega arith in
    ap unused (sym (rest_at piece (6 + 24 * records) (omega arith))) ∙ (rw (all, none) at t.leads)

-- a block's shape by its tests
pub block_tests : (piece : List ℕ) → length piece ≡ 512 → ((i : ℕ) → i < length piece → get_or piece i 0 < 256)
    → same (body (block_of piece)) (take 510 piece)
    ≡ (eqb (get_or piece 0 0) 75 && (leb (get_or piece 1 0) 21 && parts_pass record_shaped 24 (get_or piece 1 0) (drop 6 (take 510 piece))))
unfolding block_shaped
block_tests piece n bytes =
    ap (λ (b : Rattle.cards.specs.Blocks.Block). same (body b) (take 510 piece)) (sym (block_first piece n))
    ∙ block_same (take 510 piece) (length-take-le 510 piece (omega arith)) (every_take 510 piece (every_byte piece bytes))
    ∙ rw (get_or-take 510 piece 0 0 (omega arith), get_or-take 510 piece 1 0 (omega arith))

-- the check against the last two bytes
pub two_bytes : (piece : List ℕ) → length piece ≡ 512 → drop 510 piece ≡ get_or piece 510 0 ∷ get_or piece 511 0 ∷ []
two_bytes piece n =
    drop-cons piece 510 0 (omega arith)
    ∙ ap (λ (l : List ℕ). get_or piece 510 0 ∷ l) (drop-cons piece 511 0 (omega arith) ∙ ap (λ (m : ℕ). get_or piece 511 0 ∷ drop m piece) (sym n))
    ∙ rw (drop-length piece)

and_true : (q : Bool) → (q && true) ≡ q
and_true true = refl
and_true false = refl

pub check_tests : (piece : List ℕ) (a b x y : ℕ) → length piece ≡ 512 → check (take 510 piece) ≡ a ∷ b ∷ [] → x ≡ get_or piece 510 0 → y ≡ get_or piece 511 0
    → same (check (take 510 piece)) (drop 510 piece) ≡ (eqb a x && eqb b y)
unfolding same
check_tests piece a b x y n e f g = rw (e, two_bytes piece n, sym f, sym g, and_true (eqb b y))

-- the answers of a block's tests
module _ (piece : List ℕ) (n : length piece ≡ 512) (bytes : (i : ℕ) → i < length piece → get_or piece i 0 < 256) where
  pub block_other : (get_or piece 0 0 ≡ 75 → ⊥) → false ≡ same (body (block_of piece)) (take 510 piece)
  block_other h = sym (block_tests piece n bytes ∙ rw (ne_eqb (get_or piece 0 0) 75 h))

  pub block_many : get_or piece 0 0 ≡ 75 → 21 < get_or piece 1 0 → false ≡ same (body (block_of piece)) (take 510 piece)
  block_many e h = sym (block_tests piece n bytes ∙ rw (eq-eqb (get_or piece 0 0) 75 e, lt-leb (get_or piece 1 0) 21 h))

  pub block_past : (r : Bool) (k : ℕ) → get_or piece 0 0 ≡ 75 → k ≡ get_or piece 1 0 → k ≤ 21 → r ≡ parts_pass record_shaped 24 k (drop 6 (take 510 piece))
      → r ≡ same (body (block_of piece)) (take 510 piece)
  block_past r k e f h g =
      g ∙ sym (block_tests piece n bytes ∙ rw (eq-eqb (get_or piece 0 0) 75 e, sym f, le-leb k 21 h))

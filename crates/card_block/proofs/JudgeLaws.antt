-- What a piece is, test by test: the number after the walk, a block, and a piece. Assumes nothing.
use Prim.Native.Nat.{ℕ, ◌+◌, ◌≤◌, ◌<◌}
use native.Mathlib.Numerals.{add-one}
use mathlib.Core.Path.{◌≡◌, refl, sym, ◌∙◌}
use Rattle.std.proofs.Common.{◌⊎◌, inl, inr}
use mathlib.Core.Bool.{true, false, ◌&&◌}
use mathlib.Core.List.{List}
use lib.Dec.{eqb, leb}
use lib.ListN.{length, take, drop, get_or}
use borrow.Author.Tests.{eq-eqb, ne_eqb, lt-ltb, le-ltb, leb-true}
use Rattle.std.proofs.Common.{Option, None, Ok, Err}
use Rattle.cards.specs.Bytes.{number_of, same, check}
use Rattle.cards.specs.Blocks.{body, block_of, piece_by, piece_of}
use Rattle.cards.specs.Counting.{closed, into}
use Rattle.cards.proofs.Tests.{and_left, and_right}
use Rattle.card_block.specs.declared.Reason.{Reason}
use Rattle.card_block.specs.declared.Reason.TheVariants.{Check, Shape, Number}
use Rattle.card_block.specs.declared.Carried.{Carried}
use Rattle.card_block.specs.declared.moments.Moment.{Moment}
use Rattle.card_block.specs.Shapes.{record_shaped, parts_pass, records_from, Shaped}
use Rattle.card_block.specs.Judging.{open_at, walked_by, settled_by, settled, judged_block, told, judged_piece, judgement}
use Rattle.card_block.proofs.ShapeLaws.{records_from_law}
use Rattle.card_block.proofs.TestLaws.{block_tests}

-- number after shape
pub settled_broken : (n next : ℕ) (why : Reason) → settled n next (Err why) ≡ Err why
unfolding settled
settled_broken n next why = refl

pub settled_below : (n next : ℕ) (m : Option Moment) → n < next → settled n next (Ok m) ≡ Err Number
unfolding settled settled_by
settled_below n next m h = rw (lt-ltb n next h)

pub settled_above : (n next : ℕ) (m : Option Moment) → next ≤ n → settled n next (Ok m) ≡ Ok (record { next = n + 1; moment = m })
unfolding settled settled_by
settled_above n next m h = rw (le-ltb n next h, add-one)

-- a block by its bytes
pub block_records : (piece : List ℕ) → get_or piece 1 0 ≤ 21 → (block_of piece).records ≡ records_from (get_or piece 1 0) (drop 6 piece)
unfolding block_of
block_records piece h = records_from_law (get_or piece 1 0) 21 (drop 6 piece) h

pub block_number : (piece : List ℕ) → (block_of piece).number ≡ number_of (take 4 (drop 2 piece))
unfolding block_of
block_number piece = refl

module _ (piece : List ℕ) (c : Carried) (s : Shaped piece) (n k : ℕ) (e : n ≡ number_of (take 4 (drop 2 piece))) (f : k ≡ get_or piece 1 0) where
  pub judged_on : n ≡ c.next → settled n c.next (walked_by (open_at c.moment) (records_from k (drop 6 piece))) ≡ judged_block (block_of piece) c
  unfolding judged_block into
  judged_on h =
      let named : (block_of piece).number ≡ n = block_number piece ∙ sym e in
      rw (named, eq-eqb n c.next h, block_records piece s.few, sym f)

  pub judged_anew : (n ≡ c.next → ⊥) → settled n c.next (walked_by (open_at None) (records_from k (drop 6 piece))) ≡ judged_block (block_of piece) c
  unfolding judged_block into closed open_at
  judged_anew h =
      let named : (block_of piece).number ≡ n = block_number piece ∙ sym e in
      rw (named, ne_eqb n c.next h, block_records piece s.few, sym f)

  -- what is walked with is what is open, where the block runs on, and else nothing
  pub judged_with : (h : Option Moment) → ((n ≡ c.next) × (h ≡ c.moment)) ⊎ ((n ≡ c.next → ⊥) × (h ≡ None))
      → settled n c.next (walked_by (open_at h) (records_from k (drop 6 piece))) ≡ judged_block (block_of piece) c
  judged_with h (inl (p, q)) = rw q (judged_on p)
  judged_with h (inr (p, q)) = rw q (judged_anew p)

-- a piece by the three tests
module _ (piece : List ℕ) (c : Carried) where
  pub judged_short : (length piece ≡ 512 → ⊥) → Err Shape ≡ judgement piece c
  unfolding judgement judged_piece told piece_of piece_by
  judged_short h = rw (ne_eqb (length piece) 512 h)

  pub judged_check : length piece ≡ 512 → false ≡ same (check (take 510 piece)) (drop 510 piece) → Err Check ≡ judgement piece c
  unfolding judgement judged_piece told piece_of piece_by
  judged_check n e = rw (eq-eqb (length piece) 512 n, sym e)

  pub judged_shape : length piece ≡ 512 → true ≡ same (check (take 510 piece)) (drop 510 piece) → false ≡ same (body (block_of piece)) (take 510 piece)
      → Err Shape ≡ judgement piece c
  unfolding judgement judged_piece told piece_of piece_by
  judged_shape n e f = rw (eq-eqb (length piece) 512 n, sym e, sym f)

  pub judged_good : length piece ≡ 512 → true ≡ same (check (take 510 piece)) (drop 510 piece) → true ≡ same (body (block_of piece)) (take 510 piece)
      → judged_block (block_of piece) c ≡ judgement piece c
  unfolding judgement judged_piece piece_of piece_by
  judged_good n e f = rw (eq-eqb (length piece) 512 n, sym e, sym f)

-- a piece of a good shape has at most 21 records
pub shaped_few : (piece : List ℕ) → length piece ≡ 512 → ((i : ℕ) → i < length piece → get_or piece i 0 < 256)
    → true ≡ same (body (block_of piece)) (take 510 piece) → Shaped piece
shaped_few piece n bytes e =
    record {
      whole = n;
      few =
          leb-true (get_or piece 1 0) 21
          (and_left (leb (get_or piece 1 0) 21) (parts_pass record_shaped 24 (get_or piece 1 0) (drop 6 (take 510 piece)))
          (and_right (eqb (get_or piece 0 0) 75) (leb (get_or piece 1 0) 21 && parts_pass record_shaped 24 (get_or piece 1 0) (drop 6 (take 510 piece)))
          (sym (block_tests piece n bytes) ∙ sym e)));
    }

-- What a block that stays is: its number, its length and its count of records. Assumes nothing.
use Prim.Native.Nat.{ℕ, suc, ◌-◌, ◌<◌}
use native.Mathlib.Omega.{arith}
use mathlib.Core.Path.{◌≡◌, refl, ap, ◌∙◌}
use mathlib.Core.Bool.{Bool, true, false}
use mathlib.Core.List.{List}
use lib.Dec.{eqb, ltb, eqb-suc-suc}
use lib.ListN.{length, get_or}
use Rattle.std.proofs.Common.{Option, Result, Ok, Err}
use Rattle.cards.specs.Bytes.{bytes_of, filled}
use Rattle.cards.specs.Blocks.{Block, body, block_bytes, Piece, good, faulty, piece_of}
use Rattle.cards.proofs.BlockLaws.{Written, good_written, length_block}
use Rattle.card_block.specs.declared.Reason.{Reason}
use Rattle.card_block.specs.declared.moments.Moment.{Moment}
use Rattle.card_block.specs.declared.Carried.{Carried}
use Rattle.card_block.specs.Shapes.{Shaped}
use Rattle.card_block.specs.Judging.{settled_by, settled, judged_block, judged_piece, judgement}

-- a block that stays has a number, and the next one is above 0
settled_next : (n next : ℕ) (w : Result (Option Moment) Reason) (g : Carried) → settled n next w ≡ Ok g → 0 < g.next
unfolding settled settled_by
settled_next n next (Err why) g e = absurd (let z : ◌≡◌ {A = ℕ} 0 1 = cc in omega arith)
settled_next n next (Ok m) g e = go (ltb n next) e
  where
    go : (q : Bool) → settled_by q n m ≡ Ok g → 0 < g.next
    go true h = absurd (let z : ◌≡◌ {A = ℕ} 0 1 = cc in omega arith)
    go false h =
        let same : g ≡ record { next = suc n; moment = m } = cc in
        omega (arith, ap (λ (x : Carried). x.next) same)

pub stays_next : (bytes : List ℕ) (c g : Carried) → judgement bytes c ≡ Ok g → 0 < g.next
unfolding judgement judged_piece judged_block
stays_next bytes c g e = go (piece_of bytes) e
  where
    go : (p : Piece) → judged_piece p c ≡ Ok g → 0 < g.next
    go (good b) h = settled_next b.number c.next _ g h
    go (faulty why) h = absurd (let z : ◌≡◌ {A = ℕ} 0 1 = cc in omega arith)

-- a number that the next one is one above
pub next_is : (next n : ℕ) → 0 < next → eqb next (suc n) ≡ eqb (next - 1) n
next_is next n h = let whole : next ≡ suc (next - 1) = omega arith in ap (λ (m : ℕ). eqb m (suc n)) whole ∙ eqb-suc-suc (next - 1) n

-- byte 1 of a good block is the count of its records
pub count_byte : (b : Block) → get_or (block_bytes b) 1 0 ≡ length b.records
unfolding block_bytes body filled bytes_of
count_byte b = refl

-- a block that stays is 512 bytes with at most 21 records
pub good_shaped : (bytes : List ℕ) (b : Block) → piece_of bytes ≡ good b → Shaped bytes
good_shaped bytes b e =
    let w : Written bytes b = good_written bytes b e in
    record {
      whole = ap length w.shown ∙ length_block b;
      few = omega (arith, ap (λ (l : List ℕ). get_or l 1 0) w.shown, count_byte b, w.holds.few);
    }

pub stays_shaped : (bytes : List ℕ) (c g : Carried) → judgement bytes c ≡ Ok g → Shaped bytes
unfolding judgement judged_piece
stays_shaped bytes c g e = go (piece_of bytes) refl e
  where
    go : (p : Piece) → piece_of bytes ≡ p → judged_piece p c ≡ Ok g → Shaped bytes
    go (good b) f h = good_shaped bytes b f
    go (faulty why) f h = absurd (let z : ◌≡◌ {A = ℕ} 0 1 = cc in omega arith)

-- Laws of a card's bytes: its blocks are its pieces, and a card of good pieces is what its blocks are written as. Assumes nothing.
use Prim.Native.Nat.{ℕ, zero, suc, ◌≤◌}
use native.Mathlib.Omega.{arith}
use mathlib.Core.Path.{◌≡◌, refl, sym, ap, ◌∙◌}
use mathlib.Core.List.{List, [], ◌∷◌, ◌++◌, map}
use lib.ListN.{length, drop, length-append, length-drop, take-append-drop}
use lib.Seq.{take_at, drop_at}
use Rattle.cards.specs.Bytes.{joined}
use Rattle.cards.specs.Blocks.{Block, block_bytes, good, piece_of, cut, pieces}
use Rattle.cards.specs.Reading.{Before, after, Fate, stays, goes, fate, fates}
use Rattle.cards.specs.Mending.{card_bytes, kept}
use Rattle.cards.specs.Writing.{Every}
use Rattle.cards.proofs.BlockLaws.{Holds, Written, length_block, piece_good, good_written}
use Rattle.cards.proofs.FateLaws.{stays_good, fates_stays, fates_goes}

-- the first 512 bytes are a piece
cut_first : (turns : ℕ) (xs rest : List ℕ) → length xs ≡ 512 → cut (suc turns) (xs ++ rest) ≡ xs ∷ cut turns rest
unfolding cut
cut_first turns [] rest e = absurd (omega arith)
cut_first turns (x ∷ xs) rest e = rw (take_at (x ∷ xs) rest 512 e, drop_at (x ∷ xs) rest 512 e)

cut_none : (turns : ℕ) → cut turns [] ≡ []
unfolding cut
cut_none zero = refl
cut_none (suc turns) = refl

-- a card is cut into its blocks
cut_card : (turns : ℕ) (bs : List Block) → length bs ≤ turns → cut turns (card_bytes bs) ≡ map block_bytes bs
unfolding card_bytes joined
cut_card turns [] h = cut_none turns
cut_card zero (b ∷ bs) h = absurd (omega arith)
cut_card (suc turns) (b ∷ bs) h =
    cut_first turns (block_bytes b) (card_bytes bs) (length_block b) ∙ ap (λ (l : List (List ℕ)). block_bytes b ∷ l) (cut_card turns bs (omega arith))

-- there are no more blocks than bytes
blocks_length : (bs : List Block) → length bs ≤ length (card_bytes bs)
unfolding card_bytes joined
blocks_length [] = omega arith
blocks_length (b ∷ bs) = omega (arith, length-append (block_bytes b) (card_bytes bs), length_block b, blocks_length bs)

-- the pieces of a card that is written are its blocks
pub pieces_card : (bs : List Block) → Every Holds bs → pieces (card_bytes bs) ≡ map good bs
unfolding pieces
pieces_card bs h = rw (cut_card (length (card_bytes bs)) bs (blocks_length bs)) (each bs h)
  where
    each : (cs : List Block) → Every Holds cs → map piece_of (map block_bytes cs) ≡ map good cs
    each [] h = refl
    each (c ∷ cs) h = rw (piece_good c h.0, each cs h.1)

-- the pieces are the card again
cut_all : (turns : ℕ) (bytes : List ℕ) → length bytes ≤ turns → joined (cut turns bytes) ≡ bytes
unfolding cut joined
cut_all zero [] h = refl
cut_all zero (b ∷ bs) h = absurd (omega arith)
cut_all (suc turns) [] h = refl
cut_all (suc turns) (b ∷ bs) h =
    rw (cut_all turns (drop 512 (b ∷ bs)) (omega (arith, length-drop 512 (b ∷ bs)))) (take-append-drop 512 (b ∷ bs))

-- where every piece is good, the card is what its blocks are written as
pub pieces_good : (bytes : List ℕ) (bs : List Block) → pieces bytes ≡ map good bs → (bytes ≡ card_bytes bs) × Every Holds bs
unfolding pieces card_bytes
pieces_good bytes bs e =
    let all : (cut (length bytes) bytes ≡ map block_bytes bs) × Every Holds bs = each (cut (length bytes) bytes) bs e in
    (sym (cut_all (length bytes) bytes (omega arith)) ∙ ap joined all.0, all.1)
  where
    each : (xs : List (List ℕ)) (cs : List Block) → map piece_of xs ≡ map good cs → (xs ≡ map block_bytes cs) × Every Holds cs
    each [] [] e = (refl, tt)
    each [] (c ∷ cs) e = absurd (let z : ◌≡◌ {A = ℕ} 0 1 = cc in omega arith)
    each (x ∷ xs) [] e = absurd (let z : ◌≡◌ {A = ℕ} 0 1 = cc in omega arith)
    each (x ∷ xs) (c ∷ cs) e =
        let first : piece_of x ≡ good c = cc in
        let tails : map piece_of xs ≡ map good cs = cc in
        let w : Written x c = good_written x c first in
        let rest : (xs ≡ map block_bytes cs) × Every Holds cs = each xs cs tails in
        (rw (w.shown, rest.0), (w.holds, rest.1))

-- the blocks that stay can stand on a card
each_holds : (f : Before) (xs : List (List ℕ)) → Every Holds (kept (fates f (map piece_of xs)))
unfolding kept fates
each_holds f [] = tt
each_holds f (x ∷ xs) = go (fate f (piece_of x)) refl (λ g. each_holds g xs)
  where
    go : (w : Fate) → fate f (piece_of x) ≡ w → ((g : Before) → Every Holds (kept (fates g (map piece_of xs))))
        → Every Holds (kept (fates f (piece_of x ∷ map piece_of xs)))
    go (stays b) e ih =
        rw (fates_stays f (piece_of x) (map piece_of xs) b e) ((good_written x b (stays_good f (piece_of x) b e).0).holds, ih (after f b))
    go (goes why) e ih = rw (fates_goes f (piece_of x) (map piece_of xs) why e) (ih f)

pub kept_hold : (bytes : List ℕ) (f : Before) → Every Holds (kept (fates f (pieces bytes)))
unfolding pieces
kept_hold bytes f = each_holds f (cut (length bytes) bytes)

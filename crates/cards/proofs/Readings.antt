-- Reading a card has one answer, and says it by writing: the reader takes exactly the cards that are what good blocks are written as.
-- Assumes nothing.
use Prim.Native.Nat.{ℕ}
use native.Mathlib.Omega.{arith}
use mathlib.Core.Path.{◌≡◌, refl, sym, ap, ◌∙◌}
use mathlib.Core.List.{List, [], ◌∷◌, map}
use Rattle.cards.specs.Moments.{Moment}
use Rattle.cards.specs.Blocks.{Block, good, pieces}
use Rattle.cards.specs.Reading.{start, Fault, fine, bad, fault_from, blocks, stretches, moments_of, taken, read_by, read_pieces, read}
use Rattle.cards.specs.Mending.{card_bytes}
use Rattle.cards.specs.Writing.{Every}
use Rattle.cards.proofs.BlockLaws.{Holds}
use Rattle.cards.proofs.FateLaws.{Fine, fine_fault, fault_fine}
use Rattle.cards.proofs.CardLaws.{pieces_card, pieces_good}

-- the card is what these blocks are written as: each can stand on a card, has a good shape and a number above the last, and no moment is open
-- at a gap or the end; the moments are those of their stretches
pub record Taken (bytes : List ℕ) (runs : List (List Moment)) (bs : List Block) : Type 0 where
  pub shown : bytes ≡ card_bytes bs
  pub holds : Every Holds bs
  pub unfaulted : Fine start bs
  pub said : runs ≡ map moments_of (stretches 0 bs)

pub blocks_good : (bs : List Block) → blocks (map good bs) ≡ bs
unfolding blocks
blocks_good [] = refl
blocks_good (b ∷ bs) = ap (λ (l : List Block). b ∷ l) (blocks_good bs)

-- the reader takes such a card
pub takes : (bytes : List ℕ) (runs : List (List Moment)) (bs : List Block) → Taken bytes runs bs → read bytes ≡ taken runs
unfolding read read_pieces read_by
takes bytes runs bs t =
    rw (t.shown, pieces_card bs t.holds, fine_fault 0 0 start bs t.unfaulted, blocks_good bs) (ap taken (sym t.said))

-- and no other, and gives these moments
pub taken_only : (bytes : List ℕ) (runs : List (List Moment)) → read bytes ≡ taken runs → Taken bytes runs (blocks (pieces bytes))
unfolding read read_pieces read_by
taken_only bytes runs e = go (fault_from 0 0 start (pieces bytes)) refl e
  where
    go : (w : Fault) → fault_from 0 0 start (pieces bytes) ≡ w → read_by w (map moments_of (stretches 0 (blocks (pieces bytes)))) ≡ taken runs
        → Taken bytes runs (blocks (pieces bytes))
    go (bad place why) f h = absurd (let z : ◌≡◌ {A = ℕ} 0 1 = cc in omega arith)
    go fine f h =
        let all : (pieces bytes ≡ map good (blocks (pieces bytes))) × Fine start (blocks (pieces bytes)) = fault_fine 0 0 start (pieces bytes) f in
        let whole : (bytes ≡ card_bytes (blocks (pieces bytes))) × Every Holds (blocks (pieces bytes)) = pieces_good bytes (blocks (pieces bytes)) all.0 in
        record { shown = whole.0; holds = whole.1; unfaulted = all.1; said = cc }

-- "one reading": two blocks lists that a card is written as are the same, and so are their moments
pub one_reading : (bytes : List ℕ) (runs runs₁ : List (List Moment)) (bs bs₁ : List Block) → Taken bytes runs bs → Taken bytes runs₁ bs₁
    → (runs ≡ runs₁) × (bs ≡ bs₁)
one_reading bytes runs runs₁ bs bs₁ t t₁ =
    let p : pieces bytes ≡ map good bs = rw t.shown (pieces_card bs t.holds) in
    let q : pieces bytes ≡ map good bs₁ = rw t₁.shown (pieces_card bs₁ t₁.holds) in
    let same : bs ≡ bs₁ = sym (blocks_good bs) ∙ ap blocks (sym p ∙ q) ∙ blocks_good bs₁ in
    (t.said ∙ rw same (sym t₁.said), same)

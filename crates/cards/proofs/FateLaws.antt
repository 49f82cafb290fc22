-- Laws of a piece's fate: which blocks stay, and what mending's walk and the reader's make of one. Assumes nothing.
use Prim.Native.Nat.{ℕ, suc, ◌≤◌}
use native.Mathlib.Omega.{arith}
use mathlib.Core.Path.{◌≡◌, refl, sym, ap, ◌∙◌}
use mathlib.Core.Bool.{Bool, true, false}
use mathlib.Core.List.{List, [], ◌∷◌, map}
use lib.Dec.{ltb}
use borrow.Author.Tests.{ltb-false, le-ltb}
use Rattle.cards.specs.Moments.{unbroken}
use Rattle.cards.specs.Blocks.{Block, Reason, shape, Piece, good, faulty}
use Rattle.cards.specs.Reading.{Before, line, after, Fate, stays, goes, fate_by, fate, fates, fine, bad, last_place, some, open_at_gap, fault_from, blocks}
use Rattle.cards.specs.Mending.{kept}

-- the block has a good shape after what stands before it, and its number is above the last kept one
pub record Stays (f : Before) (b : Block) : Type 0 where
  pub shaped : unbroken (line f b) ≡ true
  pub above : f.next ≤ b.number

-- exactly such a block stays
pub fate_stays : (f : Before) (b : Block) → Stays f b → fate f (good b) ≡ stays b
unfolding fate fate_by
fate_stays f b s = rw (s.shaped, le-ltb b.number f.next s.above)

pub stays_good : (f : Before) (p : Piece) (b : Block) → fate f p ≡ stays b → (p ≡ good b) × Stays f b
unfolding fate fate_by
stays_good f (faulty why) b e = absurd (let z : ◌≡◌ {A = ℕ} 0 1 = cc in omega arith)
stays_good f (good c) b e = go (unbroken (line f c)) refl (ltb c.number f.next) refl e
  where
    go : (p : Bool) → unbroken (line f c) ≡ p → (q : Bool) → ltb c.number f.next ≡ q → fate_by p q c ≡ stays b → (good c ≡ good b) × Stays f b
    go false u q v h = absurd (let z : ◌≡◌ {A = ℕ} 0 1 = cc in omega arith)
    go true u true v h = absurd (let z : ◌≡◌ {A = ℕ} 0 1 = cc in omega arith)
    go true u false v h =
        let same : c ≡ b = cc in
        (ap good same, rw (← same) (record { shaped = u; above = ltb-false c.number f.next v }))

-- the walk past one piece
pub fates_stays : (f : Before) (p : Piece) (ps : List Piece) (b : Block) → fate f p ≡ stays b → fates f (p ∷ ps) ≡ stays b ∷ fates (after f b) ps
unfolding fates
fates_stays f p ps b e = rw (e, fates)

pub fates_goes : (f : Before) (p : Piece) (ps : List Piece) (why : Reason) → fate f p ≡ goes why → fates f (p ∷ ps) ≡ goes why ∷ fates f ps
unfolding fates
fates_goes f p ps why e = rw (e, fates)

pub fault_stays : (place held : ℕ) (f : Before) (p : Piece) (ps : List Piece) (b : Block) → fate f p ≡ stays b → open_at_gap f b ≡ false
    → fault_from place held f (p ∷ ps) ≡ fault_from (suc place) (last_place held place b.records) (after f b) ps
unfolding fault_from
fault_stays place held f p ps b e g = rw (e, fault_from) (rw g)

pub fault_open : (place held : ℕ) (f : Before) (p : Piece) (ps : List Piece) (b : Block) → fate f p ≡ stays b → open_at_gap f b ≡ true
    → fault_from place held f (p ∷ ps) ≡ bad held shape
unfolding fault_from
fault_open place held f p ps b e g = rw (e, fault_from) (rw g)

pub fault_goes : (place held : ℕ) (f : Before) (p : Piece) (ps : List Piece) (why : Reason) → fate f p ≡ goes why
    → fault_from place held f (p ∷ ps) ≡ bad place why
unfolding fault_from
fault_goes place held f p ps why e = rw (e, fault_from)

-- each of the blocks stays
abbrev pub Chain : Before → List Block → Type 0
Chain f [] = Unit {0}
Chain f (b ∷ bs) = Stays f b × Chain (after f b) bs

-- the blocks that mending keeps are such
pub kept_chain : (f : Before) (ps : List Piece) → Chain f (kept (fates f ps))
unfolding kept fates
kept_chain f [] = tt
kept_chain f (p ∷ ps) = go (fate f p) refl (λ g. kept_chain g ps)
  where
    go : (w : Fate) → fate f p ≡ w → ((g : Before) → Chain g (kept (fates g ps))) → Chain f (kept (fates f (p ∷ ps)))
    go (stays b) e ih = rw (fates_stays f p ps b e) ((stays_good f p b e).1, ih (after f b))
    go (goes why) e ih = rw (fates_goes f p ps why e) (ih f)

-- blocks in which the reader finds no fault: no moment is open at a gap or the end
abbrev pub Fine : Before → List Block → Type 0
Fine f [] = some f.opened ≡ false
Fine f (b ∷ bs) = Stays f b × (open_at_gap f b ≡ false) × Fine (after f b) bs

-- in these it finds none
pub fine_fault : (place held : ℕ) (f : Before) (bs : List Block) → Fine f bs → fault_from place held f (map good bs) ≡ fine
unfolding fault_from
fine_fault place held f [] h = rw (h, fault_from)
fine_fault place held f (b ∷ bs) h =
    fault_stays place held f (good b) (map good bs) b (fate_stays f b h.0) h.1
    ∙ fine_fault (suc place) (last_place held place b.records) (after f b) bs h.2

-- and only in these: every piece is then a block
pub fault_fine : (place held : ℕ) (f : Before) (ps : List Piece) → fault_from place held f ps ≡ fine → (ps ≡ map good (blocks ps)) × Fine f (blocks ps)
unfolding fault_from blocks
fault_fine place held f [] e = (refl, go (some f.opened) e)
  where
    go : (q : Bool) → elim q [ true ↦ bad held shape | false ↦ fine ] ≡ fine → q ≡ false
    go true h = absurd (let z : ◌≡◌ {A = ℕ} 0 1 = cc in omega arith)
    go false h = refl
fault_fine place held f (p ∷ ps) e = go (fate f p) refl (λ n m g. fault_fine n m g ps)
  where
    past : (b : Block) → fate f p ≡ stays b → (q : Bool) → open_at_gap f b ≡ q
        → ((n m : ℕ) (g : Before) → fault_from n m g ps ≡ fine → (ps ≡ map good (blocks ps)) × Fine g (blocks ps))
        → (p ∷ ps ≡ map good (blocks (p ∷ ps))) × Fine f (blocks (p ∷ ps))
    past b w true g ih = let h = fault_open place held f p ps b w g in absurd (let z : ◌≡◌ {A = ℕ} 0 1 = cc in omega arith)
    past b w false g ih =
        let known : (p ≡ good b) × Stays f b = stays_good f p b w in
        let rest : (ps ≡ map good (blocks ps)) × Fine (after f b) (blocks ps) =
        ih (suc place) (last_place held place b.records) (after f b) (sym (fault_stays place held f p ps b w g) ∙ e) in
        rw known.0 (ap (λ (l : List Piece). good b ∷ l) rest.0, (known.1, g, rest.1))

    go : (w : Fate) → fate f p ≡ w
        → ((n m : ℕ) (g : Before) → fault_from n m g ps ≡ fine → (ps ≡ map good (blocks ps)) × Fine g (blocks ps))
        → (p ∷ ps ≡ map good (blocks (p ∷ ps))) × Fine f (blocks (p ∷ ps))
    go (stays b) w ih = past b w (open_at_gap f b) refl ih
    go (goes why) w ih = let h = fault_goes place held f p ps why w in absurd (let z : ◌≡◌ {A = ℕ} 0 1 = cc in omega arith)

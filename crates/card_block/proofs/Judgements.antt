-- What `judge` answers is the piece's fate, wherever what it is handed carries what stands before the piece. Assumes nothing.
use Prim.Native.Nat.{ℕ}
use native.Mathlib.Omega.{arith}
use mathlib.Core.Path.{◌≡◌, refl, sym, ap, ◌∙◌}
use mathlib.Core.Bool.{Bool, true, false}
use mathlib.Core.List.{List, [], ◌∷◌}
use lib.Dec.{eqb, ltb}
use lib.ListN.{length, take, drop}
use Rattle.std.proofs.Common.{Option, Result, Ok, Err}
use Rattle.cards.specs.Bytes.{same}
use Rattle.cards.specs.Bytes
use Rattle.cards.specs.Moments.{Record, unbroken}
use Rattle.cards.specs.Blocks.{Block, body, block_of, check, shape, number, Piece, good, faulty, piece_by, piece_of}
use Rattle.cards.specs.Blocks
use Rattle.cards.specs.Reading.{Before, start, runs_on, line, after, stays, goes, fate_by, fate}
use Rattle.cards.specs.Counting.{opening_of, stamp_of, closed, into}
use Rattle.cards.proofs.CountingLaws.{none_open}
use Rattle.cards.proofs.WalkLaws.{Opened, opened_start, opened_after, shape_counted, open_counted}
use Rattle.card_block.specs.declared.Carried.{Carried}
use Rattle.card_block.specs.declared.Reason.{Reason}
use Rattle.card_block.specs.declared.Reason.TheVariants.{Check, Shape, Number}
use Rattle.card_block.specs.declared.moments.Moment.{Moment}
use Rattle.card_block.proofs.WalkLaws.{held_open}
use Rattle.card_block.specs.Judging.{open_at, held_by, held, went_by, walked_by, settled_by, settled, judged_block, told, judged_piece, judgement, nothing, Carries, meant, Judges}

-- a good piece is the block that its bytes say
good_block : (bytes : List ℕ) (b : Block) → piece_of bytes ≡ good b → b ≡ block_of bytes
unfolding piece_of piece_by
good_block bytes b e =
    go (eqb (length bytes) 512) (same (Bytes.check (take 510 bytes)) (drop 510 bytes)) (same (body (block_of bytes)) (take 510 bytes)) e
  where
    go : (p q s : Bool) → piece_by p q s (block_of bytes) ≡ good b → b ≡ block_of bytes
    go false q s h = absurd (let z : ◌≡◌ {A = ℕ} 0 1 = cc in omega arith)
    go true false s h = absurd (let z : ◌≡◌ {A = ℕ} 0 1 = cc in omega arith)
    go true true false h = absurd (let z : ◌≡◌ {A = ℕ} 0 1 = cc in omega arith)
    go true true true h = cc

meant_told : (why : Blocks.Reason) → meant (told why) ≡ why
unfolding meant told
meant_told check = refl
meant_told shape = refl
meant_told number = refl

open_whole : (rs : List Record) → open_at (held (opening_of rs)) ≡ opening_of rs
unfolding open_at held held_by opening_of stamp_of closed
open_whole [] = refl
open_whole (r ∷ rs) = refl

-- what the walk is judged by
opened : {f : Before} {c : Carried} → Carries f c → Opened f
opened h = record { plain = h.plain; one = h.one }

runs_in : (f : Before) (c : Carried) (b : Block) → Carries f c
    → into (eqb b.number c.next) (open_at c.moment) ≡ into (runs_on f.next b) (opening_of f.opened)
unfolding runs_on
runs_in f c b h = rw (h.next, h.held)

block_judged : (f : Before) (c : Carried) (bytes : List ℕ) (b : Block) → Carries f c → piece_of bytes ≡ good b → Judges f bytes (judged_block b c)
unfolding judged_block walked_by settled went_by settled_by fate fate_by meant
block_judged f c bytes b h e =
    rw (runs_in f c b h, h.next, sym (shape_counted f b (opened h)), sym (open_counted f b (opened h)))
    (go (unbroken (line f b)) refl (ltb b.number f.next) refl)
  where
    is : b ≡ block_of bytes
    is = good_block bytes b e

    go : (p : Bool) → unbroken (line f b) ≡ p → (q : Bool) → ltb b.number f.next ≡ q
        → Judges f bytes (settled b.number f.next (went_by p (opening_of (after f b).opened)))
    go false u q v = rw (e, u)
    go true u true v = rw v (rw (e, u, v))
    go true u false v =
        rw v
        (record {
          stays = rw (e, u, v) (ap stays is);
          carries = rw (sym is) (record {
            next = unfold after in refl;
            held = open_whole (after f b).opened;
            plain = (opened_after f b u).plain;
            one = (opened_after f b u).one;
          });
        })

-- "checked in that order": the judgement is the piece's fate, and what it carries on is what stands before the next piece
pub judgement_right : (f : Before) (c : Carried) (bytes : List ℕ) → Carries f c → Judges f bytes (judgement bytes c)
unfolding judgement judged_piece fate
judgement_right f c bytes h = go (piece_of bytes) refl
  where
    go : (p : Piece) → piece_of bytes ≡ p → Judges f bytes (judged_piece p c)
    go (good b) e = block_judged f c bytes b h e
    go (faulty why) e = rw e (ap goes (sym (meant_told why)))

-- nothing is carried at the card's beginning
pub carries_start : Carries start nothing
unfolding start
carries_start =
    record {
      next = refl;
      held = unfold open_at in sym none_open;
      plain = opened_start.plain;
      one = opened_start.one;
    }

-- what is carried is one
pub carried_once : (f : Before) (g h : Carried) → Carries f g → Carries f h → g ≡ h
carried_once f g h p q =
    let next : g.next ≡ h.next = p.next ∙ sym q.next in
    let moment : g.moment ≡ h.moment = sym (held_open g.moment) ∙ ap held (p.held ∙ sym q.held) ∙ held_open h.moment in
    ap (λ (n : ℕ). record { next = n; moment = g.moment }) next ∙ ap (λ (m : Option Moment). record { next = h.next; moment = m }) moment

pub meant_once : (v w : Reason) → meant v ≡ meant w → v ≡ w
unfolding meant
meant_once Check Check e = refl
meant_once Shape Shape e = refl
meant_once Number Number e = refl
meant_once Check Shape e = absurd (let z : ◌≡◌ {A = ℕ} 0 1 = cc in omega arith)
meant_once Check Number e = absurd (let z : ◌≡◌ {A = ℕ} 0 1 = cc in omega arith)
meant_once Shape Check e = absurd (let z : ◌≡◌ {A = ℕ} 0 1 = cc in omega arith)
meant_once Shape Number e = absurd (let z : ◌≡◌ {A = ℕ} 0 1 = cc in omega arith)
meant_once Number Check e = absurd (let z : ◌≡◌ {A = ℕ} 0 1 = cc in omega arith)
meant_once Number Shape e = absurd (let z : ◌≡◌ {A = ℕ} 0 1 = cc in omega arith)

goes_once : (v w : Blocks.Reason) → goes v ≡ goes w → v ≡ w
goes_once v w e = cc

-- a piece has one fate, so one judgement
pub judged_once : (f : Before) (bytes : List ℕ) (r s : Result Carried Reason) → Judges f bytes r → Judges f bytes s → r ≡ s
judged_once f bytes (Ok g) (Ok h) p q = ap Ok (carried_once (after f (block_of bytes)) g h p.carries q.carries)
judged_once f bytes (Ok g) (Err w) p q = absurd (let a = p.stays in let z : ◌≡◌ {A = ℕ} 0 1 = cc in omega arith)
judged_once f bytes (Err v) (Ok h) p q = absurd (let a = q.stays in let z : ◌≡◌ {A = ℕ} 0 1 = cc in omega arith)
judged_once f bytes (Err v) (Err w) p q = ap Err (meant_once v w (goes_once (meant v) (meant w) (sym p ∙ q)))

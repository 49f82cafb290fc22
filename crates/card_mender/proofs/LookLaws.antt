-- The look ahead over a card, piece by piece. Assumes nothing.
use Prim.Native.Nat.{ℕ}
use native.Mathlib.Omega.{arith}
use mathlib.Core.Path.{◌≡◌, refl, sym, ap, ◌∙◌}
use mathlib.Core.Bool.{Bool, true, false}
use mathlib.Core.List.{List, ◌∷◌}
use lib.ListN.{length}
use Rattle.cards.specs.Blocks.{piece_of, pieces}
use Rattle.cards.specs.Reading.{Before}
use Rattle.cards.specs.Piecewise.{flagged_ahead}
use Rattle.cards.proofs.PieceLaws.{pieces_none}
use Rattle.card_block.specs.declared.Carried.{Carried}
use Rattle.card_block.specs.Judging.{Carries}
use Rattle.card_block.proofs.PieceEnds.{Cut, pieces_cut}
use Rattle.std.specs.declared.ops.ControlFlow.{ControlFlow}
use Rattle.std.specs.declared.ops.ControlFlow.TheVariants.{Break, Continue}
use Rattle.card_mender.specs.declared.Held.{Held}
use Rattle.card_mender.specs.Weighing.{looked, stay_to}
use Rattle.card_mender.proofs.Weights.{LooksRight, Looks, looks_right}

-- what is carried here stands before the rest, and the rest gives the answer
pub record There (all : List ℕ) (f : Before) (c : Carried) (rest : List ℕ) : Type 0 where
  pub next : Before
  pub carries : Carries next c
  pub leads : flagged_ahead next (pieces rest) ≡ flagged_ahead f (pieces all)

pub record Looking (all : List ℕ) (carried c : Carried) (rest : List ℕ) : Type 0 where
  pub on : (f : Before) → Carries f carried → There all f c rest

pub looking_start : (all : List ℕ) (c : Carried) → Looking all c c all
looking_start all c = record { on = λ f h. record { next = f; carries = h; leads = refl } }

module _ {all rest : List ℕ} {carried c : Carried} (l : Looking all carried c rest) (here left : List ℕ) (cut : Cut rest here left) (r : ControlFlow Bool Carried) (w : r ≡ looked here c) where
  right : (f : Before) (k : Carries f carried) → LooksRight (l.on f k).next here r
  right f k = rw w (looks_right (l.on f k).next c here (l.on f k).carries)

  first : (f : Before) (k : Carries f carried) → flagged_ahead (l.on f k).next (piece_of here ∷ pieces left) ≡ flagged_ahead f (pieces all)
  first f k = ap (flagged_ahead (l.on f k).next) (sym (pieces_cut rest here left cut)) ∙ (l.on f k).leads

  pub looking_ends : (comes : Bool) → r ≡ Break comes → (f : Before) → Carries f carried → comes ≡ flagged_ahead f (pieces all)
  looking_ends true z f k = sym ((rw z at (right f k)) (pieces left)) ∙ first f k
  looking_ends false z f k = sym ((rw z at (right f k)) (pieces left)) ∙ first f k

  pub looking_on : (g : Carried) → r ≡ Continue g → Looking all carried g left
  looking_on g z =
      record {
        on = λ f k.
            let p : Looks (l.on f k).next here g = rw z at (right f k) in
            record { next = p.next; carries = p.carries; leads = sym (p.ahead (pieces left)) ∙ first f k };
      }

pub looking_none : {all rest : List ℕ} {carried c : Carried} → Looking all carried c rest → length rest ≡ 0
    → (f : Before) → Carries f carried → false ≡ flagged_ahead f (pieces all)
unfolding flagged_ahead
looking_none {all} {rest} {carried} {c} l h f k =
    ap (flagged_ahead (l.on f k).next) (sym (pieces_none rest (omega arith))) ∙ (l.on f k).leads

-- how far records stay
pub stays_all : (later : Bool) (h : Held) → h.last ≡ h.records → h.records ≡ stay_to later h
unfolding stay_to
stays_all true h e = refl
stays_all false h e = sym e

pub stays_yes : (later : Bool) (h : Held) → later ≡ true → h.records ≡ stay_to later h
unfolding stay_to
stays_yes later h e = rw e

pub stays_no : (later : Bool) (h : Held) → later ≡ false → h.last ≡ stay_to later h
unfolding stay_to
stays_no later h e = rw e

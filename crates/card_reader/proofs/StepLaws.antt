-- One step of the reader, and the steps over a card: what is still to come, from here, gives the whole. Assumes nothing.
use Prim.Native.Nat.{ℕ, suc, ◌+◌, ◌-◌, ◌<◌}
use native.Mathlib.Omega.{arith}
use native.Mathlib.Numerals.{add-one}
use mathlib.Core.Path.{◌≡◌, refl, sym, ap, ◌∙◌}
use mathlib.Core.Bool.{Bool, true, false, not, ◌&&◌}
use mathlib.Core.List.{List, [], ◌∷◌}
use lib.Dec.{eqb, eqb-suc-suc}
use lib.ListN.{length, get_or}
use borrow.Author.Tests.{eq-eqb, ne_eqb}
use Rattle.cards.specs.Moments.{Record}
use Rattle.cards.specs.Blocks.{Block, block_of, piece_of, pieces, shape}
use Rattle.cards.specs.Reading.{Before, start, runs_on, after, stays, goes, fate, fine, bad, last_place, some, open_at_gap, fault_from, read_by, read_pieces, read}
use Rattle.cards.specs.Counting.{opening_of, closed}
use Rattle.cards.specs.Counting
use Rattle.cards.proofs.Tests.{and_no}
use Rattle.cards.proofs.BlockLaws.{good_written}
use Rattle.cards.proofs.FateLaws.{stays_good, fault_stays, fault_open, fault_goes}
use Rattle.cards.proofs.PieceLaws.{pieces_none}
use Rattle.card_block.proofs.PieceEnds.{Cut, pieces_cut}
use Rattle.card_block.specs.declared.Carried.{Carried}
use Rattle.card_block.specs.declared.Reason.{Reason}
use Rattle.card_block.specs.declared.Reason.TheVariants.{Shape}
use Rattle.card_block.specs.declared.moments.Moment.{Moment}
use Rattle.std.specs.Bool.{⊤}
use Rattle.std.proofs.Common.{Option, Some, None, Result, Ok, Err, is_some, is_none, ◌⊎◌, inl, inr}
use Rattle.card_block.specs.Judging.{open_at, judgement, nothing, Carries, meant, Kept, Judges}
use Rattle.card_block.proofs.Judgements.{judgement_right, carries_start}
use Rattle.card_block.proofs.StayLaws.{next_is, count_byte}
use Rattle.card_reader.specs.declared.Onward.{Onward}
use Rattle.card_reader.specs.declared.Stop.{Stop}
use Rattle.card_reader.specs.declared.Stop.TheVariants.{Goes, Open}
use Rattle.card_reader.specs.Finding.{Finds}
use Rattle.card_reader.specs.Stepping.{onward_by, stepped_by, stepped_to, stepped}

-- the code's tests
pub gap_open : (carried next : Carried) (records : ℕ) → 0 < next.next → (next.next - 1 ≡ carried.next → ⊥) → is_some carried.moment ≡ true
    → Err Open ≡ stepped_by carried next records
unfolding stepped_by onward_by
gap_open carried next records h e f = rw (next_is next.next carried.next h, ne_eqb (next.next - 1) carried.next e) (go carried.moment f)
  where
    go : (m : Option Moment) → is_some m ≡ true → Err Open ≡ onward_by false (is_none m) next records
    go None f = absurd (cc)
    go (Some m) f = refl

pub goes_on : (carried next : Carried) (records : ℕ) → 0 < next.next
    → is_some carried.moment ≡ false ⊎ next.next - 1 ≡ carried.next
    → Ok (record { carried = next; anew = not (eqb (next.next - 1) carried.next); records = records }) ≡ stepped_by carried next records
unfolding stepped_by onward_by
goes_on carried next records h e = rw (next_is next.next carried.next h) (go (eqb (next.next - 1) carried.next) refl carried.moment e)
  where
    go : (p : Bool) → eqb (next.next - 1) carried.next ≡ p → (m : Option Moment) → is_some m ≡ false ⊎ next.next - 1 ≡ carried.next
        → Ok (record { carried = next; anew = not p; records = records }) ≡ onward_by p (is_none m) next records
    go true q m e = refl
    go false q None e = refl
    go false q (Some m) (inl e) = absurd (cc)
    go false q (Some m) (inr e) = absurd (let f = eq-eqb (next.next - 1) carried.next e in cc)

pub stepped_bad : (bytes : List ℕ) (c : Carried) (why : Reason) → judgement bytes c ≡ Err why → Err (Goes why) ≡ stepped bytes c
unfolding stepped stepped_to
stepped_bad bytes c why e = rw e

pub stepped_on : (bytes : List ℕ) (c g : Carried) (records : ℕ) (r : Result Onward Stop) → judgement bytes c ≡ Ok g → records ≡ get_or bytes 1 0
    → r ≡ stepped_by c g records → r ≡ stepped bytes c
unfolding stepped stepped_to
stepped_on bytes c g records r e f h = h ∙ rw (e, f)

-- the reader goes on past a block
pub record Passes (f : Before) (bytes : List ℕ) (o : Onward) : Type 0 where
  pub stay : fate f (piece_of bytes) ≡ stays (block_of bytes)
  pub carries : Carries (after f (block_of bytes)) o.carried
  pub anew : o.anew ≡ not (runs_on f.next (block_of bytes))
  pub count : o.records ≡ length (block_of bytes).records
  pub closed : open_at_gap f (block_of bytes) ≡ false

-- a step is right
abbrev pub Steps : Before → List ℕ → Result Onward Stop → Type 0
Steps f bytes (Ok o) = Passes f bytes o
Steps f bytes (Err (Goes why)) = fate f (piece_of bytes) ≡ goes (meant why)
Steps f bytes (Err Open) = (fate f (piece_of bytes) ≡ stays (block_of bytes)) × (open_at_gap f (block_of bytes) ≡ true)

some_held : (rs : List Record) (m : Option Moment) → open_at m ≡ opening_of rs → some rs ≡ not (is_none m)
unfolding open_at closed opening_of some
some_held [] None e = refl
some_held [] (Some m) e = absurd (let z : suc m.more ≡ 0 = ap (λ (o : Counting.Open). o.count) e in omega arith)
some_held (r ∷ rs) None e = absurd (let z : 0 ≡ suc (length rs) = ap (λ (o : Counting.Open). o.count) e in omega arith)
some_held (r ∷ rs) (Some m) e = refl

pub step_right : (f : Before) (c : Carried) (bytes : List ℕ) → Carries f c → Steps f bytes (stepped bytes c)
unfolding stepped stepped_to stepped_by onward_by
step_right f c bytes h = go (judgement bytes c) (judgement_right f c bytes h)
  where
    b : Block
    b = block_of bytes

    on_next : (g : Carried) → Kept f bytes g → eqb g.next (suc c.next) ≡ runs_on f.next b
    on_next g k = rw (k.carries.next, h.next) (unfold after runs_on in eqb-suc-suc b.number f.next)

    counted : fate f (piece_of bytes) ≡ stays b → get_or bytes 1 0 ≡ length b.records
    counted e = ap (λ (l : List ℕ). get_or l 1 0) (good_written bytes b (stays_good f (piece_of bytes) b e).0).shown ∙ count_byte b

    at_gap : (p q : Bool) → runs_on f.next b ≡ p → is_none c.moment ≡ q → open_at_gap f b ≡ (not q && not p)
    at_gap p q e w = unfold open_at_gap in rw (some_held f.opened c.moment h.held, e, w)

    on : (g : Carried) → Kept f bytes g → (p q : Bool) → runs_on f.next b ≡ p → is_none c.moment ≡ q → Steps f bytes (onward_by p q g (get_or bytes 1 0))
    on g k true q e w = record { stay = k.stays; carries = k.carries; anew = rw e; count = counted k.stays; closed = at_gap true q e w ∙ and_no (not q) }
    on g k false true e w = record { stay = k.stays; carries = k.carries; anew = rw e; count = counted k.stays; closed = at_gap false true e w }
    on g k false false e w = (k.stays, at_gap false false e w)

    go : (j : Result Carried Reason) → Judges f bytes j → Steps f bytes (stepped_to bytes c j)
    go (Ok g) k = on g k (eqb g.next (suc c.next)) (is_none c.moment) (sym (on_next g k)) refl
    go (Err why) k = k

-- a card under way: the pieces of the rest, from what stands here, give what the reader finds
pub record Reached (card : List ℕ) (c : Carried) (place held : ℕ) (rest : List ℕ) : Type 0 where
  pub before : Before
  pub carries : Carries before c
  pub leads : fault_from place held before (pieces rest) ≡ fault_from 0 0 start (pieces card)

pub reached_start : (card : List ℕ) → Reached card nothing 0 0 card
reached_start card = record { before = start; carries = carries_start; leads = refl }

module _ {card : List ℕ} {c : Carried} {place held : ℕ} {rest : List ℕ} (r : Reached card c place held rest) (here left : List ℕ) (cut : Cut rest here left)
    (j : Result Onward Stop) (w : j ≡ stepped here c) where
  right : Steps r.before here j
  right = rw w (step_right r.before c here r.carries)

  here_fault : fault_from place held r.before (piece_of here ∷ pieces left) ≡ fault_from 0 0 start (pieces card)
  here_fault = ap (fault_from place held r.before) (sym (pieces_cut rest here left cut)) ∙ r.leads

  pub reached_bad : (why : Reason) → j ≡ Err (Goes why) → fault_from 0 0 start (pieces card) ≡ bad place (meant why)
  reached_bad why k = sym here_fault ∙ fault_goes place held r.before (piece_of here) (pieces left) (meant why) (rw k at right)

  pub reached_open : j ≡ Err Open → fault_from 0 0 start (pieces card) ≡ bad held shape
  reached_open k =
      let both : (fate r.before (piece_of here) ≡ stays (block_of here)) × (open_at_gap r.before (block_of here) ≡ true) = rw k at right in
      sym here_fault ∙ fault_open place held r.before (piece_of here) (pieces left) (block_of here) both.0 both.1

  past : (o : Onward) → j ≡ Ok o → (held₁ : ℕ) → held₁ ≡ last_place held place (block_of here).records → Reached card o.carried (place + 1) held₁ left
  past o k held₁ f =
      let p : Passes r.before here o = rw k at right in
      record {
        before = after r.before (block_of here);
        carries = p.carries;
        leads =
            rw (f, add-one)
            (sym (fault_stays place held r.before (piece_of here) (pieces left) (block_of here) p.stay p.closed) ∙ here_fault);
      }

  last_some : (rs : List Record) → (length rs ≡ 0 → ⊥) → place ≡ last_place held place rs
  unfolding last_place
  last_some [] n = absurd (n refl)
  last_some (x ∷ xs) n = refl

  last_none : (rs : List Record) → length rs ≡ 0 → held ≡ last_place held place rs
  unfolding last_place
  last_none [] n = refl
  last_none (x ∷ xs) n = absurd (omega arith)

  -- past a block with records, and past one with none
  pub reached_some : (o : Onward) → j ≡ Ok o → (o.records ≡ 0 → ⊥) → Reached card o.carried (place + 1) place left
  reached_some o k n =
      let p : Passes r.before here o = rw k at right in
      past o k place (last_some (block_of here).records (λ z. n (p.count ∙ z)))

  pub reached_none : (o : Onward) → j ≡ Ok o → o.records ≡ 0 → Reached card o.carried (place + 1) held left
  reached_none o k n =
      let p : Passes r.before here o = rw k at right in
      past o k held (last_none (block_of here).records (sym p.count ∙ n))

-- at the end
module _ {card : List ℕ} {c : Carried} {place held : ℕ} {rest : List ℕ} (r : Reached card c place held rest) (h : length rest ≡ 0) where
  end_fault : fault_from place held r.before [] ≡ fault_from 0 0 start (pieces card)
  end_fault = ap (fault_from place held r.before) (sym (pieces_none rest (omega arith))) ∙ r.leads

  some_open : some r.before.opened ≡ not (is_none c.moment)
  some_open = some_held r.before.opened c.moment r.carries.held

  pub reached_end_open : is_some c.moment ≡ true → fault_from 0 0 start (pieces card) ≡ bad held shape
  unfolding fault_from
  reached_end_open n = sym end_fault ∙ rw (some_open, fault_from) (go c.moment n)
    where
      go : (m : Option Moment) → is_some m ≡ true → elim (not (is_none m)) [ true ↦ bad held shape | false ↦ fine ] ≡ bad held shape
      go None e = absurd (cc)
      go (Some m) e = refl

  pub reached_end_fine : is_some c.moment ≡ false → fault_from 0 0 start (pieces card) ≡ fine
  unfolding fault_from
  reached_end_fine n = sym end_fault ∙ rw (some_open, fault_from) (go c.moment n)
    where
      go : (m : Option Moment) → is_some m ≡ false → elim (not (is_none m)) [ true ↦ bad held shape | false ↦ fine ] ≡ fine
      go None e = refl
      go (Some m) e = absurd (cc)

-- what the reader then finds
pub finds_fine : (card : List ℕ) (done : ⊤) → fault_from 0 0 start (pieces card) ≡ fine → Finds card (Ok done)
unfolding read read_pieces read_by
finds_fine card done e = rw e

pub finds_bad : (card : List ℕ) (place : ℕ) (why : Reason) → fault_from 0 0 start (pieces card) ≡ bad place (meant why) → Finds card (Err (record { place = place; why = why }))
unfolding read read_pieces read_by
finds_bad card place why e = rw e

pub finds_open : (card : List ℕ) (place : ℕ) → fault_from 0 0 start (pieces card) ≡ bad place shape → Finds card (Err (record { place = place; why = Shape }))
unfolding read read_pieces read_by meant
finds_open card place e = rw e

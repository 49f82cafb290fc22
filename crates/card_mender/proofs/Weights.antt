-- What weighing a piece, and looking at one, come to is what mending keeps, wherever what is handed over carries what stands before the piece.
-- Assumes nothing.
use Prim.Native.Nat.{ℕ, zero, suc, ◌+◌, ◌-◌, ◌*◌, ◌≤◌}
use native.Mathlib.Omega.{arith}
use mathlib.Core.Path.{◌≡◌, refl, sym, ap, ◌∙◌}
use mathlib.Core.Bool.{Bool, true, false, ◌&&◌, ◌||◌}
use mathlib.Core.List.{List, ◌∷◌}
use lib.Dec.{eqb, eqb-suc-suc}
use lib.ListN.{length, take, drop, get_or}
use lib.Seq.{drop-drop}
use Rattle.cards.specs.Moments.{Record, flagged, past_first}
use Rattle.cards.specs.Blocks.{record_of, block_of, Piece, piece_of}
use Rattle.cards.specs.Reading.{Before, runs_on, after, stays, goes, fate}
use Rattle.cards.specs.Mending.{from_first, to_last}
use Rattle.cards.specs.Piecewise.{flagged_ahead}
use Rattle.cards.proofs.FateLaws.{stays_good}
use Rattle.cards.proofs.Ahead.{ahead_on, ahead_gap, ahead_goes}
use Rattle.card_block.specs.declared.Carried.{Carried}
use Rattle.std.proofs.Common.{Result, Ok, Err}
use Rattle.std.specs.declared.ops.ControlFlow.{ControlFlow}
use Rattle.std.specs.declared.ops.ControlFlow.TheVariants.{Break, Continue}
use Rattle.card_block.specs.declared.Reason.{Reason}
use Rattle.card_block.specs.Shapes.{records_from, Shaped}
use Rattle.card_block.specs.Judging.{judgement, Carries, meant, Kept, Judges}
use Rattle.card_block.proofs.Judgements.{judgement_right}
use Rattle.card_block.proofs.JudgeLaws.{block_records}
use Rattle.card_block.proofs.StayLaws.{good_shaped}
use Rattle.card_mender.specs.declared.Held.{Held}
use Rattle.card_mender.specs.Weighing.{first_count, whole_count, records_in, held_by, kept_by, weighed_by, weighed, looked_to, looked_on, looked_gap, looked_by, looked, stay_to}
use Rattle.card_mender.proofs.FlagLaws.{records_drop, first_drops, first_few, whole_takes, whole_few, length_from}

-- the records of a block that stays
records_are : (f : Before) (bytes : List ℕ) → fate f (piece_of bytes) ≡ stays (block_of bytes) → records_in bytes ≡ (block_of bytes).records
unfolding records_in
records_are f bytes e = sym (block_records bytes (good_shaped bytes (block_of bytes) (stays_good f (piece_of bytes) (block_of bytes) e).0).few)

runs_next : (f : Before) (c g : Carried) (bytes : List ℕ) → Carries f c → Kept f bytes g → eqb g.next (suc c.next) ≡ runs_on f.next (block_of bytes)
unfolding after runs_on
runs_next f c g bytes h k = rw (k.carries.next, h.next) (eqb-suc-suc (block_of bytes).number f.next)

-- a look is right
pub record Looks (f : Before) (bytes : List ℕ) (g : Carried) : Type 0 where
  pub next : Before
  pub carries : Carries next g
  pub ahead : (ps : List Piece) → flagged_ahead f (piece_of bytes ∷ ps) ≡ flagged_ahead next ps

abbrev pub LooksRight : Before → List ℕ → ControlFlow Bool Carried → Type 0
LooksRight f bytes (Break true) = (ps : List Piece) → flagged_ahead f (piece_of bytes ∷ ps) ≡ true
LooksRight f bytes (Break false) = (ps : List Piece) → flagged_ahead f (piece_of bytes ∷ ps) ≡ false
LooksRight f bytes (Continue g) = Looks f bytes g

pub looks_right : (f : Before) (c : Carried) (bytes : List ℕ) → Carries f c → LooksRight f bytes (looked bytes c)
unfolding looked looked_by looked_gap looked_on looked_to
looks_right f c bytes h = go (judgement bytes c) (judgement_right f c bytes h)
  where
    on : (g : Carried) → Kept f bytes g → runs_on f.next (block_of bytes) ≡ true → (q : Bool) → flagged (records_in bytes) ≡ q
        → LooksRight f bytes (looked_to q g)
    on g k r true e = λ ps. ahead_on f (piece_of bytes) ps (block_of bytes) k.stays r ∙ rw (ap flagged (sym (records_are f bytes k.stays)), e)
    on g k r false e =
        record {
          next = after f (block_of bytes);
          carries = k.carries;
          ahead = λ ps. ahead_on f (piece_of bytes) ps (block_of bytes) k.stays r ∙ rw (ap flagged (sym (records_are f bytes k.stays)), e);
        }

    stay : (g : Carried) → Kept f bytes g → (q : Bool) → runs_on f.next (block_of bytes) ≡ q → LooksRight f bytes (looked_gap q bytes g)
    stay g k true r = on g k r (flagged (records_in bytes)) refl
    stay g k false r = λ ps. ahead_gap f (piece_of bytes) ps (block_of bytes) k.stays r

    go : (j : Result Carried Reason) → Judges f bytes j → LooksRight f bytes (looked_by bytes c j)
    go (Ok g) k = stay g k (eqb g.next (suc c.next)) (sym (runs_next f c g bytes h k))
    go (Err why) k = record { next = f; carries = h; ahead = λ ps. ahead_goes f (piece_of bytes) ps (meant why) k }

-- a weighing is right
pub record Weighs (f : Before) (begun : Bool) (bytes : List ℕ) (h : Held) : Type 0 where
  pub stay : fate f (piece_of bytes) ≡ stays (block_of bytes)
  pub carries : Carries (after f (block_of bytes)) h.carried
  pub begins : h.begun ≡ ((begun && runs_on f.next (block_of bytes)) || flagged (block_of bytes).records)
  pub count : h.records ≡ length (block_of bytes).records
  pub few : h.records ≤ 21
  pub whole : length bytes ≡ 512
  pub order : h.«from» ≤ h.last
  pub inside : h.last ≤ h.records
  pub keeps : (later : Bool) → to_last later (from_first (begun && runs_on f.next (block_of bytes)) (block_of bytes).records)
      ≡ records_from (stay_to later h - h.«from») (drop (6 + 24 * h.«from») bytes)

abbrev pub WeighsRight : Before → Bool → List ℕ → Result Held Reason → Type 0
WeighsRight f begun bytes (Ok h) = Weighs f begun bytes h
WeighsRight f begun bytes (Err why) = fate f (piece_of bytes) ≡ goes (meant why)

records_take : (k n : ℕ) (bs : List ℕ) → n ≤ k → take n (records_from k bs) ≡ records_from n bs
unfolding records_from
records_take k zero bs h = refl
records_take zero (suc n) bs h = absurd (omega arith)
records_take (suc k) (suc n) bs h = ap (λ (l : List Record). record_of (take 24 bs) ∷ l) (records_take k n (drop 24 bs) (omega arith))

-- the records from a place on, up to the last that stays
keeps_part : (bytes : List ℕ) (k u : ℕ) (h : Held) (later : Bool) → u ≤ k → h.records ≡ k → h.«from» ≡ u
    → h.last ≡ u + whole_count (records_from (k - u) (drop (6 + 24 * u) bytes))
    → to_last later (records_from (k - u) (drop (6 + 24 * u) bytes)) ≡ records_from (stay_to later h - h.«from») (drop (6 + 24 * h.«from») bytes)
unfolding to_last stay_to
keeps_part bytes k u h true few a b c = rw (a, b)
keeps_part bytes k u h false few a b c =
    let n : u + whole_count (records_from (k - u) (drop (6 + 24 * u) bytes)) - u ≡ whole_count (records_from (k - u) (drop (6 + 24 * u) bytes)) = omega arith in
    let small : whole_count (records_from (k - u) (drop (6 + 24 * u) bytes)) ≤ k - u =
    omega (arith, whole_few (records_from (k - u) (drop (6 + 24 * u) bytes)), length_from (k - u) (drop (6 + 24 * u) bytes)) in
    rw (c, b, n)
    (sym (whole_takes (records_from (k - u) (drop (6 + 24 * u) bytes)))
    ∙ records_take (k - u) (whole_count (records_from (k - u) (drop (6 + 24 * u) bytes))) (drop (6 + 24 * u) bytes) small)

pub weighs_right : (f : Before) (c : Carried) (begun : Bool) (bytes : List ℕ) → Carries f c → WeighsRight f begun bytes (weighed bytes c begun)
unfolding weighed weighed_by kept_by held_by from_first
weighs_right f c begun bytes h = go (judgement bytes c) (judgement_right f c bytes h)
  where
    k : ℕ
    k = get_or bytes 1 0

    at : ℕ → List Record
    at u = records_from (k - u) (drop (6 + 24 * u) bytes)

    all : records_in bytes ≡ at 0
    all = unfold records_in in let z : k - 0 ≡ k = omega arith in rw z

    past : (u : ℕ) → u ≤ k → drop u (records_in bytes) ≡ at u
    past u few = unfold records_in in records_drop k u (drop 6 bytes) few ∙ ap (records_from (k - u)) (drop-drop (24 * u) 6 bytes)

    long : length (records_in bytes) ≡ k
    long = unfold records_in in length_from k (drop 6 bytes)

    shaped : fate f (piece_of bytes) ≡ stays (block_of bytes) → Shaped bytes
    shaped e = good_shaped bytes (block_of bytes) (stays_good f (piece_of bytes) (block_of bytes) e).0

    stay : (g : Carried) → Kept f bytes g → (on : Bool) → (begun && runs_on f.next (block_of bytes)) ≡ on
        → Weighs f begun bytes (held_by on (records_in bytes) g k)
    stay g w true e =
        let are : records_in bytes ≡ (block_of bytes).records = records_are f bytes w.stays in
        record {
          stay = w.stays;
          carries = w.carries;
          begins = rw e refl;
          count = sym long ∙ ap length are;
          few = (shaped w.stays).few;
          whole = (shaped w.stays).whole;
          order = omega arith;
          inside = omega (arith, whole_few (records_in bytes), long);
          keeps = λ later.
              rw e
              (ap (to_last later) (sym are ∙ all)
              ∙ keeps_part bytes k 0 (held_by true (records_in bytes) g k) later (omega arith) refl refl (omega (arith, ap whole_count all)));
        }
    stay g w false e =
        let are : records_in bytes ≡ (block_of bytes).records = records_are f bytes w.stays in
        let some : first_count (records_in bytes) ≤ k = omega (arith, first_few (records_in bytes), long) in
        record {
          stay = w.stays;
          carries = w.carries;
          begins = rw e (ap flagged are);
          count = sym long ∙ ap length are;
          few = (shaped w.stays).few;
          whole = (shaped w.stays).whole;
          order = omega arith;
          inside =
              omega (
                arith,
                ap whole_count (past (first_count (records_in bytes)) some),
                whole_few (at (first_count (records_in bytes))),
                length_from (k - first_count (records_in bytes)) (drop (6 + 24 * first_count (records_in bytes)) bytes),
                some,
              );
          keeps = λ later.
              rw e
              (ap (λ (l : List Record). to_last later (past_first l)) (sym are)
              ∙ ap (to_last later) (sym (first_drops (records_in bytes)) ∙ past (first_count (records_in bytes)) some)
              ∙ keeps_part bytes k (first_count (records_in bytes)) (held_by false (records_in bytes) g k) later some refl refl
              (ap (λ (l : List Record). first_count (records_in bytes) + whole_count l) (past (first_count (records_in bytes)) some)));
        }

    go : (j : Result Carried Reason) → Judges f bytes j → WeighsRight f begun bytes (weighed_by bytes c begun j)
    go (Ok g) w = stay g w (begun && eqb g.next (suc c.next)) (ap (λ (q : Bool). begun && q) (sym (runs_next f c g bytes h w)))
    go (Err why) w = w

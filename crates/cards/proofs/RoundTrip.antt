-- Reading a written card gives the moments, none anew. Assumes nothing.
use Prim.Native.Nat.{ℕ, zero, suc, ◌+◌, ◌*◌, ◌≤◌}
use native.Mathlib.Omega.{arith}
use mathlib.Core.Path.{◌≡◌, refl, sym, ap, ◌∙◌}
use mathlib.Core.Bool.{true, false}
use mathlib.Core.List.{List, [], ◌∷◌, ◌++◌, map, append-nil, append_assoc}
use lib.ListN.{length, take, drop, length-take, length-drop, take-append-drop}
use borrow.Author.Tests.{eq-eqb}
use Rattle.cards.specs.Bytes.{joined}
use Rattle.cards.specs.Moments.{Record, Moment, flagged, open_of, unbroken}
use Rattle.cards.specs.Blocks.{Block}
use Rattle.cards.specs.Reading.{Before, start, runs_on, line, after, some, ahead, stretches, taken, read}
use Rattle.cards.specs.Writing.{Every, RightMoment, records_of, fill, written, write}
use Rattle.cards.proofs.MomentLaws.{open_none, open_unflagged}
use Rattle.cards.proofs.SplitLaws.{open_both, unbroken_rest, unbroken_first}
use Rattle.cards.proofs.MomentRecords.{open_moments, unbroken_moments, moments_back, says_moments}
use Rattle.cards.proofs.BlockLaws.{Says, Holds}
use Rattle.cards.proofs.BytesLaws.{four_bytes}
use Rattle.cards.proofs.FateLaws.{Stays, Fine}
use Rattle.cards.proofs.MendLaws.{line_on, on_closed}
use Rattle.cards.proofs.StretchLaws.{stretch_on}
use Rattle.cards.proofs.Readings.{takes}

-- what stands before records that go on, in a card being written: no breach among them and the open ones, and at their end nothing open
record Ready (f : Before) (rs : List Record) : Type 0 where
  plain : flagged f.opened ≡ false
  shaped : unbroken (f.opened ++ rs) ≡ true
  closed : open_of (f.opened ++ rs) ≡ []

-- with no record left nothing is open
ready_none : (f : Before) → Ready f [] → some f.opened ≡ false
unfolding some
ready_none f r =
    let e : f.opened ≡ [] = sym (open_none f.opened r.plain) ∙ ap open_of (sym (append-nil f.opened)) ∙ r.closed in
    rw e

-- past a block that runs on
ready_after : (f : Before) (b : Block) (rs : List Record) → runs_on f.next b ≡ true → Ready f (b.records ++ rs) → Ready (after f b) rs
unfolding after
ready_after f b rs e r =
    let l : line f b ≡ f.opened ++ b.records = line_on f b e in
    record {
      plain = open_unflagged (line f b);
      shaped = rw l (unbroken_rest (f.opened ++ b.records) rs (rw append_assoc r.shaped));
      closed = rw l (sym (open_both (f.opened ++ b.records) rs) ∙ rw append_assoc r.closed);
    }

ready_stays : (f : Before) (b : Block) (rs : List Record) → runs_on f.next b ≡ true → f.next ≤ b.number → Ready f (b.records ++ rs) → Stays f b
ready_stays f b rs e h r =
    record { shaped = rw (line_on f b e) (unbroken_first (f.opened ++ b.records) rs (rw append_assoc r.shaped)); above = h }

-- the reader finds no fault in filled blocks
fill_fine : (turns : ℕ) (f : Before) (rs : List Record) → length rs ≤ turns → Ready f rs → Fine f (fill turns f.next rs)
unfolding fill after
fill_fine zero f [] h r = ready_none f r
fill_fine zero f (x ∷ rs) h r = absurd (omega arith)
fill_fine (suc turns) f [] h r = ready_none f r
fill_fine (suc turns) f (x ∷ rs) h r =
    let b : Block = record { number = f.next; records = take 21 (x ∷ rs) } in
    let e : runs_on f.next b ≡ true = unfold runs_on in eq-eqb f.next f.next refl in
    let r₁ : Ready f (take 21 (x ∷ rs) ++ drop 21 (x ∷ rs)) = rw (take-append-drop 21 (x ∷ rs)) r in (
      ready_stays f b (drop 21 (x ∷ rs)) e (omega arith) r₁,
      on_closed f b e,
      fill_fine turns (after f b) (drop 21 (x ∷ rs)) (omega (arith, length-drop 21 (x ∷ rs))) (ready_after f b (drop 21 (x ∷ rs)) e r₁),
    )

-- they are one stretch
fill_stretch : (turns n : ℕ) (rs : List Record) → length rs ≤ turns → stretches n (fill turns n rs) ≡ rs ∷ []
unfolding fill stretches ahead
fill_stretch zero n [] h = refl
fill_stretch zero n (x ∷ rs) h = absurd (omega arith)
fill_stretch (suc turns) n [] h = refl
fill_stretch (suc turns) n (x ∷ rs) h =
    stretch_on n (record { number = n; records = take 21 (x ∷ rs) }) (fill turns (suc n) (drop 21 (x ∷ rs))) (unfold runs_on in eq-eqb n n refl)
    ∙ rw (fill_stretch turns (suc n) (drop 21 (x ∷ rs)) (omega (arith, length-drop 21 (x ∷ rs)))) (ap (λ (l : List Record). l ∷ []) (take-append-drop 21 (x ∷ rs)))

-- each can stand on a card, while numbers last: 21 records for each of 2^32 numbers
says_take : (k : ℕ) (rs : List Record) → Every Says rs → Every Says (take k rs)
says_take zero rs h = tt
says_take (suc k) [] h = tt
says_take (suc k) (r ∷ rs) h = (h.0, says_take k rs h.1)

says_drop : (k : ℕ) (rs : List Record) → Every Says rs → Every Says (drop k rs)
says_drop zero rs h = h
says_drop (suc k) [] h = tt
says_drop (suc k) (r ∷ rs) h = says_drop k rs h.1

fill_holds : (turns n : ℕ) (rs : List Record) → (1 ≤ length rs → 21 * n + length rs ≤ 90194313216) → Every Says rs → Every Holds (fill turns n rs)
unfolding fill
fill_holds zero n rs h s = tt
fill_holds (suc turns) n [] h s = tt
fill_holds (suc turns) n (x ∷ rs) h s =
    let room : 21 * n + suc (length rs) ≤ 90194313216 = h (omega arith) in (
      record {
        number = four_bytes n (omega arith);
        few = omega (arith, length-take 21 (x ∷ rs));
        records = says_take 21 (x ∷ rs) s;
      },
      fill_holds turns (suc n) (drop 21 (x ∷ rs)) (λ k. omega (arith, length-drop 21 (x ∷ rs), k, room)) (says_drop 21 (x ∷ rs) s),
    )

-- "Write, read": the card of moments is read as one stretch of these moments
pub round_trip : (ms : List Moment) → Every RightMoment ms → length (joined (map records_of ms)) ≤ 90194313216 → read (write ms) ≡ taken (ms ∷ [])
unfolding write written start
round_trip ms h few =
    let rs : List Record = joined (map records_of ms) in
    takes (write ms) (ms ∷ []) (written ms)
    (record {
      shown = refl;
      holds = fill_holds (length rs) 0 rs (λ k. omega arith) (says_moments ms h);
      unfaulted = fill_fine (length rs) start rs (omega arith)
          (record { plain = unfold flagged in refl; shaped = unbroken_moments ms h; closed = open_moments ms h });
      said = rw (fill_stretch (length rs) 0 rs (omega arith)) (ap (λ (l : List Moment). l ∷ []) (sym (moments_back ms h)));
    })

-- A log that is written is read back: the rows of right moments are written as those moments' card, and two outcomes of `write` are the same.
-- Assumes nothing.
use Prim.Native.Nat.{ℕ, ◌≤◌}
use mathlib.Core.Path.{◌≡◌, refl, sym, ap, ◌∙◌}
use mathlib.Core.List.{List, [], ◌∷◌, ◌++◌, map}
use lib.ListN.{length, take, drop}
use lib.Seq.{take_at}
use Rattle.cards.specs.Bytes.{joined}
use Rattle.cards.specs.Moments.{Moment}
use Rattle.cards.specs.Reading.{taken, read}
use Rattle.cards.specs.Writing.{Every, RightMoment, records_of, written}
use Rattle.cards.specs.Writing as Writing
use Rattle.cards.proofs.RoundTrip.{round_trip}
use Rattle.std.proofs.Common.{Result, Ok, Err}
use Rattle.card_log.specs.declared.WriteError.{WriteError}
use Rattle.card_log.specs.declared.WriteError.TheVariants.{Wrong, NoRoom}
use Rattle.card_log.specs.Rows.{rows_in}
use Rattle.card_log.specs.Logging.{card_of, Writes, WritesTo}

-- the card of the rows is the card of the moments that they say
pub log_card : (rows : List ℕ) (ms : List Moment) → rows_in rows ≡ joined (map records_of ms) → card_of (rows_in rows) ≡ Writing.write ms
unfolding card_of Writing.write written
log_card rows ms e = rw e

-- "what is written is read back as the same moments"
pub log_back : (rows out out₁ : List ℕ) (n : ℕ) (ms : List Moment) → Every RightMoment ms → length (joined (map records_of ms)) ≤ 90194313216
    → rows_in rows ≡ joined (map records_of ms) → Writes rows out n out₁ → read (take n out₁) ≡ taken (ms ∷ [])
log_back rows out out₁ n ms right few e w =
    ap read
    (ap (take n) w.put ∙ take_at (card_of (rows_in rows)) (drop n out) n (sym w.count) ∙ log_card rows ms e)
    ∙ round_trip ms right few

pub written_once : (rows out : List ℕ) (r s : Result ℕ WriteError) (out₁ out₂ : List ℕ) → WritesTo rows out r out₁ → WritesTo rows out s out₂ → (r ≡ s) × (out₁ ≡ out₂)
written_once rows out (Ok n) (Ok m) out₁ out₂ p q =
    let same : n ≡ m = p.count ∙ sym q.count in
    (ap Ok same, p.put ∙ ap (λ (k : ℕ). card_of (rows_in rows) ++ drop k out) same ∙ sym q.put)
written_once rows out (Ok n) (Err Wrong) out₁ out₂ p q = absurd (q.wrong p.right)
written_once rows out (Ok n) (Err NoRoom) out₁ out₂ p q = absurd (q.small p.room)
written_once rows out (Err Wrong) (Ok m) out₁ out₂ p q = absurd (p.wrong q.right)
written_once rows out (Err Wrong) (Err Wrong) out₁ out₂ p q = (refl, p.same_out ∙ sym q.same_out)
written_once rows out (Err Wrong) (Err NoRoom) out₁ out₂ p q = absurd (p.wrong q.right)
written_once rows out (Err NoRoom) (Ok m) out₁ out₂ p q = absurd (p.small q.room)
written_once rows out (Err NoRoom) (Err Wrong) out₁ out₂ p q = absurd (q.wrong p.right)
written_once rows out (Err NoRoom) (Err NoRoom) out₁ out₂ p q = (refl, p.same_out ∙ sym q.same_out)

-- The first and the last flagged record, record by record. Assumes nothing.
use Prim.Native.Nat.{ℕ, zero, suc, ◌+◌, ◌-◌, ◌*◌, ◌≤◌, ◌<◌}
use native.Mathlib.Omega.{arith}
use native.Mathlib.Nat.{mul-suc}
use native.Mathlib.Numerals.{add-one}
use mathlib.Core.Path.{◌≡◌, refl, sym, ap, ◌∙◌}
use mathlib.Core.Bool.{Bool, true, false, not}
use mathlib.Core.List.{List, [], ◌∷◌, ◌++◌}
use lib.Dec.{eqb}
use lib.ListN.{length, take, drop, get_or}
use lib.Seq.{drop-drop}
use borrow.Author.Tests.{eq-eqb, ne_eqb}
use Rattle.cards.specs.Moments.{Record, flagged, whole, past_first}
use Rattle.cards.specs.Blocks.{record_of}
use Rattle.cards.proofs.Tests.{clash, or_none}
use Rattle.card_block.specs.Shapes.{records_from}
use Rattle.card_block.proofs.WalkLaws.{step, last_at}
use Rattle.card_mender.specs.Weighing.{first_count, whole_count}

-- what the counts say
pub first_drops : (rs : List Record) → drop (first_count rs) rs ≡ past_first rs
unfolding first_count past_first
first_drops [] = refl
first_drops (r ∷ rs) = go r.last (first_drops rs)
  where
    go : (q : Bool) → drop (first_count rs) rs ≡ past_first rs
        → drop (elim q [ true ↦ 1 | false ↦ suc (first_count rs) ]) (r ∷ rs) ≡ elim q [ true ↦ rs | false ↦ past_first rs ]
    go true ih = refl
    go false ih = ih

pub first_few : (rs : List Record) → first_count rs ≤ length rs
unfolding first_count
first_few [] = omega arith
first_few (r ∷ rs) = go r.last (first_few rs)
  where
    go : (q : Bool) → first_count rs ≤ length rs → elim q [ true ↦ 1 | false ↦ suc (first_count rs) ] ≤ suc (length rs)
    go true ih = omega arith
    go false ih = omega arith

pub whole_takes : (rs : List Record) → take (whole_count rs) rs ≡ whole rs
unfolding whole_count whole
whole_takes [] = refl
whole_takes (r ∷ rs) = go (flagged (r ∷ rs)) (whole_takes rs)
  where
    go : (q : Bool) → take (whole_count rs) rs ≡ whole rs
        → take (elim q [ true ↦ suc (whole_count rs) | false ↦ 0 ]) (r ∷ rs) ≡ elim q [ true ↦ r ∷ whole rs | false ↦ [] ]
    go true ih = ap (λ (l : List Record). r ∷ l) ih
    go false ih = refl

pub whole_few : (rs : List Record) → whole_count rs ≤ length rs
unfolding whole_count
whole_few [] = omega arith
whole_few (r ∷ rs) = go (flagged (r ∷ rs)) (whole_few rs)
  where
    go : (q : Bool) → whole_count rs ≤ length rs → elim q [ true ↦ suc (whole_count rs) | false ↦ 0 ] ≤ suc (length rs)
    go true ih = omega arith
    go false ih = omega arith

pub whole_flagged : (rs : List Record) → flagged rs ≡ not (eqb (whole_count rs) 0)
unfolding whole_count
whole_flagged [] = unfold flagged in refl
whole_flagged (r ∷ rs) = go (flagged (r ∷ rs))
  where
    go : (q : Bool) → q ≡ not (eqb (elim q [ true ↦ suc (whole_count rs) | false ↦ 0 ]) 0)
    go true = rw (ne_eqb (suc (whole_count rs)) 0 (λ e. omega arith))
    go false = refl

-- records one after the other
pub records_drop : (k n : ℕ) (bs : List ℕ) → n ≤ k → drop n (records_from k bs) ≡ records_from (k - n) (drop (24 * n) bs)
unfolding records_from
records_drop k zero bs h = let z : k - 0 ≡ k = omega arith in rw z
records_drop zero (suc n) bs h = absurd (omega arith)
records_drop (suc k) (suc n) bs h =
    let z : suc k - suc n ≡ k - n = omega arith in
    let far : 24 + 24 * n ≡ 24 * suc n = omega (arith, mul-suc 24 n) in
    rw z (records_drop k n (drop 24 bs) (omega arith) ∙ rw (drop-drop (24 * n) 24 bs, far))

-- the first flagged record: what is passed, and what is still to come
pub record Firsts (piece : List ℕ) (records i : ℕ) : Type 0 where
  pub within : i ≤ records
  pub leads : i + first_count (records_from (records - i) (drop (6 + 24 * i) piece)) ≡ first_count (records_from records (drop 6 piece))

pub firsts_start : (piece : List ℕ) (records : ℕ) → Firsts piece records 0
firsts_start piece records = let z : records - 0 ≡ records = omega arith in record { within = omega arith; leads = rw z (omega arith) }

first_here : (r : Record) (rs : List Record) → r.last ≡ true → first_count (r ∷ rs) ≡ 1
unfolding first_count
first_here r rs e = rw (e, first_count)

first_on : (r : Record) (rs : List Record) → r.last ≡ false → first_count (r ∷ rs) ≡ suc (first_count rs)
unfolding first_count
first_on r rs e = rw (e, first_count)

module _ {piece : List ℕ} {records i : ℕ} (f : Firsts piece records i) where
  pub firsts_found : i < records → get_or piece (6 + 24 * i + 9) 0 ≡ 1 → i + 1 ≡ first_count (records_from records (drop 6 piece))
  firsts_found h e =
      let flag = last_at piece i ∙ eq-eqb (get_or piece (6 + 24 * i + 9) 0) 1 e in
      omega (arith, f.leads, ap first_count (step piece records i h), first_here (record_of (take 24 (drop (6 + 24 * i) piece))) (records_from (records - (i + 1)) (drop (6 + 24 * (i + 1)) piece)) flag)

  pub firsts_more : i < records → (get_or piece (6 + 24 * i + 9) 0 ≡ 1 → ⊥) → Firsts piece records (i + 1)
  firsts_more h n =
      let flag = last_at piece i ∙ ne_eqb (get_or piece (6 + 24 * i + 9) 0) 1 n in
      record {
        within = omega arith;
        leads = omega (arith, f.leads, ap first_count (step piece records i h), first_on (record_of (take 24 (drop (6 + 24 * i) piece))) (records_from (records - (i + 1)) (drop (6 + 24 * (i + 1)) piece)) flag);
      }

  pub firsts_none : records ≤ i → i ≡ first_count (records_from records (drop 6 piece))
  unfolding records_from first_count
  firsts_none h = let z : records - i ≡ 0 = omega arith in omega (arith, rw z at f.leads)

-- the last flagged record: the place past it so far
unfoldable pub last_by : ℕ → ℕ → List Record → ℕ
last_by last i [] = last
last_by last i (r ∷ rs) = elim r.last [ true ↦ last_by (suc i) (suc i) rs | false ↦ last_by last (suc i) rs ]

last_here : (last i : ℕ) (r : Record) (rs : List Record) → r.last ≡ true → last_by last i (r ∷ rs) ≡ last_by (suc i) (suc i) rs
unfolding last_by
last_here last i r rs e = rw (e, last_by)

last_on : (last i : ℕ) (r : Record) (rs : List Record) → r.last ≡ false → last_by last i (r ∷ rs) ≡ last_by last (suc i) rs
unfolding last_by
last_on last i r rs e = rw (e, last_by)

whole_here : (r : Record) (rs : List Record) → flagged (r ∷ rs) ≡ true → whole_count (r ∷ rs) ≡ suc (whole_count rs)
unfolding whole_count
whole_here r rs e = rw (e, whole_count)

whole_no : (r : Record) (rs : List Record) → flagged (r ∷ rs) ≡ false → whole_count (r ∷ rs) ≡ 0
unfolding whole_count
whole_no r rs e = rw (e, whole_count)

flagged_none : (r : Record) (rs : List Record) → r.last ≡ false → flagged rs ≡ false → flagged (r ∷ rs) ≡ false
unfolding flagged
flagged_none r rs a b = rw (a, b)

whole_plain : (rs : List Record) → flagged rs ≡ false → whole_count rs ≡ 0
whole_plain [] e = unfold whole_count in refl
whole_plain (r ∷ rs) e = whole_no r rs e

-- with a flagged record among them, it is the place past the last one; else it stays
last_plain : (last i : ℕ) (rs : List Record) → flagged rs ≡ false → last_by last i rs ≡ last
last_plain last i [] e = unfold last_by in refl
last_plain last i (r ∷ rs) e =
    let both : (r.last ≡ false) × (flagged rs ≡ false) = or_none r.last (flagged rs) (unfold flagged in e) in
    last_on last i r rs both.0 ∙ last_plain last (suc i) rs both.1

last_flagged : (last i : ℕ) (rs : List Record) → flagged rs ≡ true → last_by last i rs ≡ i + whole_count rs
last_flagged last i [] e = absurd (clash (unfold flagged in e))
last_flagged last i (r ∷ rs) e = go r.last refl (flagged rs) refl (last_flagged (suc i) (suc i) rs) (last_flagged last (suc i) rs)
  where
    go : (p : Bool) → r.last ≡ p → (q : Bool) → flagged rs ≡ q → (flagged rs ≡ true → last_by (suc i) (suc i) rs ≡ suc i + whole_count rs)
        → (flagged rs ≡ true → last_by last (suc i) rs ≡ suc i + whole_count rs) → last_by last i (r ∷ rs) ≡ i + whole_count (r ∷ rs)
    go true a true b ih₁ ih₂ = omega (arith, last_here last i r rs a, ih₁ b, whole_here r rs e)
    go true a false b ih₁ ih₂ = omega (arith, last_here last i r rs a, last_plain (suc i) (suc i) rs b, whole_here r rs e, whole_plain rs b)
    go false a true b ih₁ ih₂ = omega (arith, last_on last i r rs a, ih₂ b, whole_here r rs e)
    go false a false b ih₁ ih₂ = absurd (clash (sym (flagged_none r rs a b) ∙ e))

pub last_from : (n : ℕ) (rs : List Record) → last_by n n rs ≡ n + whole_count rs
last_from n rs = go (flagged rs) refl
  where
    go : (q : Bool) → flagged rs ≡ q → last_by n n rs ≡ n + whole_count rs
    go true e = last_flagged n n rs e
    go false e = omega (arith, last_plain n n rs e, whole_plain rs e)

-- the last flagged record: what is passed, and what is still to come
pub record Lasts (piece : List ℕ) (from records last i : ℕ) : Type 0 where
  pub after : from ≤ i
  pub within : i ≤ records
  pub inside : last ≤ i
  pub leads : last_by last i (records_from (records - i) (drop (6 + 24 * i) piece)) ≡ from + whole_count (records_from (records - from) (drop (6 + 24 * from) piece))

pub lasts_start : (piece : List ℕ) (from records : ℕ) → from ≤ records → Lasts piece from records from from
lasts_start piece from records h = record { after = omega arith; within = h; inside = omega arith; leads = last_from from (records_from (records - from) (drop (6 + 24 * from) piece)) }

module _ {piece : List ℕ} {from records last i : ℕ} (l : Lasts piece from records last i) where
  pub lasts_flag : i < records → get_or piece (6 + 24 * i + 9) 0 ≡ 1 → Lasts piece from records (i + 1) (i + 1)
  lasts_flag h e =
      let flag = last_at piece i ∙ eq-eqb (get_or piece (6 + 24 * i + 9) 0) 1 e in
      record {
        after = omega (arith, l.after);
        within = omega arith;
        inside = omega arith;
        leads =
            ap (λ (n : ℕ). last_by n n (records_from (records - (i + 1)) (drop (6 + 24 * (i + 1)) piece))) (add-one i)
            ∙ sym (last_here last i (record_of (take 24 (drop (6 + 24 * i) piece))) (records_from (records - (i + 1)) (drop (6 + 24 * (i + 1)) piece)) flag)
            ∙ ap (last_by last i) (sym (step piece records i h)) ∙ l.leads;
      }

  pub lasts_plain : i < records → (get_or piece (6 + 24 * i + 9) 0 ≡ 1 → ⊥) → Lasts piece from records last (i + 1)
  lasts_plain h n =
      let flag = last_at piece i ∙ ne_eqb (get_or piece (6 + 24 * i + 9) 0) 1 n in
      record {
        after = omega (arith, l.after);
        within = omega arith;
        inside = omega (arith, l.inside);
        leads =
            ap (λ (n : ℕ). last_by last n (records_from (records - (i + 1)) (drop (6 + 24 * (i + 1)) piece))) (add-one i)
            ∙ sym (last_on last i (record_of (take 24 (drop (6 + 24 * i) piece))) (records_from (records - (i + 1)) (drop (6 + 24 * (i + 1)) piece)) flag)
            ∙ ap (last_by last i) (sym (step piece records i h)) ∙ l.leads;
      }

  pub lasts_end : records ≤ i → last ≡ from + whole_count (records_from (records - from) (drop (6 + 24 * from) piece))
  unfolding records_from last_by
  lasts_end h = let z : records - i ≡ 0 = omega arith in rw z at l.leads

-- one record more
pub records_snoc : (n : ℕ) (bs : List ℕ) → records_from (suc n) bs ≡ records_from n bs ++ (record_of (take 24 (drop (24 * n) bs)) ∷ [])
unfolding records_from
records_snoc zero bs = let z : 24 * 0 ≡ 0 = omega arith in refl
records_snoc (suc n) bs =
    let far : 24 + 24 * n ≡ 24 * suc n = omega (arith, mul-suc 24 n) in
    ap (λ (l : List Record). record_of (take 24 bs) ∷ l)
    (records_snoc n (drop 24 bs) ∙ ap (λ (l : List ℕ). records_from n (drop 24 bs) ++ (record_of (take 24 l) ∷ [])) (drop-drop (24 * n) 24 bs ∙ ap (λ (m : ℕ). drop m bs) far))

pub length_from : (n : ℕ) (bs : List ℕ) → length (records_from n bs) ≡ n
unfolding records_from
length_from zero bs = refl
length_from (suc n) bs = ap suc (length_from n (drop 24 bs))

-- The walk over a block's records with the open moment. Assumes nothing.
use Prim.Native.Nat.{ℕ, zero, suc, ◌+◌, ◌-◌, ◌*◌, ◌≤◌, ◌<◌}
use native.Mathlib.Omega.{arith}
use native.Mathlib.Numerals.{add-one}
use mathlib.Core.Path.{◌≡◌, refl, sym, ap, ◌∙◌}
use mathlib.Core.Bool.{Bool, true, false, ◌&&◌, ◌||◌, true≢false}
use mathlib.Core.List.{List, [], ◌∷◌}
use lib.Dec.{eqb, ltb}
use lib.ListN.{take, drop, get_or}
use lib.Seq.{drop-drop, take-take, get_or-drop, get_or-take}
use borrow.Author.Tests.{eq-eqb, ne_eqb, lt-ltb, le-ltb, eqb-true, ltb-true}
use Rattle.std.proofs.Common.{Option, Some, None, Result, Ok, Err}
use Rattle.cards.specs.Bytes.{number_of}
use Rattle.cards.specs.Moments.{Record}
use Rattle.cards.specs.Blocks.{record_of}
use Rattle.cards.specs.Counting.{Open, closed, more, belongs, next, open_after, all_belong}
use Rattle.card_block.specs.declared.Reason.{Reason}
use Rattle.card_block.specs.declared.Reason.TheVariants.{Shape}
use Rattle.card_block.specs.declared.moments.Moment.{Moment}
use Rattle.card_block.specs.Shapes.{records_from}
use Rattle.card_block.specs.Judging.{open_at, held_by, held, left_by, may_belong, onward, went_by, went_on, walked_by}

-- what is open is held as it is
pub held_open : (x : Option Moment) → held (open_at x) ≡ x
unfolding held held_by open_at closed
held_open None = refl
held_open (Some m) = refl

pub open_onward : (last : Bool) (count stamp new : ℕ) → open_at (held (onward last count stamp new)) ≡ onward last count stamp new
unfolding held held_by open_at onward closed more
open_onward true count stamp new = refl
open_onward false zero stamp new = refl
open_onward false (suc count) stamp new = refl

-- what may belong
pub begins : (new : ℕ) → true ≡ may_belong (open_at None).count (open_at None).stamp new
unfolding may_belong open_at closed
begins new = refl

pub ninth : (m : Moment) (new : ℕ) → 7 ≤ m.more → ltb m.more 7 ≡ may_belong (open_at (Some m)).count (open_at (Some m)).stamp new
unfolding may_belong open_at
ninth m new h = rw (le-ltb m.more 7 h, ne_eqb (suc m.more) 0 (λ z. omega arith), le-ltb (suc m.more) 8 (omega arith))

pub follows : (m : Moment) (new : ℕ) → m.more < 7 → eqb new m.stamp ≡ may_belong (open_at (Some m)).count (open_at (Some m)).stamp new
unfolding may_belong open_at
follows m new h = rw (ne_eqb (suc m.more) 0 (λ z. omega arith), lt-ltb (suc m.more) 8 (omega arith))

pub few : (o : Open) (new : ℕ) → may_belong o.count o.stamp new ≡ true → o.count ≤ 8
unfolding may_belong
few o new e = go (eqb o.count 0) refl (ltb o.count 8) refl e
  where
    go : (p : Bool) → eqb o.count 0 ≡ p → (q : Bool) → ltb o.count 8 ≡ q → (p || (q && eqb new o.stamp)) ≡ true → o.count ≤ 8
    go true f q g h = omega (arith, eqb-true o.count 0 f)
    go false f true g h = omega (arith, ltb-true o.count 8 g)
    go false f false g h = absurd (true≢false (sym h))

-- what is open then
pub onward_ends : (held : Option Moment) (new : ℕ) → open_at None ≡ onward true (open_at held).count (open_at held).stamp new
unfolding onward open_at closed
onward_ends held new = refl

pub onward_first : (new : ℕ) → open_at (Some (record { stamp = new; more = 0 })) ≡ onward false (open_at None).count (open_at None).stamp new
unfolding onward open_at closed more
onward_first new = refl

pub onward_more : (m : Moment) (new : ℕ) → open_at (Some (record { stamp = m.stamp; more = m.more + 1 })) ≡ onward false (open_at (Some m)).count (open_at (Some m)).stamp new
unfolding onward open_at more
onward_more m new = rw add-one

-- what a record makes of the open moment
pub went_wrong : (o : Open) (new : ℕ) (last : Bool) → may_belong o.count o.stamp new ≡ false → Err Shape ≡ went_on o new last
unfolding went_on went_by
went_wrong o new last e = rw e

pub went_right : (o : Open) (new : ℕ) (last : Bool) (h : Option Moment) → may_belong o.count o.stamp new ≡ true → open_at h ≡ onward last o.count o.stamp new
    → Ok h ≡ went_on o new last
unfolding went_on went_by
went_right o new last h e f = rw (e, sym f) (ap Ok (sym (held_open h)))

-- the same of each open moment: none, one that takes a record more, one that has its eight, and one of another stamp
pub went_first : (stamp : ℕ) (last : Bool) → Ok (left_by last 0 stamp) ≡ went_on (open_at None) stamp last
went_first stamp true = went_right _ _ _ None (sym (begins stamp)) (onward_ends None stamp)
went_first stamp false = went_right _ _ _ _ (sym (begins stamp)) (onward_first stamp)

pub went_more : (m : Moment) (stamp : ℕ) (last : Bool) → m.more < 7 → m.stamp ≡ stamp → Ok (left_by last (m.more + 1) stamp) ≡ went_on (open_at (Some m)) stamp last
went_more m stamp true h e = went_right _ _ _ None (sym (follows m stamp h) ∙ eq-eqb stamp m.stamp (sym e)) (onward_ends (Some m) stamp)
went_more m stamp false h e = rw (← e) (went_right _ _ _ _ (sym (follows m m.stamp h) ∙ eq-eqb m.stamp m.stamp refl) (onward_more m m.stamp))

pub went_ninth : (m : Moment) (stamp : ℕ) (last : Bool) → 7 ≤ m.more → Err Shape ≡ went_on (open_at (Some m)) stamp last
went_ninth m stamp last h = went_wrong _ _ _ (sym (ninth m stamp h) ∙ le-ltb m.more 7 h)

pub went_other : (m : Moment) (stamp : ℕ) (last : Bool) → m.more < 7 → (m.stamp ≡ stamp → ⊥) → Err Shape ≡ went_on (open_at (Some m)) stamp last
went_other m stamp last k h = went_wrong _ _ _ (sym (follows m stamp k) ∙ ne_eqb stamp m.stamp (λ e. h (sym e)))

-- a record that belongs leaves the next moment open, and one that does not is a bad shape
pub went_ok : (o : Open) (new : ℕ) (last : Bool) (h : Option Moment) → Ok h ≡ went_on o new last
    → (may_belong o.count o.stamp new ≡ true) × (open_at h ≡ onward last o.count o.stamp new)
unfolding went_on went_by
went_ok o new last h e = go (may_belong o.count o.stamp new) e
  where
    go : (p : Bool) → ◌≡◌ {A = Result (Option Moment) Reason} (Ok h) (went_by p (onward last o.count o.stamp new)) → (p ≡ true) × (open_at h ≡ onward last o.count o.stamp new)
    go true f = let same : h ≡ held (onward last o.count o.stamp new) = cc in (refl, ap open_at same ∙ open_onward last o.count o.stamp new)
    go false f = absurd (cc)

pub went_err : (o : Open) (new : ℕ) (last : Bool) (why : Reason) → Err why ≡ went_on o new last → (may_belong o.count o.stamp new ≡ false) × (why ≡ Shape)
unfolding went_on went_by
went_err o new last why e = go (may_belong o.count o.stamp new) e
  where
    go : (p : Bool) → ◌≡◌ {A = Result (Option Moment) Reason} (Err why) (went_by p (onward last o.count o.stamp new)) → (p ≡ false) × (why ≡ Shape)
    go true f = absurd (cc)
    go false f = (refl, cc)

-- one record
pub next_onward : (o : Open) (r : Record) → next o r ≡ onward r.last o.count o.stamp r.stamp
unfolding next onward
next_onward o r = go r.last
  where
    go : (q : Bool) → elim q [ true ↦ closed | false ↦ more o.count o.stamp r.stamp ] ≡ onward q o.count o.stamp r.stamp
    go true = refl
    go false = refl

pub belongs_may : (o : Open) (r : Record) → belongs o r ≡ may_belong o.count o.stamp r.stamp
unfolding belongs may_belong
belongs_may o r = refl

walked_broken : (o : Open) (r : Record) (rs : List Record) → belongs o r ≡ false → walked_by o (r ∷ rs) ≡ Err Shape
unfolding walked_by went_by all_belong
walked_broken o r rs e = rw e

walked_on : (o : Open) (r : Record) (rs : List Record) → belongs o r ≡ true → walked_by o (r ∷ rs) ≡ walked_by (next o r) rs
unfolding walked_by all_belong open_after
walked_on o r rs e = rw e

walked_end : (x : Option Moment) → walked_by (open_at x) [] ≡ Ok x
unfolding walked_by went_by all_belong open_after
walked_end x = ap Ok (held_open x)

-- the walk so far leads to the whole
pub record Walking (piece : List ℕ) (records : ℕ) (before now : Option Moment) (i : ℕ) : Type 0 where
  pub within : i ≤ records
  pub leads : walked_by (open_at now) (records_from (records - i) (drop (6 + 24 * i) piece)) ≡ walked_by (open_at before) (records_from records (drop 6 piece))

pub walking_start : (piece : List ℕ) (records : ℕ) (before : Option Moment) → Walking piece records before before 0
walking_start piece records before =
    let none : records - 0 ≡ records = omega arith in
    record { within = omega arith; leads = rw none }

-- the record at a place of the piece
abbrev record_at : List ℕ → ℕ → Record
record_at piece i = record_of (take 24 (drop (6 + 24 * i) piece))

-- the records that are still to come
abbrev to_come : List ℕ → ℕ → ℕ → List Record
to_come piece records i = records_from (records - i) (drop (6 + 24 * i) piece)

stamp_at : (piece : List ℕ) (i : ℕ) → (record_at piece i).stamp ≡ number_of (take 4 (drop (6 + 24 * i) piece))
unfolding record_of
stamp_at piece i = rw (take-take 4 24 (drop (6 + 24 * i) piece) (omega arith))

pub last_at : (piece : List ℕ) (i : ℕ) → (record_at piece i).last ≡ eqb (get_or piece (6 + 24 * i + 9) 0) 1
unfolding record_of
last_at piece i = rw (get_or-take 24 (drop (6 + 24 * i) piece) 9 0 (omega arith), get_or-drop (6 + 24 * i) piece 9 0)

pub step : (piece : List ℕ) (records i : ℕ) → i < records → records_from (records - i) (drop (6 + 24 * i) piece) ≡ record_of (take 24 (drop (6 + 24 * i) piece)) ∷ records_from (records - (i + 1)) (drop (6 + 24 * (i + 1)) piece)
unfolding records_from
step piece records i h =
    let one : records - i ≡ suc (records - (i + 1)) = omega arith in
    let far : 6 + 24 * (i + 1) ≡ 6 + 24 * i + 24 = omega arith in
    rw (one, far, drop-drop 24 (6 + 24 * i) piece)

module _ {piece : List ℕ} {records : ℕ} {before now : Option Moment} {i : ℕ} (w : Walking piece records before now i) where
  pub walking_broken : (new : ℕ) (why : Reason) → i < records → new ≡ number_of (take 4 (drop (6 + 24 * i) piece))
      → Err why ≡ went_on (open_at now) new (eqb (get_or piece (6 + 24 * i + 9) 0) 1)
      → Err why ≡ walked_by (open_at before) (records_from records (drop 6 piece))
  walking_broken new why h e f =
      let told = went_err (open_at now) new (eqb (get_or piece (6 + 24 * i + 9) 0) 1) why f in
      let no : belongs (open_at now) (record_at piece i) ≡ false =
      belongs_may (open_at now) (record_at piece i) ∙ ap (may_belong (open_at now).count (open_at now).stamp) (stamp_at piece i ∙ sym e) ∙ told.0 in
      ap Err told.1 ∙ sym (walked_broken (open_at now) (record_at piece i) (to_come piece records (i + 1)) no)
      ∙ ap (walked_by (open_at now)) (sym (step piece records i h)) ∙ w.leads

  pub walking_on : (new : ℕ) (after : Option Moment) → i < records → new ≡ number_of (take 4 (drop (6 + 24 * i) piece))
      → Ok after ≡ went_on (open_at now) new (eqb (get_or piece (6 + 24 * i + 9) 0) 1) → Walking piece records before after (i + 1)
  walking_on new after h e f =
      let told = went_ok (open_at now) new (eqb (get_or piece (6 + 24 * i + 9) 0) 1) after f in
      let named : (record_at piece i).stamp ≡ new = stamp_at piece i ∙ sym e in
      let does : belongs (open_at now) (record_at piece i) ≡ true =
      belongs_may (open_at now) (record_at piece i) ∙ ap (may_belong (open_at now).count (open_at now).stamp) named ∙ told.0 in
      let then : next (open_at now) (record_at piece i) ≡ open_at after =
      next_onward (open_at now) (record_at piece i) ∙ rw (last_at piece i, named) (sym told.1) in
      record {
        within = omega arith;
        leads =
            ap (λ (o : Open). walked_by o (to_come piece records (i + 1))) (sym then)
            ∙ sym (walked_on (open_at now) (record_at piece i) (to_come piece records (i + 1)) does)
            ∙ ap (walked_by (open_at now)) (sym (step piece records i h)) ∙ w.leads;
      }

  pub walking_end : records ≤ i → Ok now ≡ walked_by (open_at before) (records_from records (drop 6 piece))
  unfolding records_from
  walking_end h =
      let none : records - i ≡ 0 = omega arith in
      sym (walked_end now) ∙ rw none at w.leads

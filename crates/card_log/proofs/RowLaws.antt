-- Rows one after the other: read, checked, and put in a block. Assumes nothing.
use Prim.Native.Nat.{ℕ, zero, suc, ◌+◌, ◌-◌, ◌*◌, ◌/◌, ◌%◌, ◌≤◌, ◌<◌, min}
use native.Mathlib.Omega.{arith}
use native.Mathlib.Nat.{mul-suc}
use mathlib.Core.Path.{◌≡◌, refl, sym, ap, ◌∙◌}
use mathlib.Core.Bool.{Bool, true, false, not, ◌&&◌}
use mathlib.Core.List.{List, [], ◌∷◌, ◌++◌, append-nil, append_assoc}
use lib.Dec.{eqb, leb}
use lib.ListN.{length, take, drop, get_or, length-append, length-drop}
use lib.Seq.{drop-drop, get_or-take, take_at, drop_at}
use borrow.Author.Tests.{le-leb, lt-leb, ne_eqb}
use Rattle.std.proofs.Common.{Option, Some, None, Ok, Err, is_some}
use Rattle.std.proofs.lemmas.List.{take-append-le, drop-append-le}
use Rattle.cards.specs.Moments.{Record}
use Rattle.cards.specs.Blocks.{block_bytes}
use Rattle.cards.specs.Counting.{Open, closed, belongs, next}
use Rattle.cards.proofs.Tests.{and_no}
use Rattle.card_block.specs.declared.Reason.{Reason}
use Rattle.card_block.specs.declared.moments.Moment.{Moment}
use Rattle.card_block.specs.Judging.{open_at, may_belong, went_on}
use Rattle.card_block.proofs.WalkLaws.{belongs_may, next_onward, went_ok, went_err}
use Rattle.card_records.specs.declared.Fact.{Fact}
use Rattle.card_records.specs.Facts.{record_from}
use Rattle.card_writer.specs.declared.Sheet.{Sheet}
use Rattle.card_writer.specs.Sheets.{Holding, block_with}
use Rattle.card_log.specs.Rows.{row_record, rows_from, rows_in, right_from}

from_stamp : (f : Fact) → (record_from f).stamp ≡ f.stamp
unfolding record_from
from_stamp f = refl

from_last : (f : Fact) → (record_from f).last ≡ f.last
unfolding record_from
from_last f = refl

-- rows cut after the first
pub record Cut (rows row left : List ℕ) : Type 0 where
  pub parts : rows ≡ row ++ left
  pub size : length row ≡ 7

pub cut_of : (n : ℕ) (rows row left : List ℕ) → n ≡ 7 → rows ≡ row ++ left → length row ≡ n → Cut rows row left
cut_of n rows row left e f g = record { parts = f; size = g ∙ e }

module _ {rows row left : List ℕ} (c : Cut rows row left) where
  pub cut_count : length rows / 7 ≡ suc (length left / 7)
  cut_count = omega (arith, ap length c.parts, length-append row left, c.size)

  first : take 7 rows ≡ row
  first = ap (take 7) c.parts ∙ take_at row left 7 c.size

  rest : drop 7 rows ≡ left
  rest = ap (drop 7) c.parts ∙ drop_at row left 7 c.size

  third : get_or rows 2 0 ≡ get_or row 2 0
  third = sym (get_or-take 7 rows 2 0 (omega arith)) ∙ ap (λ (l : List ℕ). get_or l 2 0) first

  pub cut_rows : rows_in rows ≡ row_record row ∷ rows_in left
  unfolding rows_in rows_from
  cut_rows = rw (cut_count, first, rest)

  cut_right : (o : Open) → right_from o (length rows / 7) rows
      ≡ (leb (get_or row 2 0) 3 && (belongs o (row_record row) && right_from (next o (row_record row)) (length left / 7) left))
  unfolding right_from
  cut_right o = rw (cut_count, first, rest, third)

-- no row is left
pub no_rows : (rows : List ℕ) → length rows < 7 → rows_in rows ≡ []
unfolding rows_in rows_from
no_rows rows h = let z : length rows / 7 ≡ 0 = omega arith in rw z

-- rows checked so far: the rest decides
pub record Checking (rows : List ℕ) (held : Option Moment) (rest : List ℕ) : Type 0 where
  pub leads : right_from (open_at held) (length rest / 7) rest ≡ right_from closed (length rows / 7) rows

pub checking_start : (rows : List ℕ) → Checking rows None rows
unfolding open_at
checking_start rows = record { leads = refl }

module _ {rows rest : List ℕ} {held : Option Moment} (w : Checking rows held rest) (row left : List ℕ) (c : Cut rest row left) (f : Fact) (e : record_from f ≡ row_record row) (k : f.count ≡ get_or row 2 0) where
  stamped : (row_record row).stamp ≡ f.stamp
  stamped = sym (ap (λ (r : Record). r.stamp) e) ∙ from_stamp f

  lasts : (row_record row).last ≡ f.last
  lasts = sym (ap (λ (r : Record). r.last) e) ∙ from_last f

  belongs_is : belongs (open_at held) (row_record row) ≡ may_belong (open_at held).count (open_at held).stamp f.stamp
  belongs_is = belongs_may (open_at held) (row_record row) ∙ ap (may_belong (open_at held).count (open_at held).stamp) stamped

  pub checking_many : 3 < f.count → false ≡ right_from closed (length rows / 7) rows
  checking_many m = sym (cut_right c (open_at held) ∙ rw (sym k, lt-leb f.count 3 m)) ∙ w.leads

  pub checking_broken : (why : Reason) → Err why ≡ went_on (open_at held) f.stamp f.last → false ≡ right_from closed (length rows / 7) rows
  checking_broken why b =
      sym (cut_right c (open_at held) ∙ rw (belongs_is, (went_err (open_at held) f.stamp f.last why b).0) (and_no (leb (get_or row 2 0) 3))) ∙ w.leads

  pub checking_on : f.count ≤ 3 → (after : Option Moment) → Ok after ≡ went_on (open_at held) f.stamp f.last → Checking rows after left
  checking_on m after b =
      let told = went_ok (open_at held) f.stamp f.last after b in
      let then : next (open_at held) (row_record row) ≡ open_at after = next_onward (open_at held) (row_record row) ∙ rw (lasts, stamped) (sym told.1) in
      record {
        leads =
            ap (λ (o : Open). right_from o (length left / 7) left) (sym then)
            ∙ sym (cut_right c (open_at held) ∙ rw (sym k, le-leb f.count 3 m, belongs_is, told.0))
            ∙ w.leads;
      }

none_count : (held : Option Moment) (none : Bool) → is_some held ≡ not none → none ≡ eqb (open_at held).count 0
unfolding open_at closed
none_count None true e = refl
none_count None false e = absurd (cc)
none_count (Some m) true e = absurd (cc)
none_count (Some m) false e = sym (ne_eqb (suc m.more) 0 (λ z. omega arith))

pub checking_end : {rows rest : List ℕ} {held : Option Moment} → Checking rows held rest → length rest < 7 → (none : Bool) → is_some held ≡ not none
    → none ≡ right_from closed (length rows / 7) rows
unfolding right_from
checking_end {rows} {rest} {held} w h none e = let z : length rest / 7 ≡ 0 = omega arith in none_count held none e ∙ rw z at w.leads

-- rows in a list
pub length_rows : (n : ℕ) (xs : List ℕ) → length (rows_from n xs) ≡ n
unfolding rows_from
length_rows zero xs = refl
length_rows (suc n) xs = ap suc (length_rows n (drop 7 xs))

rows_drop : (k n : ℕ) (xs : List ℕ) → n ≤ k → drop n (rows_from k xs) ≡ rows_from (k - n) (drop (7 * n) xs)
unfolding rows_from
rows_drop k zero xs h = let z : k - 0 ≡ k = omega arith in rw z
rows_drop zero (suc n) xs h = absurd (omega arith)
rows_drop (suc k) (suc n) xs h =
    let z : suc k - suc n ≡ k - n = omega arith in
    let far : 7 + 7 * n ≡ 7 * suc n = omega (arith, mul-suc 7 n) in
    rw z (rows_drop k n (drop 7 xs) (omega arith) ∙ rw (drop-drop (7 * n) 7 xs, far))

rows_take : (k n : ℕ) (xs : List ℕ) → take n (rows_from k xs) ≡ rows_from (min n k) xs
unfolding rows_from
rows_take k zero xs = let z : min 0 k ≡ 0 = omega arith in rw z
rows_take zero (suc n) xs = let z : min (suc n) 0 ≡ 0 = omega arith in rw z
rows_take (suc k) (suc n) xs = let z : min (suc n) (suc k) ≡ suc (min n k) = omega arith in rw z (ap (λ (l : List Record). row_record (take 7 xs) ∷ l) (rows_take k n (drop 7 xs)))

-- rows ahead of others
rows_front : (k : ℕ) (xs ys : List ℕ) → 7 * k ≤ length xs → rows_from k (xs ++ ys) ≡ rows_from k xs
unfolding rows_from
rows_front zero xs ys h = refl
rows_front (suc k) xs ys h =
    let more : 7 * suc k ≡ 7 + 7 * k = omega (arith, mul-suc 7 k) in
    let front : take 7 (xs ++ ys) ≡ take 7 xs = take-append-le 7 xs ys (omega arith) in
    let behind : drop 7 (xs ++ ys) ≡ drop 7 xs ++ ys = drop-append-le 7 xs ys (omega arith) in
    rw (front, behind, rows_front k (drop 7 xs) ys (omega (arith, length-drop 7 xs)))

-- the rows of a block: 21, or all where fewer are left
pub rows_part : (rows part left : List ℕ) (b : ℕ) → length rows % 7 ≡ 0 → drop (147 * b) rows ≡ part ++ left → length part ≡ min 147 (length (drop (147 * b) rows))
    → 0 < length (drop (147 * b) rows) → rows_in part ≡ take 21 (drop (21 * b) (rows_from (length rows / 7) rows))
unfolding rows_in
rows_part rows part left b whole e size some =
    let n : ℕ = length rows / 7 in
    let long : length (drop (147 * b) rows) ≡ 7 * (n - 21 * b) = omega (arith, length-drop (147 * b) rows) in
    let inside : 21 * b ≤ n = omega (arith, length-drop (147 * b) rows) in
    let here : 7 * (21 * b) ≡ 147 * b = omega arith in
    let few : length part / 7 ≡ min 21 (n - 21 * b) = omega arith in
    sym (
    ap (take 21) (rows_drop n (21 * b) rows inside)
    ∙ rows_take (n - 21 * b) 21 (drop (7 * (21 * b)) rows)
    ∙ rw (here, e, sym few) (rows_front (length part / 7) part left (omega arith))
    )

-- a block that is put with some rows: those that are done, with the rest, are all
pub record Rowing (rows : List ℕ) (n : ℕ) (sheet : Sheet) (rest : List ℕ) : Type 0 where
  pub done : List Record
  pub holds : Holding sheet n done
  pub leads : done ++ rows_in rest ≡ rows_in rows
  pub few : length done + length rest / 7 ≤ 21

pub rowing_start : (rows : List ℕ) (n : ℕ) (sheet : Sheet) → length rows ≤ 147 → Holding sheet n [] → Rowing rows n sheet rows
rowing_start rows n sheet h k = record { done = []; holds = k; leads = refl; few = omega arith }

pub rowing_room : {rows rest : List ℕ} {n : ℕ} {sheet : Sheet} → Rowing rows n sheet rest → (row left : List ℕ) → Cut rest row left → sheet.records < 21
rowing_room {rows} {rest} {n} {sheet} r row left c = omega (arith, r.few, r.holds.count, cut_count c)

pub rowing_more : {rows rest : List ℕ} {n : ℕ} {sheet : Sheet} (after : Sheet) → Rowing rows n sheet rest → (row left : List ℕ) → Cut rest row left
    → (f : Fact) → record_from f ≡ row_record row
    → ((m : ℕ) (rs : List Record) → Holding sheet m rs → Holding after m (rs ++ (record_from f ∷ []))) → Rowing rows n after left
rowing_more {rows} {rest} {n} {sheet} after r row left c f e w =
    record {
      done = r.done ++ (record_from f ∷ []);
      holds = w n r.done r.holds;
      leads = append_assoc r.done (record_from f ∷ []) (rows_in left) ∙ ap (λ (l : List Record). r.done ++ l) (rw e (sym (cut_rows c))) ∙ r.leads;
      few = omega (arith, r.few, cut_count c, length-append r.done (record_from f ∷ []));
    }

pub rowing_all : {rows rest : List ℕ} {n : ℕ} {sheet : Sheet} (out : List ℕ) → Rowing rows n sheet rest → length rest < 7
    → ((m : ℕ) (rs : List Record) → Holding sheet m rs → out ≡ block_bytes (block_with m rs))
    → out ≡ block_bytes (block_with n (rows_in rows))
rowing_all {rows} {rest} {n} {sheet} out r h w =
    let all : r.done ≡ rows_in rows = sym (append-nil r.done) ∙ ap (λ (l : List Record). r.done ++ l) (sym (no_rows rest h)) ∙ r.leads in
    rw (sym all) (w n r.done r.holds)

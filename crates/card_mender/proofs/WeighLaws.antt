-- What a piece comes to, test by test, and a block that is put with some of its records. Assumes nothing.
use Rattle.card_block.proofs.StayLaws.{next_is}
use Prim.Native.Nat.{ℕ, suc, ◌+◌, ◌-◌, ◌*◌, ◌≤◌, ◌<◌}
use native.Mathlib.Omega.{arith}
use mathlib.Core.Path.{◌≡◌, sym, ap, ◌∙◌}
use mathlib.Core.Bool.{Bool, true, false, not, ◌&&◌}
use mathlib.Core.List.{List, [], ◌∷◌, ◌++◌}
use lib.Dec.{eqb}
use lib.ListN.{take, drop, get_or}
use lib.Seq.{drop-drop}
use borrow.Author.Tests.{eq-eqb, ne_eqb}
use Rattle.cards.specs.Moments.{Record, flagged}
use Rattle.cards.specs.Blocks.{record_of, block_bytes}
use Rattle.card_block.specs.declared.Carried.{Carried}
use Rattle.card_block.specs.declared.Reason.{Reason}
use Rattle.std.proofs.Common.{Ok, Err}
use Rattle.std.specs.declared.ops.ControlFlow.{ControlFlow}
use Rattle.std.specs.declared.ops.ControlFlow.TheVariants.{Break, Continue}
use Rattle.card_block.specs.Shapes.{records_from}
use Rattle.card_block.specs.Judging.{judgement}
use Rattle.card_records.specs.declared.Fact.{Fact}
use Rattle.card_records.specs.Facts.{record_from}
use Rattle.card_writer.specs.declared.Sheet.{Sheet}
use Rattle.card_mender.specs.declared.Held.{Held}
use Rattle.card_writer.specs.Sheets.{Holding, block_with}
use Rattle.card_mender.specs.Weighing.{first_count, whole_count, records_in, held_by, kept_by, weighed_by, weighed, looked_to, looked_on, looked_gap, looked_by, looked}
use Rattle.card_mender.proofs.FlagLaws.{records_drop, records_snoc, length_from, first_few, whole_flagged}

-- the place past the last flagged record of all
from_start : (bytes : List ℕ) (k : ℕ) → records_from (k - 0) (drop (6 + 24 * 0) bytes) ≡ records_from k (drop 6 bytes)
from_start bytes k = let z : k - 0 ≡ k = omega arith in rw z

all_whole : (bytes : List ℕ) (k v : ℕ) → k ≡ get_or bytes 1 0 → v ≡ 0 + whole_count (records_from (k - 0) (drop (6 + 24 * 0) bytes)) → v ≡ whole_count (records_in bytes)
unfolding records_in
all_whole bytes k v e f = omega (arith, f, ap whole_count (from_start bytes k ∙ ap (λ (n : ℕ). records_from n (drop 6 bytes)) e))

pub all_flagged : (bytes : List ℕ) (k v : ℕ) → k ≡ get_or bytes 1 0 → v ≡ 0 + whole_count (records_from (k - 0) (drop (6 + 24 * 0) bytes))
    → not (eqb v 0) ≡ flagged (records_in bytes)
all_flagged bytes k v e f = rw (all_whole bytes k v e f) (sym (whole_flagged (records_in bytes)))

-- a block that stays
pub kept_on : (bytes : List ℕ) (after : Carried) (on : Bool) (k v : ℕ) → on ≡ true → k ≡ get_or bytes 1 0
    → v ≡ 0 + whole_count (records_from (k - 0) (drop (6 + 24 * 0) bytes))
    → ◌≡◌ {A = Held} (record { carried = after; begun = true; «from» = 0; last = v; records = k }) (kept_by bytes after on)
unfolding kept_by held_by
kept_on bytes after on k v o e f = rw (o, all_whole bytes k v e f, e)

pub kept_anew : (bytes : List ℕ) (after : Carried) (on : Bool) (k u v w : ℕ) → on ≡ false → k ≡ get_or bytes 1 0
    → u ≡ first_count (records_from k (drop 6 bytes)) → v ≡ u + whole_count (records_from (k - u) (drop (6 + 24 * u) bytes))
    → w ≡ 0 + whole_count (records_from (k - 0) (drop (6 + 24 * 0) bytes))
    → ◌≡◌ {A = Held} (record { carried = after; begun = not (eqb w 0); «from» = u; last = v; records = k }) (kept_by bytes after on)
unfolding kept_by held_by records_in
kept_anew bytes after on k u v w o e f g h =
    let here : records_from k (drop 6 bytes) ≡ records_in bytes = unfold records_in in ap (λ (n : ℕ). records_from n (drop 6 bytes)) e in
    let u-is : u ≡ first_count (records_in bytes) = f ∙ ap first_count here in
    let few : u ≤ k = omega (arith, f, first_few (records_from k (drop 6 bytes)), length_from k (drop 6 bytes)) in
    let rest : records_from (k - u) (drop (6 + 24 * u) bytes) ≡ drop u (records_in bytes) =
    ap (records_from (k - u)) (sym (drop-drop (24 * u) 6 bytes)) ∙ sym (records_drop k u (drop 6 bytes) few) ∙ ap (drop u) here in
    let v-is : v ≡ first_count (records_in bytes) + whole_count (drop (first_count (records_in bytes)) (records_in bytes)) =
    g ∙ ap (λ (l : List Record). u + whole_count l) rest ∙ ap (λ (n : ℕ). n + whole_count (drop n (records_in bytes))) u-is in
    rw (o, all_flagged bytes k w e h, u-is, v-is, e)

-- a piece
pub weighed_gone : (bytes : List ℕ) (c : Carried) (begun : Bool) (why : Reason) → judgement bytes c ≡ Err why → Err why ≡ weighed bytes c begun
unfolding weighed weighed_by
weighed_gone bytes c begun why e = rw e

module _ (bytes : List ℕ) (c g : Carried) (e : judgement bytes c ≡ Ok g) (n : 0 < g.next) where
  pub weighed_kept : (begun on : Bool) (h : Held) → on ≡ (begun && eqb (g.next - 1) c.next) → h ≡ kept_by bytes g on → Ok h ≡ weighed bytes c begun
  unfolding weighed weighed_by
  weighed_kept begun on h f k = rw (e, next_is g.next c.next n, sym f) (ap Ok k)

  pub looked_on_law : (r : ControlFlow Bool Carried) → g.next - 1 ≡ c.next → r ≡ looked_on bytes g → r ≡ looked bytes c
  unfolding looked looked_by looked_gap
  looked_on_law r h w = w ∙ rw (e, next_is g.next c.next n, eq-eqb (g.next - 1) c.next h)

  pub looked_gap_law : (g.next - 1 ≡ c.next → ⊥) → Break false ≡ looked bytes c
  unfolding looked looked_by looked_gap
  looked_gap_law h = rw (e, next_is g.next c.next n, ne_eqb (g.next - 1) c.next h)

pub looked_past : (bytes : List ℕ) (c : Carried) (why : Reason) → judgement bytes c ≡ Err why → Continue c ≡ looked bytes c
unfolding looked looked_by
looked_past bytes c why e = rw e

pub looked_comes : (bytes : List ℕ) (after : Carried) → flagged (records_in bytes) ≡ true → Break true ≡ looked_on bytes after
unfolding looked_on looked_to
looked_comes bytes after e = rw e

pub looked_more : (bytes : List ℕ) (after : Carried) → flagged (records_in bytes) ≡ false → Continue after ≡ looked_on bytes after
unfolding looked_on looked_to
looked_more bytes after e = rw e

-- a block that is put with its records from one place on
pub record Copying (piece : List ℕ) (n from to : ℕ) (sheet : Sheet) (i : ℕ) : Type 0 where
  pub after : from ≤ i
  pub within : i ≤ to
  pub holds : Holding sheet n (records_from (i - from) (drop (6 + 24 * from) piece))

pub copying_start : (piece : List ℕ) (n from to : ℕ) (sheet : Sheet) → from ≤ to → Holding sheet n [] → Copying piece n from to sheet from
unfolding records_from
copying_start piece n from to sheet h k = let z : from - from ≡ 0 = omega arith in record { after = omega arith; within = h; holds = rw z k }

pub copying_room : {piece : List ℕ} {n from to : ℕ} {sheet : Sheet} {i : ℕ} → Copying piece n from to sheet i → i < to → to ≤ 21 → sheet.records < 21
copying_room {piece} {n} {from} {to} {sheet} {i} c h k = omega (arith, c.after, c.holds.count, length_from (i - from) (drop (6 + 24 * from) piece))

pub copying_more : {piece : List ℕ} {n from to : ℕ} {sheet : Sheet} {i : ℕ} (after : Sheet) (f : Fact) → Copying piece n from to sheet i → i < to
    → record_from f ≡ record_of (take 24 (drop (6 + 24 * i) piece))
    → ((m : ℕ) (rs : List Record) → Holding sheet m rs → Holding after m (rs ++ (record_from f ∷ [])))
    → Copying piece n from to after (i + 1)
copying_more {piece} {n} {from} {to} {sheet} {i} after f c h e w =
    let one : i + 1 - from ≡ suc (i - from) = omega (arith, c.after) in
    let far : 6 + 24 * from + 24 * (i - from) ≡ 6 + 24 * i = omega (arith, c.after) in
    let this : record_of (take 24 (drop (24 * (i - from)) (drop (6 + 24 * from) piece))) ≡ record_from f =
    ap (λ (l : List ℕ). record_of (take 24 l)) (drop-drop (24 * (i - from)) (6 + 24 * from) piece ∙ ap (λ (m : ℕ). drop m piece) far) ∙ sym e in
    record {
      after = omega (arith, c.after);
      within = omega arith;
      holds = rw (one, records_snoc (i - from) (drop (6 + 24 * from) piece), this) (w n (records_from (i - from) (drop (6 + 24 * from) piece)) c.holds);
    }

pub copying_all : {piece : List ℕ} {n from to : ℕ} {sheet : Sheet} {i : ℕ} (out : List ℕ) → Copying piece n from to sheet i → to ≤ i
    → ((m : ℕ) (rs : List Record) → Holding sheet m rs → out ≡ block_bytes (block_with m rs))
    → out ≡ block_bytes (block_with n (records_from (to - from) (drop (6 + 24 * from) piece)))
copying_all {piece} {n} {from} {to} {sheet} {i} out c h w =
    let all : i ≡ to = omega (arith, c.within) in
    rw (sym all) (w n (records_from (i - from) (drop (6 + 24 * from) piece)) c.holds)

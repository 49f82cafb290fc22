-- The card block by block: what is put, with the blocks to come, is the whole. Assumes nothing.
use Prim.Native.Nat.{ℕ, zero, suc, ◌+◌, ◌-◌, ◌*◌, ◌/◌, ◌%◌, ◌≤◌, ◌<◌, min}
use native.Mathlib.Omega.{arith}
use mathlib.Core.Path.{◌≡◌, refl, sym, ap, ◌∙◌}
use mathlib.Core.List.{List, [], ◌∷◌, ◌++◌, append-nil, append_assoc}
use lib.ListN.{length, take, drop, length-drop, take-append-drop, drop_of_length-le}
use lib.Seq.{sets, length-sets, drop-drop, length-take-le}
use Rattle.cards.specs.Bytes.{joined}
use Rattle.cards.specs.Moments.{Record}
use Rattle.cards.specs.Blocks.{block_bytes}
use Rattle.cards.specs.Mending.{card_bytes}
use Rattle.cards.specs.Writing.{fill}
use Rattle.cards.proofs.BlockLaws.{length_block}
use Rattle.card_writer.specs.Sheets.{block_with}
use Rattle.card_writer.proofs.StoreLaws.{sets_take, sets_drop}
use Rattle.card_log.specs.Rows.{rows_from, rows_in}
use Rattle.card_log.specs.Logging.{blocks_in, card_of, Right, Writes}
use Rattle.card_log.proofs.RowLaws.{length_rows, rows_part}

pub blocks_are : (n b : ℕ) → b ≡ n / 21 + min 1 (n % 21) → b ≡ blocks_in n
unfolding blocks_in
blocks_are n b e = omega arith

pub block_inside : (n b : ℕ) → b < blocks_in n → 21 * b < n
unfolding blocks_in
block_inside n b h = omega arith

-- a block is to come where rows are left
pub block_left : (rows : List ℕ) (b : ℕ) → length rows % 7 ≡ 0 → 0 < length (drop (147 * b) rows) → b < blocks_in (length rows / 7)
unfolding blocks_in
block_left rows b whole some = omega (arith, length-drop (147 * b) rows)

pub none_left : (rows : List ℕ) (b : ℕ) → length (drop (147 * b) rows) ≡ 0 → blocks_in (length rows / 7) ≤ b
unfolding blocks_in
none_left rows b none = omega (arith, length-drop (147 * b) rows)

-- blocks to come
fill_some : (t b : ℕ) (rs : List Record) → 0 < length rs → card_bytes (fill (suc t) b rs) ≡ block_bytes (block_with b (take 21 rs)) ++ card_bytes (fill t (suc b) (drop 21 rs))
unfolding fill card_bytes joined block_with
fill_some t b [] h = absurd (omega arith)
fill_some t b (r ∷ rs) h = refl

fill_none : (t b : ℕ) → card_bytes (fill t b []) ≡ []
unfolding fill card_bytes joined
fill_none zero b = refl
fill_none (suc t) b = refl

pub record Filling (rs out₀ : List ℕ) (n b : ℕ) (out : List ℕ) : Type 0 where
  pub within : b ≤ blocks_in n
  pub size : length out ≡ length out₀
  pub puts : take (512 * b) out ++ card_bytes (fill (n - b) b (drop (21 * b) (rows_from n rs))) ≡ card_bytes (fill n 0 (rows_from n rs))
  pub tail : drop (512 * b) out ≡ drop (512 * b) out₀

pub filling_start : (rows out : List ℕ) (n : ℕ) → Filling rows out n 0 out
filling_start rows out n = let z : n - 0 ≡ n = omega arith in record { within = omega arith; size = refl; puts = rw z; tail = refl }

pub filling_more : {rows out₀ : List ℕ} {n b : ℕ} {out : List ℕ} (out₁ : List ℕ) → Filling rows out₀ n b out → b < blocks_in n → 512 * b + 512 ≤ length out
    → out₁ ≡ sets out (512 * b) (block_bytes (block_with b (take 21 (drop (21 * b) (rows_from n rows))))) → Filling rows out₀ n (b + 1) out₁
filling_more {rows} {out₀} {n} {b} {out} out₁ f h room e =
    let rs : List Record = rows_from n rows in
    let block : List ℕ = block_bytes (block_with b (take 21 (drop (21 * b) rs))) in
    let long : length block ≡ 512 = length_block (block_with b (take 21 (drop (21 * b) rs))) in
    let far : 512 * (b + 1) ≡ 512 * b + length block = omega (arith, long) in
    let fits : 512 * b + length block ≤ length out = omega (arith, long, room) in
    let one : n - b ≡ suc (n - (b + 1)) = omega (arith, block_inside n b h) in
    let some : 0 < length (drop (21 * b) rs) = omega (arith, length-drop (21 * b) rs, length_rows n rows, block_inside n b h) in
    let next : 21 * b + 21 ≡ 21 * (b + 1) = omega arith in
    let up : suc b ≡ b + 1 = omega arith in
    record {
      within = omega arith;
      size = ap length e ∙ length-sets out (512 * b) block ∙ f.size;
      puts =
          ap (λ (k : ℕ). take k out₁ ++ card_bytes (fill (n - (b + 1)) (b + 1) (drop (21 * (b + 1)) rs))) far
          ∙ ap (λ (l : List ℕ). l ++ card_bytes (fill (n - (b + 1)) (b + 1) (drop (21 * (b + 1)) rs))) (ap (take (512 * b + length block)) e ∙ sets_take out (512 * b) block fits)
          ∙ append_assoc (take (512 * b) out) block (card_bytes (fill (n - (b + 1)) (b + 1) (drop (21 * (b + 1)) rs)))
          ∙ ap (λ (l : List ℕ). take (512 * b) out ++ l)
          (ap (λ (l : List Record). block ++ card_bytes (fill (n - (b + 1)) (b + 1) l)) (sym (drop-drop 21 (21 * b) rs ∙ ap (λ (m : ℕ). drop m rs) next))
          ∙ ap (λ (m : ℕ). block ++ card_bytes (fill (n - (b + 1)) m (drop 21 (drop (21 * b) rs)))) (sym up)
          ∙ sym (fill_some (n - (b + 1)) b (drop (21 * b) rs) some)
          ∙ ap (λ (t : ℕ). card_bytes (fill t b (drop (21 * b) rs))) (sym one))
          ∙ f.puts;
      tail =
          ap (λ (k : ℕ). drop k out₁) far
          ∙ ap (drop (512 * b + length block)) e
          ∙ sets_drop out (512 * b) block fits
          ∙ sym (drop-drop (length block) (512 * b) out)
          ∙ ap (drop (length block)) f.tail
          ∙ drop-drop (length block) (512 * b) out₀
          ∙ ap (λ (k : ℕ). drop k out₀) (sym far);
    }

-- the next block, with the rows of a part
pub filling_part : {rows out₀ out : List ℕ} {count : ℕ} (out₁ part left block : List ℕ) (b : ℕ) → Filling rows out₀ (length rows / 7) count out → length rows % 7 ≡ 0
    → drop (147 * count) rows ≡ part ++ left → length part ≡ min 147 (length (drop (147 * count) rows)) → 0 < length (drop (147 * count) rows)
    → 512 * count + 512 ≤ length out → b ≡ count → block ≡ block_bytes (block_with b (rows_in part)) → out₁ ≡ sets out (512 * b) block
    → Filling rows out₀ (length rows / 7) (count + 1) out₁
filling_part {rows} {out₀} {out} {count} out₁ part left block b f whole parts size some room e g h =
    filling_more out₁ f (block_left rows count whole some) room
    (h ∙ rw (g, e, rows_part rows part left count whole parts size some))

pub filling_end : {rows out₀ : List ℕ} {b : ℕ} {out : List ℕ} → Filling rows out₀ (length rows / 7) b out → blocks_in (length rows / 7) ≤ b → Right rows
    → 512 * blocks_in (length rows / 7) ≤ length out₀ → Writes rows out₀ (512 * blocks_in (length rows / 7)) out
unfolding card_of rows_in
filling_end {rows} {out₀} {b} {out} f h right room =
    let n : ℕ = length rows / 7 in
    let rs : List Record = rows_from n rows in
    let all : b ≡ blocks_in n = omega (arith, f.within) in
    let over : length rs ≤ 21 * b = omega (arith, length_rows n rows, all, over_all n) in
    let none : drop (21 * b) rs ≡ [] = drop_of_length-le rs over in
    let whole : take (512 * b) out ≡ card_bytes (fill (length rs) 0 rs) =
    sym (append-nil (take (512 * b) out))
    ∙ ap (λ (l : List ℕ). take (512 * b) out ++ l) (sym (ap (λ (l : List Record). card_bytes (fill (n - b) b l)) none ∙ fill_none (n - b) b))
    ∙ f.puts ∙ ap (λ (t : ℕ). card_bytes (fill t 0 rs)) (sym (length_rows n rows)) in
    record {
      right = right;
      room = room;
      put =
          sym (take-append-drop (512 * b) out) ∙ ap (λ (l : List ℕ). l ++ drop (512 * b) out) whole
          ∙ ap (λ (l : List ℕ). card_bytes (fill (length rs) 0 rs) ++ l) (f.tail ∙ ap (λ (m : ℕ). drop (512 * m) out₀) all);
      count = ap (λ (m : ℕ). 512 * m) (sym all) ∙ sym (length-take-le (512 * b) out (omega (arith, f.size, all, room))) ∙ ap length whole;
    }
  where
    over_all : (n : ℕ) → n ≤ 21 * blocks_in n
    over_all n = unfold blocks_in in omega arith

-- Laws of the loop that counts a word's rows: its lowest row is counted, and then it is the word without it. Assumes nothing.
use Prim.Native.Nat.{ℕ, zero, suc, ◌+◌, ◌-◌, ◌^◌, ◌<◌}
use mathlib.Core.Path.{◌≡◌, refl, ap, ◌∙◌}
use mathlib.Core.Bool.{true, false}
use mathlib.Core.List.{List}
use mathlib.Core.Logic.{◌≢◌}
use native.Mathlib.Decide.{ℕ_discrete}
use native.Mathlib.Omega.{arith}
use lib.Bits.{bit_and, and_le_r}
use lib.Count.{count_trailing_zeros}
use lib.ListN.{length, get_or, set, length-set}
use lib.Seq.{get_or-set_same, get_or-set_other}
use Rattle.trees.specs.Bits.{bit}
use Rattle.sizes.specs.Words.{has_bit, has_row, Counts}
use Rattle.sizes.proofs.WordLaws.{rows_none}
use Rattle.sizes.proofs.LowestLaws.{lowest}

-- a bit as a row
row_is : (base n z : ℕ) → has_row base n (base + z) ≡ has_bit n z
unfolding has_row
row_is zero n z = let e : 0 + z ≡ z = omega arith in rw e refl
row_is (suc base) n z = let e : suc base + z ≡ suc (base + z) = omega arith in rw e (row_is base n z)

rows_others : (base n v z : ℕ) → ((i : ℕ) → i ≢ z → has_bit v i ≡ has_bit n i) → (i : ℕ) → i ≢ base + z → has_row base v i ≡ has_row base n i
unfolding has_row
rows_others zero n v z f i g = f i (λ e. g (omega arith))
rows_others (suc base) n v z f zero g = refl
rows_others (suc base) n v z f (suc i) g = rows_others base n v z f i (λ e. g (omega arith))

-- the rows of w are still to be counted: with them the sizes ys are those of the word
pub record Left (base word w : ℕ) (xs ys : List ℕ) : Type 0 where
  pub size : length ys ≡ length xs
  pub each : (i : ℕ) → i < length xs → get_or ys i 0 + bit (has_row base w i) ≡ get_or xs i 0 + bit (has_row base word i)

pub left_none : {base word : ℕ} {xs ys : List ℕ} (w : ℕ) → w ≡ 0 → Left base word w xs ys → Counts (has_row base word) xs ys
left_none {base} {word} {xs} {ys} w z f = record {
  size = f.size;
  each = λ i h. none i (ap (λ (x : ℕ). has_row base x i) z ∙ rows_none base i) (f.each i h);
}
  where
    none : (i : ℕ) → has_row base w i ≡ false → get_or ys i 0 + bit (has_row base w i) ≡ get_or xs i 0 + bit (has_row base word i) → get_or ys i 0 ≡ get_or xs i 0 + bit (has_row base word i)
    none i e k = let q = rw e at k in omega (arith, q)

module _ (base word w : ℕ) (xs ys : List ℕ) (some : 0 < w) (fits : w < 2 ^ 32) (f : Left base word w xs ys) where
  abbrev place : ℕ
  place = base + count_trailing_zeros 32 w

  pub lowest_inside : count_trailing_zeros 32 w < 32
  lowest_inside = (lowest 32 w some fits).inside

  pub left_less : bit_and w (w - 1) < w
  left_less = omega (arith, and_le_r w (w - 1))

  there : has_row base w place ≡ true
  there = row_is base w (count_trailing_zeros 32 w) ∙ (lowest 32 w some fits).set

  gone : has_row base (bit_and w (w - 1)) place ≡ false
  gone = row_is base (bit_and w (w - 1)) (count_trailing_zeros 32 w) ∙ (lowest 32 w some fits).clear

  pub left_next : place < length xs → Left base word (bit_and w (w - 1)) xs (set ys place (get_or ys place 0 + 1))
  left_next h = record { size = length-set ys place (get_or ys place 0 + 1) ∙ f.size; each = λ i l. go i l (ℕ_discrete i place) }
    where
      counted : get_or (set ys place (get_or ys place 0 + 1)) place 0 + bit (has_row base (bit_and w (w - 1)) place) ≡ get_or xs place 0 + bit (has_row base word place)
      counted =
          let q = rw there at (f.each place h) in
          rw (get_or-set_same ys place (get_or ys place 0 + 1) 0 (omega (arith, f.size)), gone) (omega (arith, q))

      go : (i : ℕ) → i < length xs → Dec (i ≡ place) → get_or (set ys place (get_or ys place 0 + 1)) i 0 + bit (has_row base (bit_and w (w - 1)) i) ≡ get_or xs i 0 + bit (has_row base word i)
      go i l (yes e) = rw e counted
      go i l (no e) =
          rw (get_or-set_other ys place i (get_or ys place 0 + 1) 0 e, rows_others base w (bit_and w (w - 1)) (count_trailing_zeros 32 w) (lowest 32 w some fits).others i e) (f.each i l)

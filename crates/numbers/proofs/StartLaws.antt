-- Laws of where a fact's walk starts: checked rows, the lists in their parts, and what is written down before anything is asked. Assumes nothing.
use Prim.Native.Nat.{ℕ, ◌+◌, ◌*◌, ◌/◌, ◌^◌, ◌≤◌, ◌<◌}
use mathlib.Core.Path.{◌≡◌, refl, sym, fun_ext}
use mathlib.Core.Bool.{Bool, true, false, not, ◌&&◌}
use mathlib.Core.List.{List}
use mathlib.Core.Logic.{⊎_elim}
use native.Mathlib.Omega.{arith}
use lib.Pow.{pow_mono}
use lib.ListN.{length, get_or, drop, get_or-replicate, get_or-eq_default}
use lib.Seq.{take-take, length-take-le}
use borrow.Author.Tests.{ltb-false}
use Rattle.making.specs.declared.Number.{Number}
use Rattle.trees.specs.Kept.{all_below}
use Rattle.trees.proofs.Tests.{lt_or_ge, and_true_l}
use Rattle.meaning.specs.Rows.{row_right, disagree, row_fault, count_of_rows, first_below, right, judge_rows, check_rows}
use Rattle.meaning.specs.Tables.{most, part, list_of}
use Rattle.meaning.proofs.RowsLaws.{first_none}
use Rattle.meaning.proofs.PartsLaws.{part_length}
use Rattle.std.specs.Prelude.{Option, Some, None}
use Rattle.meaning.specs.declared.Value.{Value}
use Rattle.numbers.specs.Asking.{with_counts, bare, sheet, nothing_given, Given, vacant, vacancies, Steady, part_of}

-- 2^k − 1 for the largest k
pub most_le : (k : ℕ) → k ≤ 10 → most k ≤ 1023
unfolding most
most_le k h = let p : 2 ^ k ≤ 2 ^ 10 = pow_mono {i = k} {j = 10} h in omega arith

-- rows that passed refusal 2 keep the row rules
unfaulty : (a b c : Bool) (i n : ℕ) → judge_rows a b c i n ≡ right → b ≡ false
unfolding judge_rows
unfaulty false b c i n e = let z : ◌≡◌ {A = ℕ} 0 1 = cc in absurd (omega arith)
unfaulty true true c i n e = let z : ◌≡◌ {A = ℕ} 0 1 = cc in absurd (omega arith)
unfaulty true false c i n e = refl

flip : (b : Bool) → not b ≡ false → b ≡ true
flip true e = refl
flip false e = sym e

pub row_right_law : (raw : List ℕ) (i : ℕ) → check_rows raw ≡ right → i < length raw / 9 → row_right raw i ≡ true
unfolding check_rows count_of_rows row_fault
row_right_law raw i e h =
    let n = length raw / 9 in
    let b = ltb-false (first_below n (row_fault raw)) n (unfaulty _ _ _ (first_below n (row_fault raw)) n e) in
    and_true_l (row_right raw i) (all_below i (λ j. not (disagree raw i j))) (flip (row_right raw i && all_below i (λ j. not (disagree raw i j))) (first_none n (row_fault raw) i (omega arith)))

-- the lists are the values of their parts
pub lists_parts : (k : ℕ) (counts values : List ℕ) → length counts ≡ 4 → ((v : ℕ) → v < 4 → get_or counts v 0 ≤ most k) → list_of k (with_counts counts) values ≡ part_of (most k) counts values
unfolding list_of part part_of
lists_parts k counts values four few = fun_ext (λ v. take-take (get_or counts v 0) (most k) (drop (v * most k) values) (⊎_elim
    (λ h. few v h)
    (λ h. let d : length counts ≤ v = rw four h in rw (get_or-eq_default counts 0 d) (omega arith))
    (lt_or_ge v 4)))

pub list_length : (k : ℕ) (counts values : List ℕ) (v : ℕ) → v < 4 → length values ≡ 4 * most k → get_or counts v 0 ≤ most k → length (list_of k (with_counts counts) values v) ≡ get_or counts v 0
unfolding list_of
list_length k counts values v h e q = length-take-le (get_or counts v 0) (part k values v) (rw (part_length k values v h e) q)

-- before a fact asks anything: no number is given, and three places of each variable are vacant
pub nothing_given_law : (counts : List ℕ) (fresh : List Value) (v j : ℕ) → v < 4 → j < 3 → Given (sheet counts fresh nothing_given) v j → ⊥
nothing_given_law counts fresh v j h k g =
    g (get_or-replicate {A = Option Number} 12 (3 * v + j) None None (omega arith))

pub vacant_le : (n : Option Number) → vacant n ≤ 1
unfolding vacant
vacant_le None = omega arith
vacant_le (Some n) = omega arith

pub vacancies_le : (ns : List (Option Number)) (v : ℕ) → vacancies ns v ≤ 3
unfolding vacancies
vacancies_le ns v = omega (arith, vacant_le (get_or ns (3 * v + 0) None), vacant_le (get_or ns (3 * v + 1) None), vacant_le (get_or ns (3 * v + 2) None))

pub steady_start : (before counts : List ℕ) (fresh : List Value) → length counts ≡ 4 → length (bare fresh) ≡ 96 → ((v : ℕ) → v < 4 → get_or before v 0 ≤ 1023)
    → ((v : ℕ) → v < 4 → get_or before v 0 ≤ get_or counts v 0) → ((v : ℕ) → v < 4 → get_or counts v 0 ≤ get_or before v 0 + 21) → Steady before (sheet counts fresh nothing_given)
steady_start before counts fresh four places first grown few = record {
  four = four;
  places = places;
  dozen = refl;
  first = first;
  grown = grown;
  room = λ v h. omega (arith, few v h, vacancies_le (sheet counts fresh nothing_given).numbers v);
}

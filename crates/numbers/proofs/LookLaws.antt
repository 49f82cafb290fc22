-- Laws of looking a value up. Assumes nothing.
use Prim.Native.Nat.{ℕ, ◌*◌, ◌+◌, ◌-◌, ◌≤◌, ◌<◌}
use mathlib.Core.Path.{◌≡◌, refl, ap, sym, ◌∙◌}
use mathlib.Core.Bool.{Bool, true, false, cond, ◌&&◌, and-false}
use mathlib.Core.List.{List}
use native.Mathlib.Omega.{arith}
use lib.Dec.{eqb, ltb, leb}
use lib.ListN.{length, get_or, take, drop}
use lib.Seq.{take-take}
use borrow.Author.Tests.{lt-ltb, le-ltb, leb-true, ltb-true, eqb-true, eq-eqb, ne_eqb}
use Rattle.std.specs.Prelude.{Option, None}
use Rattle.trees.proofs.Tests.{and_true_l, and_true_r}
use Rattle.meaning.specs.Numbering.{place, listed, Unseen}
use Rattle.meaning.proofs.ValuesLaws.{Placed, here, nowhere, placed}
use Rattle.numbers.proofs.PlaceLaws.{place_first}
use Rattle.meaning.specs.Tables.{most, part, list_of}
use Rattle.meaning.specs.Outcome.{k_right, values_right}
use Rattle.numbers.specs.declared.Lookup.{Lookup}
use Rattle.numbers.specs.declared.Lookup.TheVariants.{Has, OneLeft, NoneLeft, Misfit}
use Rattle.making.specs.declared.Number.{Number}
use Rattle.numbers.specs.Asking.{number_in, numbered, part_of}
use Rattle.numbers.specs.Looking.{looked_up, readable, look_up, number_told}
use Rattle.numbers.proofs.StartLaws.{most_le}

-- the first place of a value is its number
pub looked_first : (m : ℕ) (xs : List ℕ) (y i : ℕ) → i < length xs → get_or xs i 0 ≡ y → ((k : ℕ) → k < i → get_or xs k 0 ≡ y → ⊥) → looked_up m xs y ≡ Has (record { 0 = i })
unfolding looked_up listed
looked_first m xs y i h e none = rw (place_first xs y i h e none, lt-ltb i (length xs) h)

-- a value that has no place has no number: one is left, or none
unlisted : (xs : List ℕ) (y : ℕ) → Unseen xs y → listed xs y ≡ false
unfolding listed
unlisted xs y none = go (place xs y) (placed xs y)
  where
    go : (n : ℕ) → Placed xs y n → ltb n (length xs) ≡ false
    go n (here h e) = absurd (none n h e)
    go n (nowhere h u) = le-ltb n (length xs) (omega arith)

pub looked_left : (m : ℕ) (xs : List ℕ) (y : ℕ) → Unseen xs y → length xs < m → looked_up m xs y ≡ OneLeft
unfolding looked_up
looked_left m xs y none h = rw (unlisted xs y none, lt-ltb (length xs) m h)

pub looked_none : (m : ℕ) (xs : List ℕ) (y : ℕ) → Unseen xs y → m ≤ length xs → looked_up m xs y ≡ NoneLeft
unfolding looked_up
looked_none m xs y none h = rw (unlisted xs y none, le-ltb (length xs) m h)

-- what is told is the number of the value, or that it has none
pub told_number : (m : ℕ) (xs : List ℕ) (y : ℕ) → number_told (looked_up m xs y) ≡ number_in xs y
unfolding looked_up number_told number_in
told_number m xs y = go (listed xs y) (ltb (length xs) m)
  where
    go : (t u : Bool) → number_told (cond t (Has (record { 0 = place xs y })) (cond u OneLeft NoneLeft)) ≡ cond t (numbered (place xs y)) None
    go true u = refl
    go false true = refl
    go false false = refl

pub told_is : (m : ℕ) (xs : List ℕ) (y : ℕ) {n : Option Number} {found : Lookup} → found ≡ looked_up m xs y → n ≡ number_told found → number_in xs y ≡ n
told_is m xs y e h = sym (h ∙ (ap number_told e ∙ told_number m xs y))

-- a k that is right is small
pub small : (k : ℕ) → k_right k ≡ true → k ≤ 10
unfolding k_right
small k e = leb-true k 10 (and_true_r (ltb 0 k) (leb k 10) e)

-- each test that fails leaves nothing to look in
module _ (k : ℕ) (counts values : List ℕ) (v : ℕ) where
  pub wrong_k : k_right k ≡ false → false ≡ readable k counts values v
  unfolding readable
  wrong_k e = rw e refl

  pub no_variable : 3 < v → false ≡ readable k counts values v
  unfolding readable
  no_variable h = rw (le-ltb v 4 h, and-false (values_right k values), and-false (k_right k))

  module _ (right_k : k_right k ≡ true) where
    pub no_parts : (length values ≡ 4 * most k → ⊥) → false ≡ readable k counts values v
    unfolding readable values_right
    no_parts h = rw (right_k, ne_eqb (length values) (4 * most k) h) refl

    pub counted : length values ≡ 4 * most k → v ≤ 3 → leb (get_or counts v 0) (most k) ≡ readable k counts values v
    unfolding readable values_right
    counted parts h = rw (right_k, eq-eqb (length values) (4 * most k) parts, lt-ltb v 4 (omega arith)) refl

  -- where there is something to look in, it is the variable's part
  module _ (r : readable k counts values v ≡ true) where
    abbrev rest : Bool
    rest = ltb v 4 && leb (get_or counts v 0) (most k)

    later : (values_right k values && rest) ≡ true
    unfolding readable
    later = and_true_r (k_right k) (values_right k values && rest) r

    last : rest ≡ true
    last = and_true_r (values_right k values) rest later

    pub few_bits : k ≤ 10
    unfolding readable k_right
    few_bits = leb-true k 10 (and_true_r (ltb 0 k) (leb k 10) (and_true_l (ltb 0 k && leb k 10) (values_right k values && rest) r))

    pub variable : v < 4
    variable = ltb-true v 4 (and_true_l (ltb v 4) (leb (get_or counts v 0) (most k)) last)

    pub count_fits : get_or counts v 0 ≤ most k
    count_fits = leb-true (get_or counts v 0) (most k) (and_true_r (ltb v 4) (leb (get_or counts v 0) (most k)) last)

    pub inside : (most k ≤ 1023) × (length values ≡ 4 * most k) × (v < 4) × (get_or counts v 0 ≤ most k)
    unfolding values_right
    inside = (most_le k few_bits, eqb-true (length values) (4 * most k) (and_true_l (eqb (length values) (4 * most k)) rest later), variable, count_fits)

    pub looks_in : (y : ℕ) → looked_up (most k) (part_of (most k) counts values v) y ≡ look_up k counts values v y
    unfolding look_up list_of part part_of
    looks_in y = rw (r, take-take (get_or counts v 0) (most k) (drop (v * most k) values) count_fits) refl

  pub misfit : (y : ℕ) → readable k counts values v ≡ false → Misfit ≡ look_up k counts values v y
  unfolding look_up
  misfit y h = rw h refl

-- the values of a part, as a piece of the slice
pub piece : (m : ℕ) (counts values : List ℕ) (v : ℕ) → take (v * m + get_or counts v 0 - v * m) (drop (v * m) values) ≡ part_of m counts values v
unfolding part_of
piece m counts values v = let z : v * m + get_or counts v 0 - v * m ≡ get_or counts v 0 = omega arith in rw z refl

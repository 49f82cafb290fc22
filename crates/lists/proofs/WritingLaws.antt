-- Laws of writing fresh values into the value slice, and of the lowest variable that is short. Assumes nothing.
use Prim.Native.Nat.{ℕ, zero, suc, ◌+◌, ◌-◌, ◌*◌, ◌≤◌, ◌<◌, min}
use mathlib.Core.Path.{◌≡◌, refl, ap, sym, ◌∙◌}
use mathlib.Core.Bool.{Bool, true, false}
use mathlib.Core.List.{List, [], ◌∷◌, ◌++◌, append_assoc, append-nil}
use mathlib.Core.Logic.{⊎_elim}
use native.Mathlib.Nat.{suc-add, zero-add}
use native.Mathlib.Numerals.{add-one}
use native.Mathlib.Omega.{arith}
use lib.ListN.{length, get_or, take, drop, set, replicate, length-append, length-drop, get_or-map}
use lib.Seq.{set-append_left, set-append_seam, take-suc, get_or-drop, length-take-le}
use Rattle.trees.proofs.Tests.{lt_or_ge, false_true}
use Rattle.meaning.specs.Rows.{first_below}
use Rattle.meaning.specs.Numbering.{Lists}
use Rattle.meaning.specs.Tables.{most, padded, lay_values}
use Rattle.meaning.proofs.RowsLaws.{first_le, first_none, first_some}
use Rattle.meaning.proofs.PartsLaws.{padded_length}
use Rattle.meaning.specs.declared.Value.{Value}
use Rattle.numbers.specs.Asking.{bare, with_fresh}
use Rattle.lists.specs.Writing.{written}
use Rattle.numbers.proofs.TallyLaws.{same_or_not}

-- the least number of which a test holds is the one before which it fails
pub first_is : (n : ℕ) (f : ℕ → Bool) (r : ℕ) → r ≤ n → ((i : ℕ) → i < r → f i ≡ false) → (r < n → f r ≡ true) → first_below n f ≡ r
first_is n f r h none some = ⊎_elim
    (λ p. absurd (false_true (none (first_below n f) p) (first_some n f (omega arith))))
    (λ p. ⊎_elim (λ q. absurd (false_true (first_none n f r q) (some (omega (arith, first_le n f))))) (λ q. omega arith) (lt_or_ge r (first_below n f)))
    (lt_or_ge (first_below n f) r)

-- a store behind a list
set_right : (xs ys : List ℕ) (i a : ℕ) → set (xs ++ ys) (length xs + i) a ≡ xs ++ set ys i a
set_right [] ys i a = rw (zero-add i)
set_right (x ∷ xs) ys i a = rw (suc-add (length xs) i) (ap (λ (l : List ℕ). x ∷ l) (set_right xs ys i a))

set_past : (xs ys : List ℕ) (m i a : ℕ) → length xs ≡ m → set (xs ++ ys) (m + i) a ≡ xs ++ set ys i a
set_past xs ys m i a e = rw (← e) (set_right xs ys i a)

-- a value written behind a padded list
padded_set : (m : ℕ) (xs : List ℕ) (y : ℕ) → length xs < m → set (padded m xs) (length xs) y ≡ padded m (xs ++ y ∷ [])
unfolding padded
padded_set m xs y h =
    let e : m - length xs ≡ suc (m - suc (length xs)) = omega arith in
    let f : length (xs ++ y ∷ []) ≡ suc (length xs) = length-append xs (y ∷ []) ∙ add-one (length xs) in
    rw (e, f, set-append_seam xs 0 (replicate (m - suc (length xs)) 0) y) (sym (append_assoc xs (y ∷ []) (replicate (m - suc (length xs)) 0)))

-- what is laid out depends on the four lists alone
pub lay_same : (k : ℕ) (L M : Lists) → ((v : ℕ) → v < 4 → L v ≡ M v) → lay_values k L ≡ lay_values k M
unfolding lay_values
lay_same k L M e = rw (e 0 (omega arith), e 1 (omega arith), e 2 (omega arith), e 3 (omega arith))

-- a store in one of four parts
module _ (m : ℕ) (p q r s : List ℕ) (hp : length p ≡ m) (hq : length q ≡ m) (hr : length r ≡ m) (i a : ℕ) (h : i < m) where
  set_0 : set (p ++ (q ++ (r ++ s))) (0 * m + i) a ≡ set p i a ++ (q ++ (r ++ s))
  set_0 = let z : 0 * m + i ≡ i = omega arith in rw z (set-append_left p (q ++ (r ++ s)) i a (omega arith))

  set_1 : set (p ++ (q ++ (r ++ s))) (1 * m + i) a ≡ p ++ (set q i a ++ (r ++ s))
  set_1 = let z : 1 * m + i ≡ m + i = omega arith in rw (z, set_past p (q ++ (r ++ s)) m i a hp, set-append_left q (r ++ s) i a (omega arith))

  set_2 : set (p ++ (q ++ (r ++ s))) (2 * m + i) a ≡ p ++ (q ++ (set r i a ++ s))
  set_2 =
      let z : 2 * m + i ≡ m + (m + i) = omega arith in
      rw (z, set_past p (q ++ (r ++ s)) m (m + i) a hp, set_past q (r ++ s) m i a hq, set-append_left r s i a (omega arith))

  set_3 : set (p ++ (q ++ (r ++ s))) (3 * m + i) a ≡ p ++ (q ++ (r ++ set s i a))
  set_3 =
      let z : 3 * m + i ≡ m + (m + (m + i)) = omega arith in
      rw (z, set_past p (q ++ (r ++ s)) m (m + (m + i)) a hp, set_past q (r ++ s) m (m + i) a hq, set_past r s m i a hr)

-- a value written behind the list of the variable v
lay_set : (k : ℕ) (L M : Lists) (v y : ℕ) → ((w : ℕ) → w < 4 → length (L w) ≤ most k) → v < 4 → length (L v) < most k → M v ≡ L v ++ y ∷ []
    → ((w : ℕ) → w < 4 → (w ≡ v → ⊥) → M w ≡ L w) → set (lay_values k L) (v * most k + length (L v)) y ≡ lay_values k M
unfolding lay_values
lay_set k L M v y fits hv room here there = go v hv room here there
  where
    len : (w : ℕ) → w < 4 → length (padded (most k) (L w)) ≡ most k
    len w h = padded_length (most k) (L w) (fits w h)

    go : (v : ℕ) → v < 4 → length (L v) < most k → M v ≡ L v ++ y ∷ [] → ((w : ℕ) → w < 4 → (w ≡ v → ⊥) → M w ≡ L w)
        → set (padded (most k) (L 0) ++ (padded (most k) (L 1) ++ (padded (most k) (L 2) ++ padded (most k) (L 3)))) (v * most k + length (L v)) y
        ≡ padded (most k) (M 0) ++ (padded (most k) (M 1) ++ (padded (most k) (M 2) ++ padded (most k) (M 3)))
    go zero h room here there =
        set_0 (most k) (padded (most k) (L 0)) (padded (most k) (L 1)) (padded (most k) (L 2)) (padded (most k) (L 3)) (len 0 (omega arith)) (len 1 (omega arith)) (len 2 (omega arith)) (length (L 0)) y room
        ∙ rw (padded_set (most k) (L 0) y room, here, there 1 (omega arith) (λ e. omega arith), there 2 (omega arith) (λ e. omega arith), there 3 (omega arith) (λ e. omega arith))
    go (suc zero) h room here there =
        set_1 (most k) (padded (most k) (L 0)) (padded (most k) (L 1)) (padded (most k) (L 2)) (padded (most k) (L 3)) (len 0 (omega arith)) (len 1 (omega arith)) (len 2 (omega arith)) (length (L 1)) y room
        ∙ rw (padded_set (most k) (L 1) y room, here, there 0 (omega arith) (λ e. omega arith), there 2 (omega arith) (λ e. omega arith), there 3 (omega arith) (λ e. omega arith))
    go (suc (suc zero)) h room here there =
        set_2 (most k) (padded (most k) (L 0)) (padded (most k) (L 1)) (padded (most k) (L 2)) (padded (most k) (L 3)) (len 0 (omega arith)) (len 1 (omega arith)) (len 2 (omega arith)) (length (L 2)) y room
        ∙ rw (padded_set (most k) (L 2) y room, here, there 0 (omega arith) (λ e. omega arith), there 1 (omega arith) (λ e. omega arith), there 3 (omega arith) (λ e. omega arith))
    go (suc (suc (suc zero))) h room here there =
        set_3 (most k) (padded (most k) (L 0)) (padded (most k) (L 1)) (padded (most k) (L 2)) (padded (most k) (L 3)) (len 0 (omega arith)) (len 1 (omega arith)) (len 2 (omega arith)) (length (L 3)) y room
        ∙ rw (padded_set (most k) (L 3) y room, here, there 0 (omega arith) (λ e. omega arith), there 1 (omega arith) (λ e. omega arith), there 2 (omega arith) (λ e. omega arith))
    go (suc (suc (suc (suc v)))) h room here there = absurd (omega arith)

-- the lesser of two numbers
min_right : (x g : ℕ) → g ≤ x → min x g ≡ g
min_right x g h = omega arith

min_left : (x g : ℕ) → x ≤ g → min x g ≡ x
min_left x g h = omega arith

-- one fresh value more is written
pub written_none : (m b v : ℕ) (fresh values : List ℕ) → values ≡ written m b fresh v 0 values
unfolding written
written_none m b v fresh values = refl

pub written_more : (m b v j : ℕ) (fresh : List Value) (values now : List ℕ) → now ≡ written m b (bare fresh) v j values
    → set now (v * m + b + j) (get_or fresh (24 * v + j) (record { 0 = 0 })).0 ≡ written m b (bare fresh) v (j + 1) values
unfolding written
written_more m b v j fresh values now e = rw (add-one j, e, get_or-map (λ (x : Value). x.0) fresh (24 * v + j) (record { 0 = 0 }))

-- The lists after the first t of the 96 places, of which 24 belong to each variable.
unfoldable pub first_fresh : List ℕ → List ℕ → List ℕ → Lists → ℕ → Lists
first_fresh before counts fresh L t v = L v ++ take (min (t - 24 * v) (get_or counts v 0 - get_or before v 0)) (drop (24 * v) fresh)

module _ (k : ℕ) (before counts fresh : List ℕ) (L : Lists) (start : (v : ℕ) → v < 4 → length (L v) ≡ get_or before v 0)
    (few : (v : ℕ) → v < 4 → get_or counts v 0 ≤ get_or before v 0 + 24) (room : (v : ℕ) → v < 4 → get_or counts v 0 ≤ most k)
    (grown : (v : ℕ) → v < 4 → get_or before v 0 ≤ get_or counts v 0) where
  pub fresh_none : lay_values k (first_fresh before counts fresh L (24 * 0)) ≡ lay_values k L
  unfolding first_fresh
  fresh_none = lay_same k (first_fresh before counts fresh L (24 * 0)) L (λ v h. let z : min (24 * 0 - 24 * v) (get_or counts v 0 - get_or before v 0) ≡ 0 = omega arith in rw z (append-nil (L v)))

  pub fresh_all : (v : ℕ) → v ≡ 4 → lay_values k (first_fresh before counts fresh L (24 * v)) ≡ lay_values k (with_fresh before counts fresh L)
  unfolding first_fresh with_fresh
  fresh_all v e = lay_same k (first_fresh before counts fresh L (24 * v)) (with_fresh before counts fresh L) (λ w h.
      let z : min (24 * v - 24 * w) (get_or counts w 0 - get_or before w 0) ≡ get_or counts w 0 - get_or before w 0 = omega (arith, few w h) in rw z)

  module _ (size : length fresh ≡ 96) where
    -- how many values of a variable stand there
    listed_size : (t v : ℕ) → v < 4 → length (first_fresh before counts fresh L t v) ≡ get_or before v 0 + min (t - 24 * v) (get_or counts v 0 - get_or before v 0)
    unfolding first_fresh
    listed_size t v h =
        length-append (L v) _
        ∙ rw (start v h, length-take-le (min (t - 24 * v) (get_or counts v 0 - get_or before v 0)) (drop (24 * v) fresh) (rw (length-drop, size) (omega (arith, few v h))))

    -- two places of the variable v leave the other variables' lists alike
    same : (v w i j : ℕ) → w < 4 → i ≤ 24 → j ≤ 24 → (w ≡ v → ⊥) → first_fresh before counts fresh L (24 * v + i) w ≡ first_fresh before counts fresh L (24 * v + j) w
    unfolding first_fresh
    same v w i j h hi hj n = ⊎_elim
        (λ p.
        let g : get_or counts w 0 - get_or before w 0 ≤ 24 = omega (arith, few w h) in
        rw (min_right (24 * v + i - 24 * w) (get_or counts w 0 - get_or before w 0) (omega arith), min_right (24 * v + j - 24 * w) (get_or counts w 0 - get_or before w 0) (omega arith)))
        (λ p.
        let x : 24 * v + i - 24 * w ≡ 0 = omega (arith, n) in
        let y : 24 * v + j - 24 * w ≡ 0 = omega (arith, n) in
        rw (x, y))
        (lt_or_ge w v)

    -- a fresh value goes to the end of its variable's list
    module _ (v j : ℕ) (h : v < 4) (p : j < get_or counts v 0 - get_or before v 0) where
      there : min (24 * v + j - 24 * v) (get_or counts v 0 - get_or before v 0) ≡ j
      there = let z : 24 * v + j - 24 * v ≡ j = omega arith in rw z (min_left j (get_or counts v 0 - get_or before v 0) (omega arith))

      one_more : min (24 * v + suc j - 24 * v) (get_or counts v 0 - get_or before v 0) ≡ suc j
      one_more = let z : 24 * v + suc j - 24 * v ≡ suc j = omega arith in rw z (min_left (suc j) (get_or counts v 0 - get_or before v 0) (omega arith))

      next : first_fresh before counts fresh L (24 * v + suc j) v ≡ first_fresh before counts fresh L (24 * v + j) v ++ get_or fresh (24 * v + j) 0 ∷ []
      unfolding first_fresh
      next =
          let l : j < length (drop (24 * v) fresh) = rw (length-drop, size) (omega (arith, few v h)) in
          rw (one_more, there, take-suc (drop (24 * v) fresh) j 0 l, get_or-drop (24 * v) fresh j 0) (sym (append_assoc (L v) (take j (drop (24 * v) fresh)) (get_or fresh (24 * v + j) 0 ∷ [])))

      length_here : length (first_fresh before counts fresh L (24 * v + j) v) ≡ get_or before v 0 + j
      length_here = listed_size (24 * v + j) v h ∙ rw there

      fits : (w : ℕ) → w < 4 → length (first_fresh before counts fresh L (24 * v + j) w) ≤ most k
      fits w q = rw (listed_size (24 * v + j) w q) (omega (arith, room w q, grown w q))

      fresh_one : set (lay_values k (first_fresh before counts fresh L (24 * v + j))) (v * most k + get_or before v 0 + j) (get_or fresh (24 * v + j) 0) ≡ lay_values k (first_fresh before counts fresh L (24 * v + suc j))
      fresh_one =
          let z : v * most k + get_or before v 0 + j ≡ v * most k + length (first_fresh before counts fresh L (24 * v + j) v) = omega (arith, length_here) in
          rw z
          (lay_set k (first_fresh before counts fresh L (24 * v + j)) (first_fresh before counts fresh L (24 * v + suc j)) v (get_or fresh (24 * v + j) 0) fits h
          (rw length_here (omega (arith, room v h))) next (λ w q n. same v w (suc j) j q (omega (arith, few v h)) (omega (arith, few v h)) n))

    -- the fresh values of one variable, up to the place j
    written_to : (v j : ℕ) (values : List ℕ) → v < 4 → j ≤ get_or counts v 0 - get_or before v 0 → values ≡ lay_values k (first_fresh before counts fresh L (24 * v))
        → written (most k) (get_or before v 0) fresh v j values ≡ lay_values k (first_fresh before counts fresh L (24 * v + j))
    unfolding written
    written_to v zero values h q e = let z : 24 * v + 0 ≡ 24 * v = omega arith in rw z e
    written_to v (suc j) values h q e = rw (written_to v j values h (omega arith) e) (fresh_one v j h (omega arith))

    -- all of them
    whole : (v : ℕ) → v < 4 → first_fresh before counts fresh L (24 * v + (get_or counts v 0 - get_or before v 0)) v ≡ first_fresh before counts fresh L (24 * (v + 1)) v
    unfolding first_fresh
    whole v h =
        let g : get_or counts v 0 - get_or before v 0 ≤ 24 = omega (arith, few v h) in
        rw (min_right (24 * v + (get_or counts v 0 - get_or before v 0) - 24 * v) (get_or counts v 0 - get_or before v 0) (omega arith), min_right (24 * (v + 1) - 24 * v) (get_or counts v 0 - get_or before v 0) (omega arith))

    pub fresh_more : (v : ℕ) (values : List ℕ) → v < 4 → values ≡ lay_values k (first_fresh before counts fresh L (24 * v))
        → written (most k) (get_or before v 0) fresh v (get_or counts v 0 - get_or before v 0) values ≡ lay_values k (first_fresh before counts fresh L (24 * (v + 1)))
    fresh_more v values h e =
        written_to v (get_or counts v 0 - get_or before v 0) values h (omega arith) e
        ∙ lay_same k (first_fresh before counts fresh L (24 * v + (get_or counts v 0 - get_or before v 0))) (first_fresh before counts fresh L (24 * (v + 1))) (λ w q. ⊎_elim
        (λ n. let z : w ≡ v = n in rw z (whole v h))
        (λ n.
        let g : get_or counts v 0 - get_or before v 0 ≤ 24 = omega (arith, few v h) in
        let u : 24 ≤ 24 = omega arith in
        let z : 24 * (v + 1) ≡ 24 * v + 24 = omega arith in
        rw z (same v w (get_or counts v 0 - get_or before v 0) 24 q g u n))
        (same_or_not w v))

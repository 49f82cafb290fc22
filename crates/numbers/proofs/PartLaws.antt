-- Laws of the parts of the value slice, and of a value's number among those of a part and the fresh ones behind them. Assumes nothing.
use Prim.Native.Nat.{ℕ, zero, suc, ◌+◌, ◌-◌, ◌*◌, ◌≤◌, ◌<◌}
use mathlib.Core.Path.{◌≡◌, refl, ap, sym, ◌∙◌}
use mathlib.Core.List.{List, [], ◌∷◌}
use native.Mathlib.Omega.{arith}
use lib.ListN.{length, get_or, take, drop, length-take, length-drop, length-map}
use lib.Seq.{length-take-le}
use Rattle.std.specs.Prelude.{Option, Some, None}
use Rattle.making.specs.declared.Number.{Number}
use Rattle.meaning.specs.declared.Value.{Value}
use Rattle.numbers.specs.Asking.{number_in, numbered, bare, with_fresh, Parted, part_of}
use Rattle.numbers.proofs.PlaceLaws.{number_low, number_left, number_nowhere, number_right}

-- a part of m numbers of the four ends within the whole
pub part_inside : (v m c : ℕ) → v < 4 → c ≤ m → v * m + c ≤ 4 * m
part_inside zero m c h k = omega arith
part_inside (suc zero) m c h k = omega arith
part_inside (suc (suc zero)) m c h k = omega arith
part_inside (suc (suc (suc zero))) m c h k = omega arith
part_inside (suc (suc (suc (suc v)))) m c h k = absurd (omega arith)

-- a part has as many values as its count says
pub part_size : (m : ℕ) (before values : List ℕ) → Parted m before values → (v : ℕ) → v < 4 → length (part_of m before values v) ≡ get_or before v 0
unfolding part_of
part_size m before values p v hv =
    length-take-le (get_or before v 0) (drop (v * m) values)
    (rw (length-drop, p.whole) (omega (arith, part_inside v m (get_or before v 0) hv (p.counts_fit v hv))))

-- what was found of y in the part of v, and then among the fresh values
module _ (m : ℕ) (before values counts : List ℕ) (fresh : List Value) (v y : ℕ) (p : Parted m before values) (hv : v < 4) where
  pub known_old : (n : Number) → number_in (part_of m before values v) y ≡ Some n → Some n ≡ number_in (with_fresh before counts (bare fresh) (part_of m before values) v) y
  unfolding with_fresh
  known_old n e =
      sym (number_left (part_of m before values v) (take (get_or counts v 0 - get_or before v 0) (drop (24 * v) (bare fresh))) y (λ z. not_none n (sym e ∙ z)) ∙ e)
    where
      not_none : (n : Number) → ◌≡◌ {A = Option Number} (Some n) None → ⊥
      not_none n e = cc

  module _ (none : number_in (part_of m before values v) y ≡ None) (few : get_or counts v 0 ≤ get_or before v 0 + 24) where
    abbrev pub piece : List Value
    piece = take (24 * v + (get_or counts v 0 - get_or before v 0) - 24 * v) (drop (24 * v) fresh)

    piece_is : bare piece ≡ take (get_or counts v 0 - get_or before v 0) (drop (24 * v) (bare fresh))
    piece_is =
        let z : 24 * v + (get_or counts v 0 - get_or before v 0) - 24 * v ≡ get_or counts v 0 - get_or before v 0 = omega arith in
        rw z (mapped_take (get_or counts v 0 - get_or before v 0) (drop (24 * v) fresh) ∙ ap (take (get_or counts v 0 - get_or before v 0)) (mapped_drop (24 * v) fresh))
      where
        mapped_take : (n : ℕ) (xs : List Value) → bare (take n xs) ≡ take n (bare xs)
        mapped_take zero xs = refl
        mapped_take (suc n) [] = refl
        mapped_take (suc n) (x ∷ xs) = rw (mapped_take n xs)

        mapped_drop : (n : ℕ) (xs : List Value) → bare (drop n xs) ≡ drop n (bare xs)
        mapped_drop zero xs = refl
        mapped_drop (suc n) [] = refl
        mapped_drop (suc n) (x ∷ xs) = mapped_drop n xs

    pub known_none : number_in (bare piece) y ≡ None → None ≡ number_in (with_fresh before counts (bare fresh) (part_of m before values) v) y
    unfolding with_fresh
    known_none h = sym (number_nowhere (part_of m before values v) _ y none (rw piece_is at h))

    pub known_new : (i : ℕ) → number_in (bare piece) y ≡ numbered i → numbered (get_or before v 0 + i) ≡ number_in (with_fresh before counts (bare fresh) (part_of m before values) v) y
    unfolding with_fresh
    known_new i h = sym (number_right (part_of m before values v) _ y none i (rw piece_is at h) ∙ rw (part_size m before values p v hv))

    pub new_low : (i : ℕ) → number_in (bare piece) y ≡ numbered i → i < 24
    new_low i h = omega (arith, number_low (bare piece) y i h, length-map piece (λ (x : Value). x.0), length-take (24 * v + (get_or counts v 0 - get_or before v 0) - 24 * v) (drop (24 * v) fresh))

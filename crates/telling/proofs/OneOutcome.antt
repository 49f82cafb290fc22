-- Two outcomes that keep the promise of `enter` are the same: the place of the first entry, and the entries. The numbers before them
-- are not promised. What `alike` promises is an equation. Assumes nothing.
use Prim.Native.Nat.{ℕ, zero, suc, ◌+◌, ◌≤◌, ◌<◌}
use mathlib.Core.Path.{◌≡◌, refl, sym}
use mathlib.Core.List.{List}
use mathlib.Core.Logic.{◌⊎◌, inl, inr, ⊎_elim}
use native.Mathlib.Omega.{arith}
use lib.ListN.{get_or}
use Rattle.trees.proofs.Tests.{lt_or_ge}
use Rattle.telling.specs.Entries.{Listed, Entries}

-- at place j both lists have the same entry, or none
record Agree (w u : List ℕ) (f g j : ℕ) : Type 0 where
  there : f ≤ j → (g ≤ j) × (get_or u j 0 ≡ get_or w j 0)
  back : g ≤ j → (f ≤ j) × (get_or w j 0 ≡ get_or u j 0)

module _ (ns : List ℕ) (kept p base : ℕ) where
  -- an entry of one list is one of the other
  carry : (w u : List ℕ) (f g : ℕ) → Entries ns kept p base w f → Entries ns kept p base u g → (i : ℕ) → f ≤ i → i < p + 1 → Listed u g p (get_or w i 0)
  carry w u f g x y i h k = y.all (get_or w i 0) (x.only (get_or w i 0) (record { place = i; after = h; before = k; is = refl }))

  -- the lists agree after place i: so what one has there the other has
  step : (w u : List ℕ) (f g : ℕ) → Entries ns kept p base w f → Entries ns kept p base u g → (i : ℕ) → i < p + 1 → ((j : ℕ) → i < j → j < p + 1 → Agree w u f g j)
      → f ≤ i → (g ≤ i) × (get_or u i 0 ≡ get_or w i 0)
  step w u f g x y i h above k = near (lt_or_ge c.place i)
    where
      c : Listed u g p (get_or w i 0)
      c = carry w u f g x y i k h

      far : i < c.place → ⊥
      far l =
          let a = (above c.place l c.before).back c.after in
          let o = x.once i c.place k l c.before in
          let e = c.is in
          omega (arith, a.1)

      early : c.place < i → ⊥
      early l =
          let gi : g ≤ i = omega (arith, c.after) in
          let d = carry u w g f y x i gi h in
          let e = c.is in
          let v = d.is in
          let o = y.once c.place i c.after l h in
          ⊎_elim
          (λ z. let q = x.once d.place i d.after z h in omega arith)
          (λ z. ⊎_elim
          (λ r.
          let a = (above d.place r d.before).there d.after in
          let q = y.once i d.place gi r d.before in
          omega (arith, a.1))
          (λ r. let m : d.place ≡ i = omega arith in let n : get_or w i 0 ≡ get_or u i 0 = rw m at v in omega arith)
          (lt_or_ge i d.place))
          (lt_or_ge d.place i)

      near : (c.place < i) ⊎ (i ≤ c.place) → (g ≤ i) × (get_or u i 0 ≡ get_or w i 0)
      near (inl l) = absurd (early l)
      near (inr l) = ⊎_elim
          (λ r. absurd (far r))
          (λ r. let m : c.place ≡ i = omega arith in (omega (arith, c.after), rw m at c.is))
          (lt_or_ge i c.place)

  module _ (w u : List ℕ) (f g : ℕ) (x : Entries ns kept p base w f) (y : Entries ns kept p base u g) where
    -- from the last m places on
    agree : (m j : ℕ) → p + 1 ≤ j + m → j < p + 1 → Agree w u f g j
    agree zero j h k = absurd (omega arith)
    agree (suc m) j h k = record {
      there = step w u f g x y j k (λ i l r. agree m i (omega arith) r);
      back = step u w g f y x j k (λ i l r. let a = agree m i (omega arith) r in record { there = a.back; back = a.there });
    }

    pub one_entries : (f ≡ g) × ((i : ℕ) → f ≤ i → i < p + 1 → get_or w i 0 ≡ get_or u i 0)
    one_entries = (place, λ i h k. sym ((agree (p + 1) i (omega arith) k).there h).1)
      where
        place : f ≡ g
        place = ⊎_elim
            (λ l. let a = (agree (p + 1) f (omega arith) (omega (arith, y.up))).there (omega arith) in absurd (omega (arith, a.0)))
            (λ l. ⊎_elim
            (λ r. let a = (agree (p + 1) g (omega arith) (omega (arith, x.up))).back (omega arith) in absurd (omega (arith, a.0)))
            (λ r. omega arith)
            (lt_or_ge g f))
            (lt_or_ge f g)

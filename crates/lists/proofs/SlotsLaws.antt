-- Laws of the table of slots: where a search begins and how it goes on, that it ends, and how a place joins. Assumes nothing.
use Prim.Native.Nat.{ℕ, zero, suc, ◌+◌, ◌-◌, ◌*◌, ◌/◌, ◌%◌, ◌≤◌, ◌<◌}
use mathlib.Core.Path.{◌≡◌, refl, sym, ◌∙◌}
use mathlib.Core.Bool.{Bool, true, false, cond}
use mathlib.Core.List.{List}
use mathlib.Core.Logic.{◌⊎◌, inl, inr, ⊎_elim}
use native.Mathlib.Nat.{mod-lt, div-le_self, div-lt_iff_lt-mul, mul-le-mul, mul-lt-mul_of_pos_right, mul_comm}
use native.Mathlib.Numerals.{add-one}
use native.Mathlib.Omega.{arith}
use lib.Bits.{bit_xor, xor_lt}
use lib.Dec.{eqb, leb}
use lib.ListN.{length, get_or, set}
use lib.Seq.{get_or-set_same, get_or-set_other}
use borrow.Author.Tests.{eq-eqb, ne_eqb, le-leb, lt-leb}
use Rattle.trees.proofs.Tests.{EqCase, equal, other, eq_case, lt_or_ge, not_true}
use Rattle.meaning.specs.Tables.{distinct}
use Rattle.meaning.proofs.PartsLaws.{distinct_of, of_distinct}
use Rattle.lists.specs.Slots.{mixed, slot_of, next_of, Leads, here, later, Stands, zeros, Table, Searchable, Sought, Apart}
use Rattle.numbers.proofs.TallyLaws.{same_or_not}

-- the bits that are mixed stay a number of 32 bits
pub turned : (low : ℕ) → low < 4294967296 → bit_xor low (low / 32768) < 4294967296
turned low h = xor_lt 32 low (low / 32768) h (omega (arith, div-le_self low 32768))

-- and take no more than 64 where there are at most 2^32 slots
pub scaled : (low size : ℕ) → low < 4294967296 → size ≤ 4294967296 → low * size < 18446744073709551616
scaled low size h k = omega (arith, mul-le-mul {n₁ = low} {m₁ = size} {n₂ = 4294967295} {m₂ = 4294967296} (omega arith) k)

-- a search begins at a slot of the table
pub slot_low : (size y : ℕ) → 0 < size → slot_of size y < size
unfolding slot_of mixed
slot_low size y h =
    let low = mixed (y * 2654435769 % 4294967296) in
    let below : low < 4294967296 = mod-lt (bit_xor (y * 2654435769 % 4294967296) (y * 2654435769 % 4294967296 / 32768) * 3266489909) (omega arith) in
    (div-lt_iff_lt-mul {k = 4294967296} {x = low * size} {y = size} (omega arith)).1 (rw (mul_comm size 4294967296) (mul-lt-mul_of_pos_right below h))

-- how far it is from the slot p on to the slot t
unfoldable pub distance : ℕ → ℕ → ℕ → ℕ
distance size t p = cond (leb p t) (t - p) (size - p + t)

-- a search comes nearer to a slot that it is not at
pub nearer : (size t p : ℕ) → t < size → p < size → (p ≡ t → ⊥) → distance size t (next_of size p) < distance size t p
unfolding distance next_of
nearer size t p h k n = go (eqb (p + 1) size) (eq_case (p + 1) size)
  where
    go : (b : Bool) → EqCase (p + 1) size b → cond (leb (cond b 0 (p + 1)) t) (t - cond b 0 (p + 1)) (size - cond b 0 (p + 1) + t) < cond (leb p t) (t - p) (size - p + t)
    go true (equal e) = rw (le-leb 0 t (omega arith), lt-leb p t (omega (arith, n))) (omega arith)
    go false (other e) = ⊎_elim
        (λ q. rw (le-leb (p + 1) t (omega arith), le-leb p t (omega arith)) (omega arith))
        (λ q. rw (lt-leb (p + 1) t (omega arith), lt-leb p t (omega (arith, n))) (omega (arith, e)))
        (lt_or_ge p t)

-- the last of the first n numbers that is 0
unfoldable pub vacancy : List ℕ → ℕ → ℕ
vacancy xs zero = 0
vacancy xs (suc n) = cond (eqb (get_or xs n 0) 0) n (vacancy xs n)

-- there is one where any is 0
pub vacant_slot : (xs : List ℕ) (n : ℕ) → 0 < zeros xs n → (vacancy xs n < n) × (get_or xs (vacancy xs n) 0 ≡ 0)
unfolding zeros vacancy
vacant_slot xs zero h = absurd (omega arith)
vacant_slot xs (suc n) h = go (eqb (get_or xs n 0) 0) (eq_case (get_or xs n 0) 0) h (vacant_slot xs n)
  where
    go : (b : Bool) → EqCase (get_or xs n 0) 0 b → 0 < zeros xs n + cond b 1 0 → (0 < zeros xs n → (vacancy xs n < n) × (get_or xs (vacancy xs n) 0 ≡ 0))
        → (cond b n (vacancy xs n) < suc n) × (get_or xs (cond b n (vacancy xs n)) 0 ≡ 0)
    go true (equal e) k f = (omega arith, e)
    go false (other e) k f = let q = f (omega arith) in (omega (arith, q.0), q.1)

-- all are 0
pub zeros_all : (xs : List ℕ) (n : ℕ) → ((t : ℕ) → t < n → get_or xs t 0 ≡ 0) → zeros xs n ≡ n
unfolding zeros
zeros_all xs zero h = refl
zeros_all xs (suc n) h = rw (eq-eqb (get_or xs n 0) 0 (h n (omega arith)), zeros_all xs n (λ t k. h t (omega arith))) (add-one n)

-- a store past them
zeros_past : (xs : List ℕ) (n t x : ℕ) → n ≤ t → zeros (set xs t x) n ≡ zeros xs n
unfolding zeros
zeros_past xs zero t x h = refl
zeros_past xs (suc n) t x h = rw (get_or-set_other xs t n x 0 (λ e. omega arith), zeros_past xs n t x (omega arith))

-- a 0 less
zeros_less : (xs : List ℕ) (n t x : ℕ) → t < n → t < length xs → get_or xs t 0 ≡ 0 → (x ≡ 0 → ⊥) → zeros (set xs t x) n + 1 ≡ zeros xs n
unfolding zeros
zeros_less xs zero t x h k e f = absurd (omega arith)
zeros_less xs (suc n) t x h k e f = ⊎_elim
    (λ p. rw (get_or-set_other xs t n x 0 (λ q. omega arith), ← zeros_less xs n t x p k e f) (omega arith))
    (λ p.
    let z : n ≡ t = omega arith in
    rw (z, get_or-set_same xs t x 0 k, ne_eqb x 0 f, eq-eqb (get_or xs t 0) 0 e, zeros_past xs t t x (omega arith)) (omega arith))
    (lt_or_ge t n)

-- a search that has come to a taken slot goes on behind it
pub leads_on : (work : List ℕ) (size p first : ℕ) → (get_or work p 0 ≡ 0 → ⊥) → Leads work size p first → Leads work size (next_of size p) first
leads_on work size p first n (here q e) = later q (λ z. n (rw e at z)) (here (next_of size q) (rw e refl))
leads_on work size p first n (later q m l) = later q m (leads_on work size p (next_of size q) n l)

-- from a free slot a search leads nowhere else
leads_free : (work : List ℕ) (size t p : ℕ) → get_or work p 0 ≡ 0 → Leads work size t p → p ≡ t
leads_free work size t p e (here q f) = f
leads_free work size t p e (later q n l) = absurd (n e)

-- from a taken one it leads to that one, or on
leads_next : (work : List ℕ) (size t p : ℕ) → Leads work size t p → (p ≡ t) ⊎ Leads work size t (next_of size p)
leads_next work size t p (here q f) = inl f
leads_next work size t p (later q n l) = inr l

-- the search for the value at place n stands at the slot p, which has q: the earlier places of the value are still ahead
pub record Searching (list work : List ℕ) (size n p q : ℕ) : Type 0 where
  pub low : p < size
  pub held : q ≡ get_or work p 0
  pub place : q ≤ n
  pub way : Leads work size p (slot_of size (get_or list n 0))
  pub ahead : (t i : ℕ) → get_or work t 0 ≡ suc i → get_or list i 0 ≡ get_or list n 0 → Leads work size t (slot_of size (get_or list n 0)) → Leads work size t p

module _ (list work : List ℕ) (size n : ℕ) (s : Searchable list work size n) where
  pub begin : (p : ℕ) → p ≡ slot_of size (get_or list n 0) → p < size → Searching list work size n p (get_or work p 0)
  begin p e h = record {
    low = h;
    held = refl;
    place = s.table.places p h;
    way = here (slot_of size (get_or list n 0)) (sym e);
    ahead = λ t i f g l. rw e l;
  }

  module _ (p q : ℕ) (a : Searching list work size n p q) where
    some : (q ≡ 0 → ⊥) → get_or work p 0 ≡ 0 → ⊥
    some h e = h (a.held ∙ e)

    pub go_on : (r : ℕ) → r ≡ next_of size p → r < size → (q ≡ 0 → ⊥) → (get_or list (q - 1) 0 ≡ get_or list n 0 → ⊥) → Searching list work size n r (get_or work r 0)
    go_on r z low h m = record {
      low = low;
      held = refl;
      place = s.table.places r low;
      way = rw z (leads_on work size p (slot_of size (get_or list n 0)) (some h) a.way);
      ahead = λ t i e f l. rw z
          (⊎_elim
          (λ g. let y : p ≡ t = g in absurd (m (let x : q - 1 ≡ i = omega (arith, a.held, rw (← y) at e) in rw x f)))
          (λ g. g)
          (leads_next work size t p (a.ahead t i e f l)));
    }

    -- a slot is free, and the search comes nearer to it
    pub closer : (r : ℕ) → r ≡ next_of size p → (q ≡ 0 → ⊥) → distance size (vacancy work size) r < distance size (vacancy work size) p
    closer r z h =
        let v = vacant_slot work size (omega (arith, s.table.free, s.more)) in
        rw z (nearer size (vacancy work size) p v.0 a.low (λ e. some h (rw e v.1)))

    -- it ends at a free slot, where it has met no place of the value
    pub sought_none : q ≡ 0 → Sought list work size n p
    sought_none h = record {
      inside = a.low;
      reached = a.way;
      met = λ f. absurd (f (sym a.held ∙ h));
      new = λ f i k e.
          let st = s.table.stands i k in
          let z = leads_free work size st.0 p f (a.ahead st.0 i st.1.place e (rw e at st.1.reached)) in
          let w : get_or work p 0 ≡ suc i = rw z st.1.place in
          omega (arith, w);
    }

-- the place n joins at the free slot p, at which the search for its value has ended
module _ (list work : List ℕ) (size n p : ℕ) (s : Searchable list work size n) (r : Sought list work size n p) (none : get_or work p 0 ≡ 0) where
  new : List ℕ
  new = set work p (n + 1)

  place_new : get_or new p 0 ≡ n + 1
  unfolding new
  place_new = get_or-set_same work p (n + 1) 0 (omega (arith, r.inside, s.inside))

  place_old : (t : ℕ) → (t ≡ p → ⊥) → get_or new t 0 ≡ get_or work t 0
  unfolding new
  place_old t h = get_or-set_other work p t (n + 1) 0 h

  -- what was taken stays so, and so a search that led somewhere leads there
  still : (t q : ℕ) → Leads work size t q → Leads new size t q
  still t q (here q' e) = here q e
  still t q (later q' m l) = later q (λ z. ⊎_elim
      (λ e. absurd (let y : get_or new q 0 ≡ n + 1 = rw e place_new in omega (arith, y)))
      (λ e. m (sym (place_old q e) ∙ z))
      (same_or_not q p)) (still t (next_of size q) l)

  places_more : (t : ℕ) → t < size → get_or new t 0 ≤ n + 1
  places_more t h = ⊎_elim
      (λ e. let z : t ≡ p = e in rw (z, place_new) (omega arith))
      (λ e. rw (place_old t e) (omega (arith, s.table.places t h)))
      (same_or_not t p)

  stands_more : (i : ℕ) → i < n + 1 → (t : ℕ) × Stands list new size i t
  stands_more i h = ⊎_elim
      (λ k.
      let st = s.table.stands i k in
      let away : st.0 ≡ p → ⊥ = λ e. let w : get_or work p 0 ≡ suc i = rw e at st.1.place in omega (arith, w) in
      (st.0, record { inside = st.1.inside; place = place_old st.0 away ∙ st.1.place; reached = still st.0 (slot_of size (get_or list i 0)) st.1.reached }))
      (λ k.
      let z : i ≡ n = omega arith in
      (p, record { inside = r.inside; place = rw z (place_new ∙ add-one n); reached = rw z (still p (slot_of size (get_or list n 0)) r.reached) }))
      (lt_or_ge i n)

  pub table_more : Table list (set work p (n + 1)) size (n + 1)
  unfolding new
  table_more = record {
    places = places_more;
    stands = stands_more;
    free = let z = zeros_less work size p (n + 1) r.inside (omega (arith, r.inside, s.inside)) none (λ e. omega arith) in omega (arith, z, s.table.free);
  }

  -- its value is none of the earlier ones
  pub apart_more : Apart list n → Apart list (n + 1)
  apart_more a i j h k e = ⊎_elim
      (λ p. a i j p k e)
      (λ p. let z : i ≡ n = omega arith in r.new none j (omega arith) (sym (rw z at e)))
      (lt_or_ge i n)

-- no place stands in a table whose slots are all free
pub table_none : (list work : List ℕ) (size : ℕ) → ((t : ℕ) → t < size → get_or work t 0 ≡ 0) → Table list work size 0
table_none list work size z = record {
  places = λ t h. omega (arith, z t h);
  stands = λ i h. absurd (omega arith);
  free = omega (arith, zeros_all work size z);
}

-- all values differ, or one stands twice
pub apart_distinct : (list : List ℕ) (n : ℕ) → n ≡ length list → Apart list n → true ≡ distinct list
apart_distinct list n z a = sym (of_distinct list (λ i j p q e. ⊎_elim
    (λ h. absurd (a j i (omega arith) h (sym e)))
    (λ h. ⊎_elim (λ k. absurd (a i j (omega arith) k e)) (λ k. omega arith) (lt_or_ge j i))
    (lt_or_ge i j)))

pub twice_distinct : (list : List ℕ) (i j : ℕ) → i < j → j < length list → get_or list i 0 ≡ get_or list j 0 → false ≡ distinct list
twice_distinct list i j h k e = sym (not_true (distinct list) (λ t. let z = distinct_of list t i j (omega arith) k e in omega arith))

-- Laws of asking one number: what is written down shows the lists after it. Assumes nothing.
use Prim.Native.Nat.{ℕ, zero, suc, ◌+◌, ◌-◌, ◌*◌, ◌≤◌, ◌<◌}
use mathlib.Core.Path.{◌≡◌, refl, ap, sym, ◌∙◌}
use mathlib.Core.Bool.{Bool, true, false}
use mathlib.Core.List.{List, [], ◌∷◌, append_assoc}
use mathlib.Core.Logic.{◌⊎◌, inl, inr, ⊎_elim}
use native.Mathlib.Omega.{arith}
use lib.Dec.{eqb}
use lib.ListN.{length, get_or, take, drop, set, length-append, length-set, length-drop}
use lib.Seq.{get_or-set_same, get_or-set_other, drop-set-lt, drop-set-add, take-set-le, take-suc-set}
use borrow.Author.Tests.{eq-eqb, ne_eqb}
use Rattle.trees.proofs.Tests.{EqCase, equal, other, eq_case, lt_or_ge}
use Rattle.meaning.specs.Numbering.{Lists, listed, ask}
use Rattle.std.specs.Prelude.{Option, Some, None}
use Rattle.making.specs.declared.Number.{Number}
use Rattle.numbers.specs.Asking.{number_in, numbered, with_fresh, Sheet, Given, Tally, vacant, vacancies, Steady, Carried, Pair}
use Rattle.numbers.proofs.PlaceLaws.{listed_of, unlisted_of, number_snoc, ask_listed, ask_here, ask_other}

-- two numbers are equal or not
pub same_or_not : (m n : ℕ) → (m ≡ n) ⊎ (m ≡ n → ⊥)
same_or_not m n = go (eqb m n) (eq_case m n)
  where
    go : (t : Bool) → EqCase m n t → (m ≡ n) ⊎ (m ≡ n → ⊥)
    go true (equal q) = inl q
    go false (other q) = inr q

-- a number that is none counts, another does not
vacant_none : (n : Option Number) → n ≡ None → vacant n ≡ 1
unfolding vacant
vacant_none n h = rw h

vacant_not : (n : Option Number) → (n ≡ None → ⊥) → vacant n ≡ 0
unfolding vacant
vacant_not None h = absurd (h refl)
vacant_not (Some n) h = refl

-- a pair of a variable and a place is one of the others, or this one
same_pair : (v j w i : ℕ) → Pair v j w i ⊎ (w ≡ v → i ≡ j → ⊥)
same_pair v j w i = ⊎_elim
    (λ p. ⊎_elim (λ q. inl (p, q)) (λ q. inr (λ e f. q f)) (same_or_not i j))
    (λ p. inr (λ e f. p e))
    (same_or_not w v)

-- the number n is stored for the pair of v and j, which had none
module _ (ns : List (Option Number)) (v j : ℕ) (n : Option Number) (hj : j < 3) (room : 3 * v + j < length ns) (none : get_or ns (3 * v + j) None ≡ None) (real : n ≡ None → ⊥) where
  stored : (w i : ℕ) → Pair v j w i → get_or (set ns (3 * v + j) n) (3 * w + i) None ≡ n
  stored w i p = let z : 3 * w + i ≡ 3 * v + j = omega (arith, p.0, p.1) in rw z (get_or-set_same ns (3 * v + j) n None room)

  others : (w i : ℕ) → i < 3 → (w ≡ v → i ≡ j → ⊥) → get_or (set ns (3 * v + j) n) (3 * w + i) None ≡ get_or ns (3 * w + i) None
  others w i h p = get_or-set_other ns (3 * v + j) (3 * w + i) n None (λ e. p (omega arith) (omega arith))

  -- which pairs have numbers then
  some_kept : (w i : ℕ) → i < 3 → (get_or ns (3 * w + i) None ≡ None → ⊥) → get_or (set ns (3 * v + j) n) (3 * w + i) None ≡ None → ⊥
  some_kept w i h g e = ⊎_elim (λ p. real (sym (stored w i p) ∙ e)) (λ p. g (sym (others w i h p) ∙ e)) (same_pair v j w i)

  some_new : (w i : ℕ) → Pair v j w i → get_or (set ns (3 * v + j) n) (3 * w + i) None ≡ None → ⊥
  some_new w i p e = real (sym (stored w i p) ∙ e)

  some_only : (w i : ℕ) → i < 3 → (get_or (set ns (3 * v + j) n) (3 * w + i) None ≡ None → ⊥) → (get_or ns (3 * w + i) None ≡ None → ⊥) ⊎ Pair v j w i
  some_only w i h g = ⊎_elim (λ p. inr p) (λ p. inl (λ e. g (others w i h p ∙ e))) (same_pair v j w i)

  -- the variable has a vacancy less
  no_more : (i : ℕ) → i < 3 → vacant (get_or (set ns (3 * v + j) n) (3 * v + i) None) ≤ vacant (get_or ns (3 * v + i) None)
  no_more i h = ⊎_elim
      (λ p. rw (stored v i p, vacant_not n real) (omega arith))
      (λ p. rw (others v i h p) (omega arith))
      (same_pair v j v i)

  one_less : suc (vacancies (set ns (3 * v + j) n) v) ≤ vacancies ns v
  unfolding vacancies
  one_less = go j hj (rw (stored v j (refl, refl)) (vacant_not n real)) (vacant_none (get_or ns (3 * v + j) None) none)
    where
      go : (i : ℕ) → i < 3 → vacant (get_or (set ns (3 * v + j) n) (3 * v + i) None) ≡ 0 → vacant (get_or ns (3 * v + i) None) ≡ 1
          → suc (vacant (get_or (set ns (3 * v + j) n) (3 * v + 0) None) + (vacant (get_or (set ns (3 * v + j) n) (3 * v + 1) None) + vacant (get_or (set ns (3 * v + j) n) (3 * v + 2) None)))
          ≤ vacant (get_or ns (3 * v + 0) None) + (vacant (get_or ns (3 * v + 1) None) + vacant (get_or ns (3 * v + 2) None))
      go zero q a b = omega (arith, no_more 1 (omega arith), no_more 2 (omega arith))
      go (suc zero) q a b = omega (arith, no_more 0 (omega arith), no_more 2 (omega arith))
      go (suc (suc zero)) q a b = omega (arith, no_more 0 (omega arith), no_more 1 (omega arith))
      go (suc (suc (suc i))) q a b = absurd (omega arith)

  -- and the other variables have as many
  as_many : (w : ℕ) → (w ≡ v → ⊥) → vacancies (set ns (3 * v + j) n) w ≡ vacancies ns w
  unfolding vacancies
  as_many w h = rw (others w 0 (omega arith) (λ e f. h e), others w 1 (omega arith) (λ e f. h e), others w 2 (omega arith) (λ e f. h e))

-- a store outside a part leaves the part
part_kept : (xs : List ℕ) (m n i x : ℕ) → (i < m) ⊎ (m + n ≤ i) → take n (drop m (set xs i x)) ≡ take n (drop m xs)
part_kept xs m n i x h = ⊎_elim
    (λ p. rw (drop-set-lt m xs i x p))
    (λ p. let e : m + (i - m) ≡ i = omega arith in rw (← e, drop-set-add m xs (i - m) x, take-set-le n (drop m xs) (i - m) x (omega arith)))
    h

-- what is written down where the variable v asks a number for the value at place j: the number that it has, or a new one
abbrev pub after_known : Sheet → ℕ → ℕ → Option Number → Sheet
after_known a v j n = record { counts = a.counts; fresh = a.fresh; numbers = set a.numbers (3 * v + j) n }

abbrev pub after_new : List ℕ → Sheet → ℕ → ℕ → ℕ → Sheet
after_new before a v j y = record {
  counts = set a.counts v (get_or a.counts v 0 + 1);
  fresh = set a.fresh (24 * v + (get_or a.counts v 0 - get_or before v 0)) y;
  numbers = set a.numbers (3 * v + j) (numbered (get_or a.counts v 0));
}

-- the fact has the value y at place j, and no number of v's for it is written down
module _ (before : List ℕ) (L : Lists) (ys : List ℕ) (a : Sheet) (v j y : ℕ) (st : Steady before a) (hv : v < 4) (hj : j < 3)
    (none : get_or a.numbers (3 * v + j) None ≡ None) (is : y ≡ get_or ys j 0) where
  inside_numbers : 3 * v + j < length a.numbers
  inside_numbers = omega (arith, st.dozen)

  -- the numbers that are right stay so, where the lists only grew
  numbers_more : (n : Option Number) (M N : Lists) → (n ≡ None → ⊥) → n ≡ number_in (N v) y
      → ((w i : ℕ) → w < 4 → i < 3 → (get_or a.numbers (3 * w + i) None ≡ None → ⊥) → get_or a.numbers (3 * w + i) None ≡ number_in (N w) (get_or ys i 0))
      → (w i : ℕ) → w < 4 → i < 3 → (get_or (set a.numbers (3 * v + j) n) (3 * w + i) None ≡ None → ⊥)
      → get_or (set a.numbers (3 * v + j) n) (3 * w + i) None ≡ number_in (N w) (get_or ys i 0)
  numbers_more n M N real e old w i hw hi g = ⊎_elim
      (λ p. stored a.numbers v j n hj inside_numbers none real w i p ∙ (e ∙ rw (p.0, p.1, is)))
      (λ p. let o = others a.numbers v j n hj inside_numbers none real w i hi p in o ∙ old w i hw hi (λ z. g (o ∙ z)))
      (same_pair v j w i)

  -- the value has a number already
  module _ (n : Option Number) (real : n ≡ None → ⊥) (found : n ≡ number_in (with_fresh before a.counts a.fresh L v) y) where
    pub note_known : Carried before L ys (λ M. ask M v (get_or ys j 0)) (Pair v j) a (after_known a v j n)
    unfolding with_fresh
    note_known = record {
      steady = record {
        four = st.four;
        places = st.places;
        dozen = length-set a.numbers (3 * v + j) n ∙ st.dozen;
        first = st.first;
        grown = st.grown;
        room = λ w h. ⊎_elim
            (λ e. let z : w ≡ v = e in rw z (omega (arith, st.room v hv, one_less a.numbers v j n hj inside_numbers none real)))
            (λ e. rw (as_many a.numbers v j n hj inside_numbers none real w e) (st.room w h))
            (same_or_not w v);
      };
      fewer = λ w h. ⊎_elim
          (λ e. let z : w ≡ v = e in rw z (omega (arith, one_less a.numbers v j n hj inside_numbers none real)))
          (λ e. rw (as_many a.numbers v j n hj inside_numbers none real w e) (omega arith))
          (same_or_not w v);
      lists = λ M t.
          let e : n ≡ number_in (M v) y = found ∙ ap (λ (xs : List ℕ). number_in xs y) (sym (t.listing.lists v hv)) in
          let z : ask M v (get_or ys j 0) ≡ M = ask_listed M v (get_or ys j 0) (listed_of (M v) (get_or ys j 0) (λ q. real (e ∙ (rw is q)))) in
          rw z (record { listing = t.listing; numbers = numbers_more n M M real e t.numbers });
      kept = λ w i h k. some_kept a.numbers v j n hj inside_numbers none real w i k;
      asked = λ w i h k. some_new a.numbers v j n hj inside_numbers none real w i;
      only = λ w i h k. some_only a.numbers v j n hj inside_numbers none real w i k;
    }

  -- it has none
  module _ (missing : number_in (with_fresh before a.counts a.fresh L v) y ≡ None) where
    real : ◌≡◌ {A = Option Number} (numbered (get_or a.counts v 0)) None → ⊥
    real e = cc

    short : get_or a.counts v 0 < get_or before v 0 + 24
    short = let r = st.room v hv in omega (arith, one_less a.numbers v j (numbered (get_or a.counts v 0)) hj inside_numbers none real)

    pub inside : 24 * v + (get_or a.counts v 0 - get_or before v 0) < 96
    inside = omega (arith, short)

    now_count : get_or (set a.counts v (get_or a.counts v 0 + 1)) v 0 ≡ get_or a.counts v 0 + 1
    now_count = get_or-set_same a.counts v (get_or a.counts v 0 + 1) 0 (omega (arith, st.four))

    other_count_law : (w : ℕ) → (w ≡ v → ⊥) → get_or (set a.counts v (get_or a.counts v 0 + 1)) w 0 ≡ get_or a.counts w 0
    other_count_law w h = get_or-set_other a.counts v w (get_or a.counts v 0 + 1) 0 h

    new_steady : Steady before (after_new before a v j y)
    new_steady = record {
      four = length-set a.counts v _ ∙ st.four;
      places = length-set a.fresh _ _ ∙ st.places;
      dozen = length-set a.numbers _ _ ∙ st.dozen;
      first = st.first;
      grown = λ w h. ⊎_elim
          (λ e. let z : w ≡ v = e in rw (z, now_count) (omega (arith, st.grown v hv)))
          (λ e. rw (other_count_law w e) (st.grown w h))
          (same_or_not w v);
      room = λ w h. ⊎_elim
          (λ e. let z : w ≡ v = e in rw (z, now_count) (omega (arith, st.room v hv, one_less a.numbers v j (numbered (get_or a.counts v 0)) hj inside_numbers none real)))
          (λ e. rw (other_count_law w e, as_many a.numbers v j (numbered (get_or a.counts v 0)) hj inside_numbers none real w e) (st.room w h))
          (same_or_not w v);
    }

    -- the lists before and after
    module _ (M : Lists) (t : Tally before L M ys a) where
      new : listed (M v) y ≡ false
      new = unlisted_of (M v) y (ap (λ (xs : List ℕ). number_in xs y) (t.listing.lists v hv) ∙ missing)

      new_counts : (w : ℕ) → w < 4 → length (ask M v y w) ≡ get_or (set a.counts v (get_or a.counts v 0 + 1)) w 0
      new_counts w h = ⊎_elim
          (λ e. let z : w ≡ v = e in rw (z, ask_here M v y new, now_count, length-append) (omega (arith, t.listing.counted v hv)))
          (λ e. rw (ask_other M v w y e, other_count_law w e) (t.listing.counted w h))
          (same_or_not w v)

      new_lists : (w : ℕ) → w < 4 → ask M v y w ≡ with_fresh before (after_new before a v j y).counts (after_new before a v j y).fresh L w
      unfolding with_fresh
      new_lists w h = ⊎_elim
          (λ e.
          let z : w ≡ v = e in
          let g : get_or a.counts v 0 + 1 - get_or before v 0 ≡ suc (get_or a.counts v 0 - get_or before v 0) = omega (arith, st.grown v hv) in
          let room : get_or a.counts v 0 - get_or before v 0 < length (drop (24 * v) a.fresh) = rw (length-drop, st.places) (omega (arith, short)) in
          rw (z, ask_here M v y new, now_count, g, drop-set-add (24 * v) a.fresh (get_or a.counts v 0 - get_or before v 0) y, take-suc-set (drop (24 * v) a.fresh) (get_or a.counts v 0 - get_or before v 0) y room, t.listing.lists v hv)
          (append_assoc (L v) (take (get_or a.counts v 0 - get_or before v 0) (drop (24 * v) a.fresh)) (y ∷ [])))
          (λ e.
          let q = st.room w h in
          let away : (24 * v + (get_or a.counts v 0 - get_or before v 0) < 24 * w) ⊎ (24 * w + (get_or a.counts w 0 - get_or before w 0) ≤ 24 * v + (get_or a.counts v 0 - get_or before v 0)) =
          ⊎_elim (λ r. inr (omega (arith, short))) (λ r. inl (omega (arith, short, e))) (lt_or_ge w v) in
          rw (ask_other M v w y e, other_count_law w e, part_kept a.fresh (24 * w) (get_or a.counts w 0 - get_or before w 0) (24 * v + (get_or a.counts v 0 - get_or before v 0)) y away) (t.listing.lists w h))
          (same_or_not w v)

      new_unused : (w i : ℕ) → w < 4 → i < 24 → get_or (set a.counts v (get_or a.counts v 0 + 1)) w 0 ≤ get_or before w 0 + i
          → get_or (set a.fresh (24 * v + (get_or a.counts v 0 - get_or before v 0)) y) (24 * w + i) 0 ≡ 0
      new_unused w i h k q = ⊎_elim
          (λ e.
          let z : w ≡ v = e in
          let more : get_or a.counts v 0 + 1 ≤ get_or before v 0 + i = rw (z, now_count) at q in
          rw (z, get_or-set_other a.fresh (24 * v + (get_or a.counts v 0 - get_or before v 0)) (24 * v + i) y 0 (λ f. omega (arith, st.grown v hv))) (t.listing.unused v i hv k (omega arith)))
          (λ e.
          rw (get_or-set_other a.fresh (24 * v + (get_or a.counts v 0 - get_or before v 0)) (24 * w + i) y 0 (λ f. omega (arith, short, e)))
          (t.listing.unused w i h k (rw (other_count_law w e) at q)))
          (same_or_not w v)

      -- the numbers given before are those of other values
      still : (w i : ℕ) → w < 4 → i < 3 → (get_or a.numbers (3 * w + i) None ≡ None → ⊥) → get_or a.numbers (3 * w + i) None ≡ number_in (ask M v y w) (get_or ys i 0)
      still w i h k g = ⊎_elim
          (λ e.
          let z : w ≡ v = e in
          let o : get_or a.numbers (3 * v + i) None ≡ number_in (M v) (get_or ys i 0) = rw z at (t.numbers w i h k g) in
          let apart : get_or ys i 0 ≡ y → ⊥ = λ f. g (rw z (o ∙ (ap (number_in (M v)) f ∙ (ap (λ (xs : List ℕ). number_in xs y) (t.listing.lists v hv) ∙ missing)))) in
          rw (z, ask_here M v y new, number_snoc (M v) y (get_or ys i 0) new, ne_eqb (get_or ys i 0) y apart) o)
          (λ e. rw (ask_other M v w y e) (t.numbers w i h k g))
          (same_or_not w v)

      own : numbered (get_or a.counts v 0) ≡ number_in (ask M v y v) y
      own = rw (ask_here M v y new, number_snoc (M v) y y new, eq-eqb y y refl) (ap numbered (sym (t.listing.counted v hv)))

      new_tally : Tally before L (ask M v y) ys (after_new before a v j y)
      new_tally = record {
        listing = record { start = t.listing.start; counted = new_counts; lists = new_lists; unused = new_unused };
        numbers = numbers_more (numbered (get_or a.counts v 0)) M (ask M v y) real own still;
      }

    pub note_new : Carried before L ys (λ M. ask M v (get_or ys j 0)) (Pair v j) a (after_new before a v j y)
    note_new = record {
      steady = new_steady;
      fewer = λ w h. ⊎_elim
          (λ e. let z : w ≡ v = e in rw (z, now_count) (omega (arith, one_less a.numbers v j (numbered (get_or a.counts v 0)) hj inside_numbers none real)))
          (λ e. rw (other_count_law w e, as_many a.numbers v j (numbered (get_or a.counts v 0)) hj inside_numbers none real w e) (omega arith))
          (same_or_not w v);
      lists = λ M t. rw (← is) (new_tally M t);
      kept = λ w i h k. some_kept a.numbers v j (numbered (get_or a.counts v 0)) hj inside_numbers none real w i k;
      asked = λ w i h k. some_new a.numbers v j (numbered (get_or a.counts v 0)) hj inside_numbers none real w i;
      only = λ w i h k. some_only a.numbers v j (numbered (get_or a.counts v 0)) hj inside_numbers none real w i k;
    }

-- a value whose number is written down asks nothing
pub note_old : (before : List ℕ) (L : Lists) (ys : List ℕ) (a : Sheet) (v j : ℕ) → Steady before a → v < 4 → j < 3 → Given a v j
    → Carried before L ys (λ M. ask M v (get_or ys j 0)) (Pair v j) a a
note_old before L ys a v j st hv hj some = record {
  steady = st;
  fewer = λ w h. omega arith;
  lists = λ M t. rw (ask_listed M v (get_or ys j 0) (listed_of (M v) (get_or ys j 0) (λ e. some (t.numbers v j hv hj some ∙ e)))) t;
  kept = λ w i h k g. g;
  asked = λ w i h k p. let y : w ≡ v = p.0 in let z : i ≡ j = p.1 in rw (y, z) some;
  only = λ w i h k g. inl g;
}

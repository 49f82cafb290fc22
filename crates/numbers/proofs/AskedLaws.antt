-- Laws of what `ask` promises: from the last fact's walk to the promise, what callers take from it, and that it determines the answer. Assumes nothing.
use Prim.Native.Nat.{ℕ, zero, suc, ◌+◌, ◌-◌, ◌*◌, ◌/◌, ◌%◌, ◌≤◌, ◌<◌}
use mathlib.Core.Path.{◌≡◌, refl, ap, sym, ◌∙◌}
use mathlib.Core.Bool.{true}
use mathlib.Core.List.{List, [], ◌∷◌, map}
use mathlib.Core.Logic.{◌⊎◌, inl, inr, ⊎_elim}
use native.Mathlib.Omega.{arith}
use lib.Dec.{leb}
use lib.ListN.{length, get_or, take, drop, length-map, length-take, get_or-map}
use lib.Seq.{ext_get_or, take_all, length-take-le, get_or-take, get_or-drop, get_or-append-add}
use borrow.Author.Tests.{leb-true}
use Rattle.trees.proofs.Tests.{lt_or_ge, and_true_l, and_true_r}
use Rattle.meaning.specs.declared.Event.{Event}
use Rattle.meaning.specs.declared.Fact.{Fact as Handed}
use Rattle.meaning.specs.declared.State.{State}
use Rattle.meaning.specs.declared.Value.{Value}
use Rattle.meaning.specs.Rows.{Row, row_at, count_of_rows, rule_of}
use Rattle.meaning.specs.Numbering.{Lists, place, ask_facts}
use Rattle.meaning.specs.Tables.{most, list_of, list_right}
use Rattle.meaning.specs.Outcome.{fact_of, given, facts_of, all_agree, fact_right, all_right, count_right}
use Rattle.numbers.specs.declared.Asked.{Asked}
use Rattle.std.specs.Prelude.{Option, Some, None}
use Rattle.making.specs.declared.Number.{Number}
use Rattle.numbers.specs.Asking.{with_counts, bare, numbered, with_fresh, Listing, AsksFor, fact_at, number_at, lists_before, lists_after, Parted, Askable, Asks, part_of}
use Rattle.numbers.proofs.PlaceLaws.{number_place}
use Rattle.numbers.proofs.StartLaws.{lists_parts, most_le}
use Rattle.numbers.proofs.FactsLaws.{place_low, after, Going}

-- an event that passed refusal 5 has at most eight facts, each of at most three values
pub eight : (e : Event) (rule : List Row) → count_right rule e ≡ true → e.count ≤ 8
unfolding count_right
eight e rule h = leb-true e.count 8 (and_true_l (leb e.count 8) (all_right rule (given e)) h)

all_right_at : (rule : List Row) (fs : List Handed) (f : ℕ) (d : Handed) → all_right rule fs ≡ true → f < length fs → fact_right rule (get_or fs f d) ≡ true
unfolding all_right
all_right_at rule [] f d h l = absurd (omega arith)
all_right_at rule (x ∷ fs) zero d h l = and_true_l (fact_right rule x) (all_right rule fs) h
all_right_at rule (x ∷ fs) (suc f) d h l = all_right_at rule fs f d (and_true_r (fact_right rule x) (all_right rule fs) h) (omega arith)

module _ (e : Event) (f : ℕ) (l : f < e.count) (all : e.count ≤ length e.facts) where
  given_at : (d : Handed) → get_or (given e) f d ≡ get_or e.facts f d
  unfolding given
  given_at d = get_or-take e.count e.facts f d l

  given_inside : f < length (given e)
  unfolding given
  given_inside = rw (length-take-le e.count e.facts all) l

  pub three : (rule : List Row) (d : Handed) → count_right rule e ≡ true → (get_or e.facts f d).count ≤ 3
  unfolding count_right fact_right
  three rule d h =
      let r = all_right_at rule (given e) f d (and_true_r (leb e.count 8) (all_right rule (given e)) h) given_inside in
      let b = leb-true (get_or (given e) f d).count 3 (and_true_l (leb (get_or (given e) f d).count 3) (all_agree (get_or (given e) f d) rule) r) in
      rw (given_at d) at b

  pub facts_inside : f < length (facts_of e)
  unfolding facts_of
  facts_inside = rw (length-map (given e) fact_of) given_inside

  -- the fact f is the one that is handed in at that place
  pub fact_is : (d : Handed) → fact_at e f ≡ fact_of (get_or e.facts f d)
  unfolding fact_at facts_of
  fact_is d = mapped (given e) f given_inside ∙ ap fact_of (given_at d)
    where
      mapped : (fs : List Handed) (i : ℕ) → i < length fs → get_or (map fact_of fs) i (record { predicate = 0; values = [] }) ≡ fact_of (get_or fs i d)
      mapped [] i h = absurd (omega arith)
      mapped (x ∷ fs) zero h = refl
      mapped (x ∷ fs) (suc i) h = mapped fs i (omega arith)

facts_few : (e : Event) → length (facts_of e) ≤ e.count
unfolding facts_of given
facts_few e = rw (length-map (take e.count e.facts) fact_of, length-take e.count e.facts) (omega arith)

-- the parts of the value slice
pub parted : (k : ℕ) (before values rows : List ℕ) (e : Event) → Askable k before values rows e → {m : ℕ} → m ≡ most k → Parted m before values
parted k before values rows e p is = record {
  small = rw is (most_le k p.bits);
  counts_fit = λ v h. rw is (p.counts v h);
  whole = rw is p.parts;
}

-- what all facts have asked is what is promised
asks_lists : (k : ℕ) (before values rows : List ℕ) (e : Event) (a : Asked) → e.count ≤ 8
    → Going before (lists_before k before values) rows e e.count a.counts a.fresh a.given → Asks k before values rows e a
asks_lists k before values rows e a h g = record {
  listing = rw (← whole) g.listing;
  few = λ v q. omega (arith, g.few v q);
  asked = λ f v j l q x. (
    place_low (fact_at e f) rows x.0 v j x.2,
    let n = g.asked f v j l q x in
        let r = g.real f v j l q x in
        n ∙ (number_place (now v) (get_or (fact_at e f).values j 0) (λ z. r (n ∙ z)) ∙ ap (λ (L : Lists). numbered (place (L v) (get_or (fact_at e f).values j 0))) whole),
  );
  only = g.only;
}
  where
    now : Lists
    now = after before (lists_before k before values) rows e e.count

    whole : now ≡ lists_after k before values rows e
    whole = rw (take_all e.count (facts_of e) (facts_few e))

pub asks_all : (k m : ℕ) (before values rows : List ℕ) (e : Event) (a : Asked) (f : ℕ) → Askable k before values rows e → m ≡ most k → length before ≡ 4 → f ≡ e.count
    → Going before (part_of m before values) rows e f a.counts a.fresh a.given → Asks k before values rows e a
asks_all k m before values rows e a f p is four all g =
    asks_lists k before values rows e a (eight e (rule_of rows) p.agreed) (rw (lists_parts k before values four p.counts, ← is) (rw all at g))

-- "at the place 12 * f + (3 * v + j)": the number that a matching atom asks for is the value's place in the lists after the event
pub numbers_right : (k : ℕ) (before values rows : List ℕ) (e : Event) (a : Asked) → Asks k before values rows e a
    → (f i v j : ℕ) → f < e.count → i < count_of_rows rows → v < 4 → AsksFor (fact_at e f) (row_at rows i) v j
    → get_or a.given (12 * f + (3 * v + j)) None ≡ numbered (place (ask_facts (facts_of e) (list_of k (with_counts before) values) (rule_of rows) v) (get_or (fact_at e f).values j 0))
unfolding number_at
numbers_right k before values rows e a s f i v j l h q x = (s.asked f v j l q (i, h, x)).1

-- "If two outcomes satisfy such a promise they are shown to be the same": the arrays of an answer have the lengths that their types say
pub record Arrays (a : Asked) : Type 0 where
  pub four : length a.counts ≡ 4
  pub fresh : length a.fresh ≡ 96
  pub given : length a.given ≡ 96

-- the fresh value at place j of the variable v is the list's
fresh_at : (before : List ℕ) (L M : Lists) (counts fresh : List ℕ) → Listing before L M counts fresh → (v j : ℕ) → v < 4 → get_or before v 0 + j < get_or counts v 0
    → get_or (M v) (get_or before v 0 + j) 0 ≡ get_or fresh (24 * v + j) 0
unfolding with_fresh
fresh_at before L M counts fresh t v j h k =
    rw (t.lists v h, ← t.start v h) (get_or-append-add (L v) (take (get_or counts v 0 - length (L v)) (drop (24 * v) fresh)) j 0)
    ∙ (get_or-take (get_or counts v 0 - length (L v)) (drop (24 * v) fresh) j 0 (omega (arith, t.start v h)) ∙ get_or-drop (24 * v) fresh j 0)

none_or_not : (n : Option Number) → (n ≡ None) ⊎ (n ≡ None → ⊥)
none_or_not None = inl refl
none_or_not (Some n) = inr (λ e. cc)

one_value : (x y : Value) → x.0 ≡ y.0 → x ≡ y
one_value x y e = λ i. record { 0 = e i }

module _ (k : ℕ) (before values rows : List ℕ) (e : Event) (a b : Asked) (p : Arrays a) (q : Arrays b) (s : Asks k before values rows e a) (r : Asks k before values rows e b) where
  same_count : (v : ℕ) → v < 4 → get_or a.counts v 0 ≡ get_or b.counts v 0
  same_count v h = sym (s.listing.counted v h) ∙ r.listing.counted v h

  same_fresh : (v j : ℕ) → v < 4 → j < 24 → get_or (bare a.fresh) (24 * v + j) 0 ≡ get_or (bare b.fresh) (24 * v + j) 0
  same_fresh v j h l = ⊎_elim
      (λ x.
      sym (fresh_at before (lists_before k before values) (lists_after k before values rows e) a.counts (bare a.fresh) s.listing v j h x)
      ∙ fresh_at before (lists_before k before values) (lists_after k before values rows e) b.counts (bare b.fresh) r.listing v j h (omega (arith, same_count v h)))
      (λ x. s.listing.unused v j h l x ∙ sym (r.listing.unused v j h l (omega (arith, same_count v h))))
      (lt_or_ge (get_or before v 0 + j) (get_or a.counts v 0))

  same_number : (f v j : ℕ) → f < 8 → v < 4 → j < 3 → number_at a.given f v j ≡ number_at b.given f v j
  same_number f v j h l m = ⊎_elim
      (λ x. ⊎_elim
      (λ y. x ∙ sym y)
      (λ y. let z = r.only f v j h l m y in (s.asked f v j z.0 l z.1).1 ∙ sym (r.asked f v j z.0 l z.1).1)
      (none_or_not (number_at b.given f v j)))
      (λ x. let z = s.only f v j h l m x in (s.asked f v j z.0 l z.1).1 ∙ sym (r.asked f v j z.0 l z.1).1)
      (none_or_not (number_at a.given f v j))

  same_at : (f v j : ℕ) → f < 8 → v < 4 → j < 3 → get_or a.given (12 * f + (3 * v + j)) None ≡ get_or b.given (12 * f + (3 * v + j)) None
  unfolding number_at
  same_at f v j h l m = same_number f v j h l m

  pub asked_one : a ≡ b
  asked_one =
      let c : a.counts ≡ b.counts = ext_get_or 0 a.counts b.counts (p.four ∙ sym q.four) (λ i h. same_count i (omega (arith, p.four))) in
      let f : a.fresh ≡ b.fresh =
      ext_get_or (record { 0 = 0 }) a.fresh b.fresh (p.fresh ∙ sym q.fresh) (λ i h.
      let z : 24 * (i / 24) + i % 24 ≡ i = omega arith in
      let u = same_fresh (i / 24) (i % 24) (omega (arith, p.fresh)) (omega arith) in
      one_value (get_or a.fresh i (record { 0 = 0 })) (get_or b.fresh i (record { 0 = 0 }))
      (sym (get_or-map (λ (x : Value). x.0) a.fresh i (record { 0 = 0 })) ∙ ((rw z at u) ∙ get_or-map (λ (x : Value). x.0) b.fresh i (record { 0 = 0 })))) in
      let n : a.given ≡ b.given =
      ext_get_or None a.given b.given (p.given ∙ sym q.given) (λ i h.
      let z : 12 * (i / 12) + (3 * (i % 12 / 3) + i % 12 % 3) ≡ i = omega arith in
      let u = same_at (i / 12) (i % 12 / 3) (i % 12 % 3) (omega (arith, p.given)) (omega arith) (omega arith) in
      rw z at u) in
      λ i. record { counts = c i; fresh = f i; given = n i }

-- the lists and their check depend on the counts of a state alone
pub lists_of : (k : ℕ) (s : State) (values : List ℕ) → list_of k s values ≡ list_of k (with_counts s.counts) values
unfolding list_of
lists_of k s values = refl

pub right_of : (k : ℕ) (s : State) (values : List ℕ) → list_right k s values ≡ list_right k (with_counts s.counts) values
unfolding list_right list_of
right_of k s values = refl

-- Laws of the walk over an event's facts: what the first facts have asked, and that it stays so while later facts ask. Assumes nothing.
use Prim.Native.Nat.{ℕ, zero, suc, ◌+◌, ◌-◌, ◌*◌, ◌≤◌, ◌<◌}
use mathlib.Core.Path.{◌≡◌, refl, sym, ◌∙◌}
use mathlib.Core.List.{List, [], ◌∷◌, ◌++◌, append-nil}
use mathlib.Core.Logic.{⊎_elim}
use native.Mathlib.Numerals.{add-one}
use native.Mathlib.Omega.{arith}
use lib.ListN.{length, get_or, take, replicate, length-take, get_or-replicate, get_or-eq_default}
use lib.Seq.{take-suc}
use Rattle.trees.proofs.Tests.{lt_or_ge}
use Rattle.making.specs.declared.Number.{Number}
use Rattle.meaning.specs.declared.Event.{Event}
use Rattle.meaning.specs.Qtl.{Argument, variable, constant, Fact}
use Rattle.meaning.specs.Rows.{Row, field, argument_at, of_kind, row_at, count_of_rows, rule_of}
use Rattle.meaning.specs.Numbering.{Lists, ask_rows, ask_facts}
use Rattle.meaning.specs.Outcome.{facts_of}
use Rattle.meaning.proofs.ValuesLaws.{Grows}
use Rattle.meaning.proofs.AskingLaws.{ask_facts_grows}
use Rattle.numbers.specs.Matching.{arguments_in}
use Rattle.std.specs.Prelude.{Option, None}
use Rattle.making.specs.declared.Number.{Number}
use Rattle.meaning.specs.declared.Value.{Value}
use Rattle.numbers.specs.Asking.{number_in, bare, with_fresh, Listing, AsksFor, AskedBy, fact_at, number_at, sheet, nothing_given, Tally, Steady, Carried, Put}
use Rattle.numbers.proofs.PlaceLaws.{number_grows}
use Rattle.numbers.proofs.TallyLaws.{same_or_not}
use Rattle.numbers.proofs.StartLaws.{nothing_given_law, vacancies_le, steady_start}

-- a row has at most three arguments
arguments_few : (kind p q : ℕ) (gs : List Argument) → length gs ≤ 3 → length (arguments_in (of_kind kind p q gs)) ≤ 3
unfolding arguments_in of_kind
arguments_few zero p q gs h = omega arith
arguments_few (suc zero) p q gs h = omega arith
arguments_few (suc (suc zero)) p q gs h = h
arguments_few (suc (suc (suc zero))) p q gs h = omega arith
arguments_few (suc (suc (suc (suc zero)))) p q gs h = omega arith
arguments_few (suc (suc (suc (suc (suc zero))))) p q gs h = omega arith
arguments_few (suc (suc (suc (suc (suc (suc zero)))))) p q gs h = omega arith
arguments_few (suc (suc (suc (suc (suc (suc (suc kind))))))) p q gs h = omega arith

row_few : (raw : List ℕ) (i : ℕ) → length (arguments_in (row_at raw i)) ≤ 3
unfolding row_at
row_few raw i = arguments_few (field raw i 0) (field raw i 1) (field raw i 2) _ (omega (arith, length-take (field raw i 2) (argument_at raw i 0 ∷ argument_at raw i 1 ∷ argument_at raw i 2 ∷ [])))

pub place_low : (e : Fact) (raw : List ℕ) (i v j : ℕ) → AsksFor e (row_at raw i) v j → j < 3
place_low e raw i v j q = ⊎_elim
    (λ h. omega (arith, row_few raw i))
    (λ h.
    let d : get_or (arguments_in (row_at raw i)) j (constant 0) ≡ constant 0 = get_or-eq_default (arguments_in (row_at raw i)) (constant 0) h in
    let z : ◌≡◌ {A = Argument} (variable v) (constant 0) = sym q.names ∙ d in
    let w : ◌≡◌ {A = ℕ} 0 1 = cc in absurd (omega arith))
    (lt_or_ge j (length (arguments_in (row_at raw i))))

-- one fact more
facts_snoc : (es : List Fact) (e : Fact) (L : Lists) (rs : List Row) → ask_facts (es ++ e ∷ []) L rs ≡ ask_rows e (ask_facts es L rs) rs
unfolding ask_facts
facts_snoc [] e L rs = refl
facts_snoc (x ∷ es) e L rs = facts_snoc es e (ask_rows x L rs) rs

rows_grow : (e : Fact) (L : Lists) (rs : List Row) (v : ℕ) → Grows (L v) (ask_rows e L rs v)
unfolding ask_facts
rows_grow e L rs v = ask_facts_grows (e ∷ []) rs L v

-- what the first f facts have asked
module _ (before : List ℕ) (L : Lists) (rows : List ℕ) (e : Event) where
  abbrev pub after : ℕ → Lists
  after f = ask_facts (take f (facts_of e)) L (rule_of rows)

  pub record Going (f : ℕ) (counts : List ℕ) (fresh : List Value) (given : List (Option Number)) : Type 0 where
    pub four : length counts ≡ 4
    pub places : length (bare fresh) ≡ 96
    pub size : length given ≡ 96
    pub grown : (v : ℕ) → v < 4 → get_or before v 0 ≤ get_or counts v 0
    pub few : (v : ℕ) → v < 4 → get_or counts v 0 ≤ get_or before v 0 + 3 * f
    pub listing : Listing before L (after f) counts (bare fresh)
    pub real : (g v j : ℕ) → g < f → v < 4 → AskedBy (fact_at e g) rows (count_of_rows rows) v j → number_at given g v j ≡ None → ⊥
    pub asked : (g v j : ℕ) → g < f → v < 4 → AskedBy (fact_at e g) rows (count_of_rows rows) v j → number_at given g v j ≡ number_in (after f v) (get_or (fact_at e g).values j 0)
    pub only : (g v j : ℕ) → g < 8 → v < 4 → j < 3 → (number_at given g v j ≡ None → ⊥) → (g < f) × AskedBy (fact_at e g) rows (count_of_rows rows) v j

  zero_fresh : bare (replicate 96 (record { 0 = 0 })) ≡ replicate 96 0
  zero_fresh = refl

  -- before the first
  pub going_none : length before ≡ 4 → ((v : ℕ) → v < 4 → length (L v) ≡ get_or before v 0) → Going 0 before (replicate 96 (record { 0 = 0 })) (replicate 96 None)
  unfolding with_fresh ask_facts number_at
  going_none four start = record {
    four = four;
    places = refl;
    size = refl;
    grown = λ v h. omega arith;
    few = λ v h. omega arith;
    listing = record {
      start = start;
      counted = start;
      lists = λ v h. let z : get_or before v 0 - get_or before v 0 ≡ 0 = omega arith in rw z (sym (append-nil (L v)));
      unused = λ v j h k q. rw zero_fresh (get_or-replicate 96 (24 * v + j) 0 0 (omega arith));
    };
    real = λ g v j h. absurd (omega arith);
    asked = λ g v j h. absurd (omega arith);
    only = λ g v j hg hv hj n. absurd (n (get_or-replicate {A = Option Number} 96 (12 * g + (3 * v + j)) None None (omega arith)));
  }

  -- what the fact f may assume
  module _ (f : ℕ) (counts : List ℕ) (fresh : List Value) (given : List (Option Number)) (w : Going f counts fresh given) (hf : f < 8) where
    pub going_steady : ((v : ℕ) → v < 4 → get_or before v 0 ≤ 1023) → Steady before (sheet counts fresh nothing_given)
    going_steady first = steady_start before counts fresh w.four w.places first w.grown (λ v h. omega (arith, w.few v h))

    -- and what it leaves
    module _ (inside : f < length (facts_of e)) (counts' : List ℕ) (fresh' : List Value) (numbers given' : List (Option Number))
        (c : Carried before L (fact_at e f).values (λ M. ask_rows (fact_at e f) M (rule_of rows)) (AskedBy (fact_at e f) rows (count_of_rows rows)) (sheet counts fresh nothing_given) (sheet counts' fresh' numbers))
        (p : Put f numbers given given') where
      next_is : after (f + 1) ≡ ask_rows (fact_at e f) (after f) (rule_of rows)
      unfolding fact_at
      next_is = rw (add-one f, take-suc (facts_of e) f (record { predicate = 0; values = [] }) inside) (facts_snoc (take f (facts_of e)) (fact_at e f) L (rule_of rows))

      tally : Tally before L (after (f + 1)) (fact_at e f).values (sheet counts' fresh' numbers)
      tally = rw next_is (c.lists (after f) (record { listing = w.listing; numbers = λ v j h k g. absurd (nothing_given_law counts fresh v j h k g) }))

      grows : (v : ℕ) → Grows (after f v) (after (f + 1) v)
      grows v = rw next_is (rows_grow (fact_at e f) (after f) (rule_of rows) v)

      -- the numbers of this fact, and those of the others
      here : (v j : ℕ) → v < 4 → j < 3 → number_at given' f v j ≡ get_or (sheet counts' fresh' numbers).numbers (3 * v + j) None
      unfolding number_at
      here v j h k = p.here (3 * v + j) (omega arith)

      there : (g v j : ℕ) → (g ≡ f → ⊥) → v < 4 → j < 3 → number_at given' g v j ≡ number_at given g v j
      unfolding number_at
      there g v j n h k = p.there g (3 * v + j) n (omega arith)

      going_more : Going (f + 1) counts' fresh' given'
      going_more = record {
        four = c.steady.four;
        places = c.steady.places;
        size = p.size ∙ w.size;
        grown = c.steady.grown;
        few = λ v h. omega (arith, c.fewer v h, w.few v h, vacancies_le (sheet counts fresh nothing_given).numbers v);
        listing = tally.listing;
        real = λ g v j l h x z.
            let k = place_low (fact_at e g) rows x.0 v j x.2 in
            ⊎_elim
            (λ q. let u : g ≡ f = q in c.asked v j h k (rw u at x) (sym (here v j h k) ∙ (rw u at z)))
            (λ q. w.real g v j (omega (arith, q)) h x (sym (there g v j q h k) ∙ z))
            (same_or_not g f);
        asked = λ g v j l h x.
            let k = place_low (fact_at e g) rows x.0 v j x.2 in
            ⊎_elim
            (λ q. let u : g ≡ f = q in rw u (here v j h k ∙ tally.numbers v j h k (c.asked v j h k (rw u at x))))
            (λ q.
            let m : g < f = omega (arith, q) in
            let o = w.asked g v j m h x in
            there g v j q h k ∙ (o ∙ sym (number_grows (after f v) (after (f + 1) v) (get_or (fact_at e g).values j 0) (grows v) (λ z. w.real g v j m h x (o ∙ z)))))
            (same_or_not g f);
        only = λ g v j hg h k n.
            ⊎_elim
            (λ q. let u : g ≡ f = q in ⊎_elim
            (λ x. absurd (nothing_given_law counts fresh v j h k x))
            (λ x. (omega arith, rw u x))
            (c.only v j h k (λ z. n (rw u (here v j h k ∙ z)))))
            (λ q. let x = w.only g v j hg h k (λ z. n (there g v j q h k ∙ z)) in (omega (arith, x.0), x.1))
            (same_or_not g f);
      }

    -- the same, where the fact is said in other words
    pub going_next : (inside : f < length (facts_of e)) (x : Fact) → fact_at e f ≡ x → (counts' : List ℕ) (fresh' : List Value) (numbers given' : List (Option Number))
        → Carried before L x.values (λ M. ask_rows x M (rule_of rows)) (AskedBy x rows (count_of_rows rows)) (sheet counts fresh nothing_given) (sheet counts' fresh' numbers)
        → Put f numbers given given' → Going (f + 1) counts' fresh' given'
    going_next inside x same counts' fresh' numbers given' c p = going_more inside counts' fresh' numbers given' (rw (← same) at c) p

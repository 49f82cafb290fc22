-- Laws of the event that some numbers are. Assumes nothing.
use Prim.Native.Nat.{ℕ, zero, suc, ◌+◌, ◌*◌, ◌≤◌, ◌<◌}
use mathlib.Core.Path.{◌≡◌, refl, sym, ◌∙◌}
use mathlib.Core.List.{List, [], ◌∷◌, ◌++◌, map}
use native.Mathlib.Nat.{add-zero}
use native.Mathlib.Omega.{arith}
use lib.ListN.{length, get_or, take, length-append, length-map}
use lib.Seq.{length-take-le, get_or-take, get_or-drop, drop-drop, drop_at, ext_get_or}
use Rattle.meaning.specs.declared.Event.{Event}
use Rattle.meaning.specs.declared.Fact.{Fact}
use Rattle.meaning.specs.declared.Value.{Value}
use Rattle.meaning.specs.Outcome.{given}
use Rattle.linked.specs.Happening.{first_fact, fact_at, count_of, event_of, written}

-- a fact that is read number by number
pub fact_read : (xs : List ℕ) (i p n a b c : ℕ)
    → p ≡ get_or xs (5 * i) 0 → n ≡ get_or xs (5 * i + 1) 0 → a ≡ get_or xs (5 * i + 2) 0 → b ≡ get_or xs (5 * i + 3) 0 → c ≡ get_or xs (5 * i + 4) 0
    → ◌≡◌ {A = Fact} (record { predicate = p; count = n; values = record { 0 = a } ∷ record { 0 = b } ∷ record { 0 = c } ∷ [] }) (fact_at xs i)
unfolding fact_at first_fact
fact_read xs i p n a b c hp hn ha hb hc =
    rw (get_or-drop (5 * i) xs 0 0, add-zero (5 * i), get_or-drop (5 * i) xs 1 0, get_or-drop (5 * i) xs 2 0, get_or-drop (5 * i) xs 3 0, get_or-drop (5 * i) xs 4 0, hp, hn, ha, hb, hc) refl

-- each fact has three values, as a fact has by its type
abbrev pub Threes : List Fact → Type 0
Threes [] = Unit {0}
Threes (f ∷ fs) = (length f.values ≡ 3) × Threes fs

-- a fact that is written is five numbers
five : (f : Fact) → length f.values ≡ 3 → length (f.predicate ∷ f.count ∷ map (λ v. v.0) f.values) ≡ 5
five f h = omega (arith, length-map f.values (λ v. v.0))

written_length : (fs : List Fact) → Threes fs → length (written fs) ≡ 5 * length fs
unfolding written
written_length [] t = refl
written_length (f ∷ fs) t =
    let a = length-append (f.predicate ∷ f.count ∷ map (λ v. v.0) f.values) (written fs) in
    let b = five f t.0 in
    let c = written_length fs t.1 in
    omega arith

-- the first fact that is written is read
first_written : (p n : ℕ) (vs : List Value) (rest : List ℕ) → length vs ≡ 3
    → ◌≡◌ {A = Fact} (first_fact ((p ∷ n ∷ map (λ v. v.0) vs) ++ rest)) (record { predicate = p; count = n; values = vs })
unfolding first_fact
first_written p n [] rest h = absurd (omega arith)
first_written p n (a ∷ []) rest h = absurd (omega arith)
first_written p n (a ∷ b ∷ []) rest h = absurd (omega arith)
first_written p n (a ∷ b ∷ c ∷ []) rest h = refl
first_written p n (a ∷ b ∷ c ∷ d ∷ vs) rest h = absurd (omega arith)

-- and so is every other
written_at : (fs : List Fact) (d : Fact) → Threes fs → (i : ℕ) → i < length fs → fact_at (written fs) i ≡ get_or fs i d
unfolding fact_at written
written_at [] d t i h = absurd (omega arith)
written_at (f ∷ fs) d t zero h = first_written f.predicate f.count f.values (written fs) t.0
written_at (f ∷ fs) d t (suc i) h =
    let e : 5 * suc i ≡ 5 + 5 * i = omega arith in
    rw (e, ← drop-drop (5 * i) 5 ((f.predicate ∷ f.count ∷ map (λ v. v.0) f.values) ++ written fs), drop_at _ (written fs) 5 (five f t.0)) (written_at fs d t.1 i (omega arith))

-- the facts of an event by their places
facts_at : (xs : List ℕ) (d : Fact) (i : ℕ) → i < 8 → get_or (event_of xs).facts i d ≡ fact_at xs i
unfolding event_of
facts_at xs d zero h = refl
facts_at xs d (suc zero) h = refl
facts_at xs d (suc (suc zero)) h = refl
facts_at xs d (suc (suc (suc zero))) h = refl
facts_at xs d (suc (suc (suc (suc zero)))) h = refl
facts_at xs d (suc (suc (suc (suc (suc zero))))) h = refl
facts_at xs d (suc (suc (suc (suc (suc (suc zero)))))) h = refl
facts_at xs d (suc (suc (suc (suc (suc (suc (suc zero))))))) h = refl
facts_at xs d (suc (suc (suc (suc (suc (suc (suc (suc i)))))))) h = absurd (omega arith)

eight : (xs : List ℕ) → length (event_of xs).facts ≡ 8
unfolding event_of
eight xs = refl

counted : (xs : List ℕ) → count_of xs ≡ (event_of xs).count
unfolding event_of
counted xs = refl

-- an event that is read fact by fact
pub event_read : (xs : List ℕ) (n : ℕ) (fs : List Fact) → n ≡ count_of xs → length fs ≡ 8 → ((d : Fact) (k : ℕ) → k < 8 → get_or fs k d ≡ fact_at xs k)
    → ◌≡◌ {A = Event} (record { count = n; facts = fs }) (event_of xs)
event_read xs n fs h l g =
    let d : Fact = record { predicate = 0; count = 0; values = [] } in
    let e : fs ≡ (event_of xs).facts = ext_get_or d fs (event_of xs).facts (l ∙ sym (eight xs)) (λ k q. g d k (omega arith) ∙ sym (facts_at xs d k (omega arith))) in
    let c : n ≡ (event_of xs).count = h ∙ counted xs in
    λ i. record { count = c i; facts = e i }

few_written : (fs : List Fact) → Threes fs → length fs ≤ 8 → (event_of (written fs)).count ≡ length fs
unfolding event_of count_of
few_written fs t h = omega (arith, written_length fs t)

-- up to eight facts that are written are the facts of the event
pub written_given : (fs : List Fact) → Threes fs → length fs ≤ 8 → given (event_of (written fs)) ≡ fs
unfolding given
written_given fs t h =
    let d : Fact = record { predicate = 0; count = 0; values = [] } in
    let gs : List Fact = (event_of (written fs)).facts in
    let n : length (take (length fs) gs) ≡ length fs = length-take-le (length fs) gs (omega (arith, eight (written fs))) in
    rw (few_written fs t h) (ext_get_or d (take (length fs) gs) fs n
    (λ i k. get_or-take (length fs) gs i d (omega arith) ∙ facts_at (written fs) d i (omega arith) ∙ written_at fs d t i (omega arith)))

-- more than eight are too many
pub written_many : (fs : List Fact) → Threes fs → 8 < length fs → (event_of (written fs)).count ≡ 9
unfolding event_of count_of
written_many fs t h = omega (arith, written_length fs t)
